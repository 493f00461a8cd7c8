-- The claims of specs/Claims.antt, proved.
-- Assumes nothing.
use Rattle.std.proofs.Common.{◌≡◌, ℕ, ◌≤◌, true, List, [], ◌∷◌, ◌++◌, length, arith, length-append}
use Rattle.table.specs.Limits.{profile_of, edition_two}
use Rattle.table.specs.declared.limits.BytesRule.{BytesRule}
use Rattle.profile.specs.Reader.{fields_of}
use Rattle.profile.specs.Writer.{bytes_allowed}
use Rattle.profile.proofs.SoundLaws.{edition_two-sound}
use Rattle.profile.proofs.Accepted.{accepted}
use Rattle.fast_path.specs.WalkSteps.{most}
use Rattle.fast_path.specs.Claims.{FastPathAgrees}
use Rattle.fast_path.proofs.StringLaws.{small, roomy-two}
use Rattle.fast_path.proofs.Walked.{walk_agrees}

-- a byte string that is allowed has at most the bytes that its rule permits
at_most : (r : BytesRule) (bs : List ℕ) → bytes_allowed r bs ≡ true → length bs ≤ most r
at_most r [] e = omega arith
at_most r (b ∷ bs) e = small r (length (b ∷ bs)) e

pub fast_path_agrees : FastPathAgrees
fast_path_agrees =
    record {
      agrees = walk_agrees edition_two edition_two-sound;
      room = λ s z.
          let f = fields_of edition_two s in
          let h = (accepted edition_two edition_two-sound s z).0 in
          let r = profile_of edition_two f.numbers.id in
          omega (
            arith,
            at_most r.keyid f.keyid h.column.keyid,
            at_most r.«data» f.«data» h.column.«data»,
            at_most r.salt f.salt h.column.salt,
            at_most r.output f.output h.column.output,
            roomy-two f.numbers.id,
            length-append f.keyid (f.«data» ++ (f.salt ++ f.output)),
            length-append f.«data» (f.salt ++ f.output),
            length-append f.salt f.output,
          );
    }
