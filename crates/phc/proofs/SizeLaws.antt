-- Counts are small: no string is longer than 265 bytes, and no byte string longer than its string.
-- Assumes nothing.
use Prim.Native.Nat.{ℕ, ◌≤◌}
use mathlib.Core.List.{List, [], ◌∷◌}
use mathlib.Core.Path.{◌≡◌, ◌∙◌}
use native.Mathlib.Omega.{arith}
use lib.ListN.{length}
use Rattle.text.specs.Place.{outcome}
use Rattle.text.proofs.Writing.{after_counted}
use Rattle.b64.proofs.B64Laws.{length_encode}
use Rattle.table.specs.Limits.{edition_two, longest_permitted}
use Rattle.profile.specs.Fields.{FieldSet, chosen, write_bytes}
use Rattle.profile.specs.Reader.{reader_number, fields_of}
use Rattle.profile.specs.Writer.{Allows, writer_number, formatted, short_fields}
use Rattle.profile.specs.PieceTexts.{tagged_length}
use Rattle.profile.specs.Entries.{decoded, writing, short_writing}
use Rattle.profile.specs.declared.fields.ByteString.{ByteString}
use Rattle.profile.specs.declared.fields.ByteString.TheVariants.{Keyid, Data, Salt, Output}
use Rattle.profile.proofs.Allows.{here, allowed}
use Rattle.profile.proofs.SoundLaws.{edition_two-sound}
use Rattle.profile.proofs.Texts.{formatted-length}
use Rattle.profile.proofs.Lengths.{most_room}
use Rattle.profile.proofs.Accepted.{accepted}
use Rattle.profile.proofs.Promises.{promises}
use Rattle.directory.specs.Entries.{directory_writer_number, directory_formatted, directory_writing}
use Rattle.directory.proofs.WriterLaws.{braced_most}

-- ---- written

pub written_small : (f : FieldSet) (buffer : List ℕ) (number count : ℕ) (left : List ℕ) → outcome number count left ≡ writing edition_two f buffer 0 → number ≡ 0 → count ≤ longest_permitted
unfolding writing
written_small f buffer number count left e z =
    let q = after_counted (writer_number edition_two f) buffer (formatted edition_two f) number count left e z in
    omega (arith, q.1, most_room f (allowed edition_two f q.0))

-- a braced text is as long as its string
pub braced_small : (f : FieldSet) (buffer : List ℕ) (number count : ℕ) (left : List ℕ) → outcome number count left ≡ directory_writing edition_two f buffer 0 → number ≡ 0
    → count ≤ longest_permitted
unfolding directory_writing
braced_small f buffer number count left e z =
    let q = after_counted (directory_writer_number edition_two f) buffer (directory_formatted edition_two f) number count left e z in
    omega (arith, q.1, braced_most f q.0)

-- the short writer is the writer for its defaults
pub short_small : (k : ℕ) (salt output buffer : List ℕ) (number count : ℕ) (left : List ℕ) → outcome number count left ≡ short_writing edition_two k salt output buffer 0
    → number ≡ 0 → count ≤ longest_permitted
short_small k salt output buffer number count left e z =
    written_small (short_fields edition_two k salt output) buffer number count left (e ∙ promises.short_agrees.writes k salt output buffer 0) z

-- ---- decoded

longer : (tag : ℕ) (bs : List ℕ) → length bs ≤ tagged_length tag (write_bytes bs)
longer tag [] = omega arith
longer tag (b ∷ bs) = omega (arith, length_encode (b ∷ bs))

chosen_small : (f : FieldSet) → Allows (here edition_two f) f → (c : ByteString) → length (chosen c f) ≤ longest_permitted
chosen_small f h Keyid = omega (arith, longer 7 f.keyid, formatted-length edition_two f, most_room f h)
chosen_small f h Data = omega (arith, longer 6 f.«data», formatted-length edition_two f, most_room f h)
chosen_small f h Salt = omega (arith, longer 1 f.salt, formatted-length edition_two f, most_room f h)
chosen_small f h Output = omega (arith, longer 1 f.output, formatted-length edition_two f, most_room f h)

pub decoded_small : (c : ByteString) (s buffer : List ℕ) (number count : ℕ) (left : List ℕ) → outcome number count left ≡ decoded edition_two c s buffer 0 → number ≡ 0 → count ≤ longest_permitted
unfolding decoded
decoded_small c s buffer number count left e z =
    let f = fields_of edition_two s in
    let q = after_counted (reader_number edition_two s) buffer (chosen c f) number count left e z in
    omega (arith, q.1, chosen_small f (accepted edition_two edition_two-sound s q.0).0.column c)
