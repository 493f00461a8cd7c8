-- Demand 3, the agreement of the entries, lengths and lanes: over every edition that passes the tests that they take, and for edition two.
-- Assumes nothing.
use Prim.Native.Nat.{ℕ, ◌≤◌}
use mathlib.Core.Bool.{Bool, true, not, ◌||◌}
use mathlib.Core.List.{List}
use mathlib.Core.Path.{◌≡◌, refl, sym, ◌∙◌, ap}
use native.Mathlib.Omega.{arith}
use lib.Dec.{leb}
use lib.ListN.{length}
use borrow.Author.Tests.{leb-true, le-leb, lt-leb, ltb-false}
use Rattle.text.specs.Text.{every}
use Rattle.text.proofs.Tests.{from_within, implied}
use Rattle.text.proofs.Writing.{after_zero}
use Rattle.grammar.specs.Pieces.{Pieces, pieces}
use Rattle.table.specs.Limits.{Profile, lowest, highest, profile_of, edition_two, longest_permitted}
use Rattle.profile.specs.Fields.{FieldSet, write_bytes}
use Rattle.profile.specs.Reader.{fields_of}
use Rattle.profile.specs.Writer.{Permitted, writer_number, field_pieces, formatted}
use Rattle.profile.specs.Entries.{kind_of, reading, decoded, writing}
use Rattle.profile.specs.Spelling.{Demand3, rule_spelling, EntriesDemand3, EntriesAgree}
use Rattle.profile.specs.Claims.{profile_rules, profile_entries, Lanes, Lengths}
use Rattle.profile.specs.Sound.{sound}
use Rattle.profile.specs.Entries.{Reading}
use Rattle.profile.proofs.ReadLaws.{reading_number, reading_fields}
use Rattle.profile.proofs.SoundLaws.{at_id, edition_two-sound}
use Rattle.profile.proofs.Written.{pieces_of, written}
use Rattle.profile.proofs.Accepted.{accepted}
use Rattle.profile.proofs.Allows.{not_refused, permitted}
use Rattle.profile.proofs.Demand3.{Inverse, demand_3_rules, Follows, writes_own, carries_written, demand_3_entries}
use Rattle.profile.proofs.Lengths.{bounds_two, most_room}

-- ---- demand 3, over the rules

inverse : (e : List Profile) → sound e ≡ true → Inverse (profile_rules e)
inverse e ok = record { accepted = accepted e ok; written = written e ok }

pub demand_3 : (e : List Profile) → sound e ≡ true → Demand3 (rule_spelling (profile_rules e))
demand_3 e ok = demand_3_rules (profile_rules e) (inverse e ok)

-- ---- outcomes

read_kind : (e : List Profile) (ok : sound e ≡ true) (f : FieldSet) → Permitted e f
    → ◌≡◌ {A = Reading} (record { number = 0; kind = kind_of (pieces (formatted e f)).salt (pieces (formatted e f)).output; fields = f.numbers })
    (record { number = 0; kind = kind_of (write_bytes f.salt) (write_bytes f.output); fields = f.numbers })
unfolding field_pieces
read_kind e ok f h = ap (λ (p : Pieces). record { number = 0; kind = kind_of p.salt p.output; fields = f.numbers }) (pieces_of e ok f h)

-- what the entries give is what the rules say
module _ (e : List Profile) (ok : sound e ≡ true) (short : (f : FieldSet) → Permitted e f → length (formatted e f) ≤ longest_permitted) where
  follows : Follows (profile_rules e) (profile_entries e) (writer_number e)
  unfolding decoded writing
  follows =
      record {
        reading_number = reading_number e;
        reading_fields = reading_fields e;
        decoded_is = λ c s buffer at. refl;
        writing_is = λ f buffer at. refl;
        not_refused = not_refused e;
        short = short;
      }

  pub entries_demand_3 : EntriesDemand3 (profile_entries e) (Permitted e)
  entries_demand_3 = demand_3_entries (profile_rules e) (profile_entries e) (writer_number e) follows (inverse e ok)

  pub entries_agree : EntriesAgree (profile_rules e) (profile_entries e)
  unfolding writing reading
  entries_agree =
      record {
        writes = writes_own (profile_rules e) (profile_entries e) (writer_number e) follows;
        writes_only = λ f b buffer at z.
            let q = after_zero (writer_number e f) buffer at (formatted e f) z in
            (permitted e f q.0 b, q.1);
        reads = λ f h.
            let w = written e ok f h in
            rw (w.0, w.1) (read_kind e ok f h);
        carries = carries_written (profile_rules e) (profile_entries e) (writer_number e) follows (inverse e ok);
      }

-- ---- edition two: lengths, agreement, lanes

pub lengths : Lengths
lengths =
    record {
      any_most = λ f h. most_room f h.column;
      argon2_least = λ f h k o. rw (le-leb f.numbers.id 3 k) at ((bounds_two f h.column).1 o);
      pbkdf2_most = λ f h k. rw (lt-leb f.numbers.id 3 k) at (bounds_two f h.column).0;
      pbkdf2_least = λ f h k o. rw (lt-leb f.numbers.id 3 k) at ((bounds_two f h.column).1 o);
    }

pub entries_agree_two : EntriesAgree (profile_rules edition_two) (profile_entries edition_two)
entries_agree_two = entries_agree edition_two edition_two-sound lengths.any_most

-- an id up to 3 has at least one lane
laned : ℕ → Profile → Bool
laned k r = not (leb k 3) || leb 1 (lowest r.p)

all_laned : every laned 1 edition_two ≡ true
unfolding laned edition_two
all_laned = refl

one_lane : (f : FieldSet) → Permitted edition_two f → f.numbers.id ≤ 3 → 1 ≤ f.numbers.p
unfolding laned
one_lane f h k =
    let r = profile_of edition_two f.numbers.id in
    let t = implied (leb f.numbers.id 3) (leb 1 (lowest r.p)) (at_id laned edition_two all_laned f.numbers.id h.column.id) (le-leb f.numbers.id 3 k) in
    omega (arith, leb-true 1 (lowest r.p) t, (from_within (lowest r.p) (highest r.p) f.numbers.p h.column.p).0)

pub lanes : Lanes
lanes =
    record {
      lane = λ s z k.
          let a = sym (reading_number edition_two s) ∙ z in
          let h = (accepted edition_two edition_two-sound s a).0 in
          let q = reading_fields edition_two s a in
          rw q (one_lane (fields_of edition_two s) h (rw q at k), ltb-false _ _ h.column.lanes);
    }
