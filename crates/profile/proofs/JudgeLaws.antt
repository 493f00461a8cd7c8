-- Rows 8 to 15 over a profile, as the code has them: one step's rows after the other's.
-- Assumes nothing.
use mathlib.Core.Bool.{Bool, true, false, not}
use mathlib.Core.Path.{◌≡◌, refl, sym, ◌∙◌}
use mathlib.Core.List.{List, [], ◌∷◌, ◌++◌}
use native.Mathlib.Omega.{arith}
use Rattle.text.specs.Text.{violates}
use Rattle.text.specs.Rows.{Row, row, first_number}
use Rattle.text.proofs.Rows.{rows_stop, rows_next}
use Rattle.refusals.specs.Numbers.{number_of}
use Rattle.refusals.specs.declared.Refusal.{Refusal}
use Rattle.refusals.specs.declared.Refusal.TheVariants.{WrongSalt, WrongOutput}
use Rattle.grammar.specs.Pieces.{OptionalText}
use Rattle.table.specs.Limits.{Profile, version_allowed}
use Rattle.table.specs.declared.version.Version.{Version}
use Rattle.profile.specs.Fields.{is_bytes, is_decoded_size}
use Rattle.profile.specs.ReaderSteps.{Answers}
use Rattle.std.specs.Prelude.{Err}
use Rattle.profile.specs.Reader.{missing_or_unknown, number_rows, bytes_and_default_rows, rows_for}

-- no refusal has the number of acceptance
pub never_zero : (e : Refusal) → number_of e ≡ 0 → ⊥
never_zero e z = grind arith

-- rows 8 to 11 don't apply
module _ {A : Type 0} (r : Profile) (v : Version) (vs : List OptionalText) (unmatched : Bool) (salt output : OptionalText) (value : A)
    (k : not r.known ≡ false) (a : true ≡ version_allowed r.versions v) (u : unmatched ≡ false) (m : false ≡ missing_or_unknown r vs)
    (n : 0 ≡ first_number (number_rows r vs)) where
  abbrev last_rows : List Row
  last_rows = row 14 (violates (is_bytes r.salt) salt) ∷ row 15 (violates (is_decoded_size r.output) output) ∷ []

  past_numbers : first_number (rows_for r v vs unmatched salt output) ≡ first_number (bytes_and_default_rows r vs ++ last_rows)
  past_numbers = simp (k, ← a, u, ← m) (rows_next (number_rows r vs) (bytes_and_default_rows r vs ++ last_rows) 0 refl n refl)

  past_defaults : 0 ≡ first_number (bytes_and_default_rows r vs) → first_number (rows_for r v vs unmatched salt output) ≡ first_number last_rows
  past_defaults z = past_numbers ∙ rows_next (bytes_and_default_rows r vs) last_rows 0 refl z refl

  pub at_defaults : (e : Refusal) → number_of e ≡ first_number (bytes_and_default_rows r vs) → Answers (rows_for r v vs unmatched salt output) value (Err e)
  at_defaults e h = record { number_is = sym (past_numbers ∙ rows_stop (bytes_and_default_rows r vs) last_rows (number_of e) h (never_zero e)); value_is = tt }

  pub at_salt : 0 ≡ first_number (bytes_and_default_rows r vs) → true ≡ violates (is_bytes r.salt) salt
      → Answers (rows_for r v vs unmatched salt output) value (Err WrongSalt)
  at_salt z h = record { number_is = sym (past_defaults z ∙ rw (← h)); value_is = tt }

  pub at_output : 0 ≡ first_number (bytes_and_default_rows r vs) → false ≡ violates (is_bytes r.salt) salt → true ≡ violates (is_decoded_size r.output) output
      → Answers (rows_for r v vs unmatched salt output) value (Err WrongOutput)
  at_output z h k = record { number_is = sym (past_defaults z ∙ rw (← h, ← k)); value_is = tt }
