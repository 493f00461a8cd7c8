-- What the code of the rules needs: the version by its outcomes, a piece at its span, and the rows of a sorted string.
-- Assumes nothing.
use Prim.Native.Nat.{ℕ, ◌≤◌, ◌<◌}
use mathlib.Core.Path.{◌≡◌, refl, ◌∙◌, ap}
use mathlib.Core.List.{List, [], ◌∷◌}
use mathlib.Core.Bool.{true, not}
use native.Mathlib.Omega.{arith}
use lib.ListN.{length, drop}
use Rattle.decimal.specs.Decimal.{is_decimal}
use Rattle.decimal.specs.Numerals.{numeral, limited_reading}
use Rattle.decimal.specs.declared.error.DecimalError.TheVariants.{Malformed}
use Rattle.std.specs.Prelude.{Ok, Err}
use Rattle.decimal.proofs.NumeralLaws.{digits_limited}
use Rattle.grammar.specs.Limits.{largest_version}
use Rattle.grammar.specs.Pieces.{pieces}
use Rattle.grammar.specs.Items.{items, items_of}
use Rattle.grammar.specs.Rules.{version_reading, rule_of, begins_with_dollar, breaks}
use Rattle.grammar.specs.Layout.{places_of, span_of}
use Rattle.grammar.specs.Parts.{part_at}
use Rattle.grammar.specs.declared.places.Piece.{Piece}
use Rattle.grammar.specs.declared.places.Piece.TheVariants.{Params}
use Rattle.grammar.specs.declared.places.Span.{Span}
use Rattle.grammar.specs.declared.places.Places.{Places}
use Rattle.grammar.proofs.Reading.{optional_present}

pub version_none : (s : List ℕ) → length s < 2 → version_reading s ≡ Err Malformed
unfolding version_reading limited_reading numeral is_decimal
version_none [] h = refl
version_none (c ∷ []) h = refl
version_none (c ∷ d ∷ s) h = absurd (omega arith)

-- a version that is read is in range
pub version_most : (s : List ℕ) (n : ℕ) → version_reading s ≡ Ok n → n ≤ largest_version
unfolding version_reading
version_most s n e = (digits_limited 0 largest_version (drop 2 s) n e).2

module _ (s : List ℕ) (h : begins_with_dollar s ≡ true) (w : Piece) (places : Places) (e : places ≡ places_of (pieces s)) (v : Span) (q : v ≡ span_of places w) where
  same_place : v ≡ span_of (places_of (pieces s)) w
  same_place = q ∙ ap (λ (x : Places). span_of x w) e

  pub keeps_present : (v.at ≡ 0 → ⊥) → breaks (pieces s) w ≡ not (rule_of w (part_at s v))
  keeps_present z = rw (optional_present s h w (rw same_place at z), same_place)

module _ (s : List ℕ) (h : begins_with_dollar s ≡ true) (places : Places) (e : places ≡ places_of (pieces s)) where
  pub items_present : (places.params.at ≡ 0 → ⊥) → length (items_of (pieces s).params) ≡ length (items (part_at s places.params))
  items_present z = rw (optional_present s h Params (rw e at z), e)
