-- A span that may not be there: its text by whether its place is 0.
-- Assumes nothing.
use Prim.Native.Nat.{ℕ}
use mathlib.Core.Path.{◌≡◌}
use mathlib.Core.List.{List}
use mathlib.Core.Option.{none, some}
use borrow.Author.Tests.{eq-eqb, ne_eqb}
use Rattle.grammar.specs.Parts.{part_at}
use Rattle.grammar.specs.declared.places.Span.{Span}
use Rattle.profile.specs.ReaderSteps.{span_text}

module _ (s : List ℕ) (w : Span) where
  pub optional_none : w.at ≡ 0 → span_text s w ≡ none
  optional_none z = rw (eq-eqb w.at 0 z)

  pub optional_some : (w.at ≡ 0 → ⊥) → span_text s w ≡ some (part_at s w)
  optional_some n = rw (ne_eqb w.at 0 n)
