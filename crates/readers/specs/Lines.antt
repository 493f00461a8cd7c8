-- The lines of a text: a line ends at a line feed, and a last line without one counts if it has any byte.
-- Assumes nothing.
use Rattle.std.specs.Prelude.{ℕ, ◌==◌, cond, List, [], ◌∷◌}

-- a byte before the first line
abbrev pub begin_with : ℕ → List (List ℕ) → List (List ℕ)
begin_with c [] = (c ∷ []) ∷ []
begin_with c (l ∷ ls) = (c ∷ l) ∷ ls

unfoldable pub lines : List ℕ → List (List ℕ)
lines [] = []
lines (c ∷ s) = cond (c == 10) ([] ∷ lines s) (begin_with c (lines s))
