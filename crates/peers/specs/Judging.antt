-- How many of the lines' numbers are acceptance.
-- Assumes nothing.
use Rattle.std.specs.Prelude.{ℕ, suc, cond, List, [], ◌∷◌, eqb}

abbrev pub accepted : List ℕ → ℕ
accepted [] = 0
accepted (n ∷ ns) = cond (eqb n 0) (suc (accepted ns)) (accepted ns)
