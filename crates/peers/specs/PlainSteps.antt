-- What the private steps of the plain decoder of B64 promise each other. Nothing here is a rule: no public contract cites it.
-- Assumes nothing.
use Rattle.std.specs.Prelude.{ℕ, ◌+◌, ◌*◌, ◌/◌, ◌%◌, cond, List, [], ◌∷◌, eqb}

-- the byte that a character completes, by its place in its group of four, from the sextet before it and its own
abbrev pub completed_byte : ℕ → ℕ → ℕ → ℕ
completed_byte place prior own =
    cond (eqb place 1) (prior * 4 + own / 16) (cond (eqb place 2) (prior % 16 * 16 + own / 4) (prior % 4 * 64 + own))

-- the same as a list: the first character of a group completes no byte
abbrev pub completed_bytes : ℕ → ℕ → ℕ → List ℕ
completed_bytes place prior own = cond (eqb place 0) [] (completed_byte place prior own ∷ [])
