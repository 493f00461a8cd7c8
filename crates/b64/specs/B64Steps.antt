-- What the private steps of the B64 decoder promise each other: the bits of a group, and the bytes of a group or of the rest. Nothing here is a
-- rule: no public contract cites it.
-- Assumes nothing.
use Rattle.std.specs.Prelude.{ℕ, ◌+◌, ◌*◌, ◌/◌, ◌%◌, List, [], ◌∷◌, get_or}
use Rattle.b64.specs.B64.{sextet, group_of}

-- four numbers of six bits as one of 24: the formula of `group_of`, without its test
abbrev pub bits_of : ℕ → ℕ → ℕ → ℕ → ℕ
bits_of a b c d = (a * 64 + b) * 4096 + (c * 64 + d)

-- the 24 bits of the four characters at a place, or 2^24
abbrev pub group_at : List ℕ → ℕ → ℕ
group_at s i = group_of (sextet (get_or s i 0)) (sextet (get_or s (i + 1) 0)) (sextet (get_or s (i + 2) 0)) (sextet (get_or s (i + 3) 0))

-- the bytes of 24 bits, of three sextets, and of two
abbrev pub three : ℕ → List ℕ
three n = n / 65536 ∷ n / 256 % 256 ∷ n % 256 ∷ []

abbrev pub two : ℕ → ℕ → ℕ → List ℕ
two a b c = (a * 4 + b / 16) ∷ (b % 16 * 16 + c / 4) ∷ []

abbrev pub one : ℕ → ℕ → List ℕ
one a b = (a * 4 + b / 16) ∷ []
