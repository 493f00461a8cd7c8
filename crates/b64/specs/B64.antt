-- 'B64 is RFC 4648 section 4 without padding or whitespace': as functions on lists. A character stands for six bits, its sextet.
-- Assumes nothing.
use Rattle.std.specs.Prelude.{ℕ, ◌+◌, ◌-◌, ◌*◌, ◌/◌, ◌%◌, ◌<◌, ◌≡◌, Bool, not, cond, ◌&&◌, List, [], ◌∷◌, leb, ltb, eqb, length, get_or}
use Rattle.text.specs.Text.{within, all}
use Rattle.text.specs.Place.{Outcome, put, put_after}

-- `A`..`Z` 0 to 25, `a`..`z` 26 to 51, `0`..`9` 52 to 61, `+` 62, `/` 63; 255 for a byte outside the alphabet
unfoldable pub sextet : ℕ → ℕ
sextet c =
    cond (within 65 90 c) (c - 65)
    (cond (within 97 122 c) (c - 71)
    (cond (within 48 57 c) (c + 4) (cond (eqb c 43) 62 (cond (eqb c 47) 63 255))))

-- the character of a sextet below 64
unfoldable pub letter : ℕ → ℕ
letter v =
    cond (ltb v 26) (v + 65)
    (cond (ltb v 52) (v + 71)
    (cond (ltb v 62) (v - 4) (cond (eqb v 62) 43 47)))

-- a table that holds the sextet of each byte, and one that holds the letter of each sextet
abbrev pub Sextets : List ℕ → Type 0
Sextets t = (c : ℕ) → c < 256 → get_or t c 0 ≡ sextet c

abbrev pub Letters : List ℕ → Type 0
Letters t = (v : ℕ) → v < 64 → get_or t v 0 ≡ letter v

-- ---- canonical texts

abbrev pub in_alphabet : ℕ → Bool
in_alphabet c = ltb (sextet c) 64

-- the last character; of no text any would do, since no bit is unused there
abbrev pub last : List ℕ → ℕ
last [] = 0
last (c ∷ []) = c
last (c ∷ d ∷ t) = last (d ∷ t)

-- two to the number of unused low bits: 4 bits when the remainder is 2, 2 bits when it is 3
abbrev pub low_bits_modulus : ℕ → ℕ
low_bits_modulus remainder = cond (eqb remainder 2) 16 (cond (eqb remainder 3) 4 1)

-- the unused low bits of the last character are zero
unfoldable pub low_bits_zero : List ℕ → Bool
low_bits_zero t = eqb (sextet (last t) % low_bits_modulus (length t % 4)) 0

-- 01's canonical: every byte is of the alphabet, the length modulo 4 is not 1, and the unused low bits of the last character are zero
unfoldable pub canonical : List ℕ → Bool
canonical t = all in_alphabet t && not (eqb (length t % 4) 1) && low_bits_zero t

-- ---- from characters to bytes, four to three. Defined on every text; contracts cite it for canonical ones

abbrev pub byte0 : ℕ → ℕ → ℕ
byte0 a b = sextet a * 4 + sextet b / 16

abbrev pub byte1 : ℕ → ℕ → ℕ
byte1 b c = sextet b % 16 * 16 + sextet c / 4

abbrev pub byte2 : ℕ → ℕ → ℕ
byte2 c d = sextet c % 4 * 64 + sextet d

unfoldable pub decode : List ℕ → List ℕ
decode [] = []
decode (a ∷ []) = []
decode (a ∷ b ∷ []) = byte0 a b ∷ []
decode (a ∷ b ∷ c ∷ []) = byte0 a b ∷ byte1 b c ∷ []
decode (a ∷ b ∷ c ∷ d ∷ t) = byte0 a b ∷ byte1 b c ∷ byte2 c d ∷ decode t

-- the 24 bits of a group of four sextets; 2^24 where one of them is 255, for a byte outside the alphabet: four sextets sum to at most 252.
-- Free answer: for numbers from 64 to 254, which are no sextets, the same formula where the sum is at most 252, else 2^24
abbrev pub group_of : ℕ → ℕ → ℕ → ℕ → ℕ
group_of a b c d = cond (leb (a + b + c + d) 252) ((a * 64 + b) * 4096 + (c * 64 + d)) 16777216

-- ---- from bytes to characters, three to four; a byte missing in the last group counts as 0

abbrev pub char0 : ℕ → ℕ
char0 x = letter (x / 4)

abbrev pub char1 : ℕ → ℕ → ℕ
char1 x y = letter (x % 4 * 16 + y / 16)

abbrev pub char2 : ℕ → ℕ → ℕ
char2 y z = letter (y % 16 * 4 + z / 64)

abbrev pub char3 : ℕ → ℕ
char3 z = letter (z % 64)

unfoldable pub encode : List ℕ → List ℕ
encode [] = []
encode (x ∷ []) = char0 x ∷ char1 x 0 ∷ []
encode (x ∷ y ∷ []) = char0 x ∷ char1 x y ∷ char2 y 0 ∷ []
encode (x ∷ y ∷ z ∷ b) = char0 x ∷ char1 x y ∷ char2 y z ∷ char3 z ∷ encode b

-- ---- the public entries

-- the decoder's row before the place is looked at
abbrev pub decode_number : List ℕ → ℕ
decode_number t = cond (canonical t) 0 12

-- what the decoder gives: 12, then 17, or the bytes from the place on
abbrev pub decoding : List ℕ → List ℕ → ℕ → Outcome
decoding t buffer at = put_after (decode_number t) buffer at (decode t)

-- what the encoder gives: 17, or the text from the place on
abbrev pub encoding : List ℕ → List ℕ → ℕ → Outcome
encoding bytes buffer at = put buffer at (encode bytes)
