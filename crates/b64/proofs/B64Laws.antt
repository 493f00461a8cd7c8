-- Laws of B64: the two maps of the alphabet undo one another, canonical goes by groups, the lengths, and the two round trips.
-- Assumes nothing.
use Prim.Native.Nat.{ℕ, suc, ◌+◌, ◌*◌, ◌/◌, ◌%◌, ◌≤◌, ◌<◌}
use mathlib.Core.Path.{◌≡◌, refl, sym, ap, ap₂, ◌∙◌}
use mathlib.Core.Bool.{Bool, true, false, not, cond, ◌&&◌, and_assoc, and-false, true-and, false≢true}
use mathlib.Core.List.{List, [], ◌∷◌}
use native.Mathlib.Omega.{arith}
use native.Mathlib.Decide.{dec_lt}
use lib.Dec.{eqb}
use lib.ListN.{length, replicate}
use borrow.Author.Tests.{le-leb, lt-leb, ne_eqb, eq-eqb, eqb-true, ltb-true, leb-true, lt-ltb}
use Rattle.text.specs.Text.{all, is_byte}
use Rattle.text.proofs.Tests.{both, and-true}
use Rattle.text.proofs.Table.{at}
use Rattle.b64.specs.Lengths.{bytes_of, chars_of}
use Rattle.b64.specs.B64.{sextet, letter, in_alphabet, low_bits_zero, canonical, byte0, byte1, byte2, decode, char0, char1, char2, char3, encode}

-- ---- the alphabet: a computed test for each way

-- each number below 64 is the sextet of its letter
back : ℕ → ℕ → Bool
back v _ = eqb (sextet (letter v)) v

pub sextet_letter : (v : ℕ) → v < 64 → sextet (letter v) ≡ v
unfolding back sextet letter
sextet_letter v h = eqb-true _ _ (at back (replicate 64 0) refl v h)

-- each byte of the alphabet is the letter of its sextet
forth : ℕ → ℕ → Bool
forth c _ = cond (in_alphabet c) (eqb (letter (sextet c)) c) true

-- past 255 no number is a character
outside : (c : ℕ) → 256 ≤ c → sextet c ≡ 255
unfolding sextet
outside c h =
    simp (
      lt-leb c 90 (omega arith),
      lt-leb c 122 (omega arith),
      lt-leb c 57 (omega arith),
      le-leb 65 c (omega arith),
      le-leb 97 c (omega arith),
      le-leb 48 c (omega arith),
      ne_eqb c 43 (omega arith),
      ne_eqb c 47 (omega arith),
    )

pub alphabet_byte : (c : ℕ) → in_alphabet c ≡ true → c < 256
alphabet_byte c e =
    let l = ltb-true (sextet c) 64 e in
    elim (dec_lt c 256) [ yes h ↦ h | no n ↦ absurd (omega (arith, outside c (omega arith))) ]

pub letter_sextet : (c : ℕ) → in_alphabet c ≡ true → letter (sextet c) ≡ c
unfolding forth sextet letter
letter_sextet c e = eqb-true _ _ (rw e at (at forth (replicate 256 0) refl c (alphabet_byte c e)))

-- ---- canonical, by groups

unfoldable pub grouped : List ℕ → Bool
grouped [] = true
grouped (a ∷ []) = false
grouped (a ∷ b ∷ []) = in_alphabet a && (in_alphabet b && eqb (sextet b % 16) 0)
grouped (a ∷ b ∷ c ∷ []) = in_alphabet a && (in_alphabet b && (in_alphabet c && eqb (sextet c % 4) 0))
grouped (a ∷ b ∷ c ∷ d ∷ t) = in_alphabet a && (in_alphabet b && (in_alphabet c && (in_alphabet d && grouped t)))

mod4 : (n : ℕ) → suc (suc (suc (suc n))) % 4 ≡ n % 4
mod4 n = omega arith

pub mod1 : (n : ℕ) → eqb (n % 1) 0 ≡ true
mod1 n = eq-eqb (n % 1) 0 (omega arith)

-- the last character's rule passes over a whole group
low_step : (a b c d : ℕ) (t : List ℕ) → low_bits_zero (a ∷ b ∷ c ∷ d ∷ t) ≡ low_bits_zero t
unfolding low_bits_zero
low_step a b c d [] = mod1 (sextet d) ∙ sym (mod1 (sextet 0))
low_step a b c d (x ∷ t) = rw (mod4 (suc (length t)))

regroup : (p q r s u v w : Bool) → ((p && (q && (r && (s && u)))) && v && w) ≡ (p && (q && (r && (s && (u && v && w)))))
regroup p q r s u v w = simp and_assoc

pub canonical-grouped : (t : List ℕ) → canonical t ≡ grouped t
unfolding canonical grouped low_bits_zero
canonical-grouped [] = mod1 (sextet 0)
canonical-grouped (a ∷ []) = simp (and-false)
canonical-grouped (a ∷ b ∷ []) = simp (and_assoc, true-and)
canonical-grouped (a ∷ b ∷ c ∷ []) = simp (and_assoc, true-and)
canonical-grouped (a ∷ b ∷ c ∷ d ∷ t) =
    regroup (in_alphabet a) (in_alphabet b) (in_alphabet c) (in_alphabet d) (all in_alphabet t) _ _
    ∙ ap (λ (g : Bool). in_alphabet a && (in_alphabet b && (in_alphabet c && (in_alphabet d && g))))
    (ap₂ (λ (n : ℕ) (l : Bool). all in_alphabet t && not (eqb n 1) && l) (mod4 (length t)) (low_step a b c d t) ∙ canonical-grouped t)

-- what grouped says of the first group
pub pair : (a b : ℕ) → grouped (a ∷ b ∷ []) ≡ true → (sextet a < 64) × (sextet b < 64) × (sextet b % 16 ≡ 0)
unfolding grouped
pair a b e =
    let e₁ : (in_alphabet b && eqb (sextet b % 16) 0) ≡ true = (both (in_alphabet a) _ e).1 in
    (ltb-true _ _ (both (in_alphabet a) _ e).0, ltb-true _ _ (both (in_alphabet b) _ e₁).0, eqb-true _ _ (both (in_alphabet b) _ e₁).1)

pub triple : (a b c : ℕ) → grouped (a ∷ b ∷ c ∷ []) ≡ true
    → (sextet a < 64) × (sextet b < 64) × (sextet c < 64) × (sextet c % 4 ≡ 0)
unfolding grouped
triple a b c e =
    let e₁ : (in_alphabet b && (in_alphabet c && eqb (sextet c % 4) 0)) ≡ true = (both (in_alphabet a) _ e).1 in
    let e₂ : (in_alphabet c && eqb (sextet c % 4) 0) ≡ true = (both (in_alphabet b) _ e₁).1 in (
      ltb-true _ _ (both (in_alphabet a) _ e).0,
      ltb-true _ _ (both (in_alphabet b) _ e₁).0,
      ltb-true _ _ (both (in_alphabet c) _ e₂).0,
      eqb-true _ _ (both (in_alphabet c) _ e₂).1,
    )

pub quad : (a b c d : ℕ) (t : List ℕ) → grouped (a ∷ b ∷ c ∷ d ∷ t) ≡ true
    → (sextet a < 64) × (sextet b < 64) × (sextet c < 64) × (sextet d < 64) × (grouped t ≡ true)
unfolding grouped
quad a b c d t e =
    let e₁ : (in_alphabet b && (in_alphabet c && (in_alphabet d && grouped t))) ≡ true = (both (in_alphabet a) _ e).1 in
    let e₂ : (in_alphabet c && (in_alphabet d && grouped t)) ≡ true = (both (in_alphabet b) _ e₁).1 in
    let e₃ : (in_alphabet d && grouped t) ≡ true = (both (in_alphabet c) _ e₂).1 in (
      ltb-true _ _ (both (in_alphabet a) _ e).0,
      ltb-true _ _ (both (in_alphabet b) _ e₁).0,
      ltb-true _ _ (both (in_alphabet c) _ e₂).0,
      ltb-true _ _ (both (in_alphabet d) _ e₃).0,
      (both (in_alphabet d) _ e₃).1,
    )

-- ---- every character of a canonical text is of the alphabet

pub canonical_alphabet : (t : List ℕ) → canonical t ≡ true → all in_alphabet t ≡ true
unfolding canonical
canonical_alphabet t e =
    let e₁ : (all in_alphabet t && not (eqb (length t % 4) 1)) ≡ true = (both _ (low_bits_zero t) e).0 in
    (both (all in_alphabet t) _ e₁).0

-- ---- lengths

pub length_decode : (t : List ℕ) → length (decode t) ≡ bytes_of (length t)
unfolding decode
length_decode [] = refl
length_decode (a ∷ []) = refl
length_decode (a ∷ b ∷ []) = refl
length_decode (a ∷ b ∷ c ∷ []) = refl
length_decode (a ∷ b ∷ c ∷ d ∷ t) = omega (arith, length_decode t)

pub length_encode : (b : List ℕ) → length (encode b) ≡ chars_of (length b)
unfolding encode
length_encode [] = refl
length_encode (x ∷ []) = refl
length_encode (x ∷ y ∷ []) = refl
length_encode (x ∷ y ∷ z ∷ b) = omega (arith, length_encode b)

-- ---- a canonical text is the encoding of what it decodes to

-- the letter of a number that is the sextet of c
letter_of : (c v : ℕ) → sextet c < 64 → v ≡ sextet c → letter v ≡ c
letter_of c v h e = ap letter e ∙ letter_sextet c (lt-ltb (sextet c) 64 h)

encode-grouped : (t : List ℕ) → grouped t ≡ true → encode (decode t) ≡ t
unfolding encode decode grouped
encode-grouped [] e = refl
encode-grouped (a ∷ []) e = absurd (false≢true e)
encode-grouped (a ∷ b ∷ []) e =
    let h = pair a b e in
    cc (letter_of a (byte0 a b / 4) h.0 (omega arith), letter_of b (byte0 a b % 4 * 16 + 0) h.1 (omega arith))
encode-grouped (a ∷ b ∷ c ∷ []) e =
    let h = triple a b c e in
    cc (
      letter_of a (byte0 a b / 4) h.0 (omega arith),
      letter_of b (byte0 a b % 4 * 16 + byte1 b c / 16) h.1 (omega arith),
      letter_of c (byte1 b c % 16 * 4 + 0) h.2 (omega arith),
    )
encode-grouped (a ∷ b ∷ c ∷ d ∷ t) e =
    let h = quad a b c d t e in
    cc (
      letter_of a (byte0 a b / 4) h.0 (omega arith),
      letter_of b (byte0 a b % 4 * 16 + byte1 b c / 16) h.1 (omega arith),
      letter_of c (byte1 b c % 16 * 4 + byte2 c d / 64) h.2 (omega arith),
      letter_of d (byte2 c d % 64) h.3 (omega arith),
      encode-grouped t h.4,
    )

pub encode_decode : (t : List ℕ) → canonical t ≡ true → encode (decode t) ≡ t
encode_decode t e = encode-grouped t (sym (canonical-grouped t) ∙ e)

-- ---- bytes are what their encoding decodes to, and the encoding is canonical

first_byte : (x : ℕ) (b : List ℕ) → all is_byte (x ∷ b) ≡ true → (x ≤ 255) × (all is_byte b ≡ true)
first_byte x b e = let p = both (is_byte x) (all is_byte b) e in (leb-true x 255 p.0, p.1)

-- the sextets of a group's characters
s0 : (x : ℕ) → x ≤ 255 → sextet (char0 x) ≡ x / 4
s0 x h = sextet_letter (x / 4) (omega arith)

s1 : (x y : ℕ) → y ≤ 255 → sextet (char1 x y) ≡ x % 4 * 16 + y / 16
s1 x y h = sextet_letter (x % 4 * 16 + y / 16) (omega arith)

s2 : (y z : ℕ) → z ≤ 255 → sextet (char2 y z) ≡ y % 16 * 4 + z / 64
s2 y z h = sextet_letter (y % 16 * 4 + z / 64) (omega arith)

s3 : (z : ℕ) → sextet (char3 z) ≡ z % 64
s3 z = sextet_letter (z % 64) (omega arith)

b0 : (x y : ℕ) → x ≤ 255 → y ≤ 255 → byte0 (char0 x) (char1 x y) ≡ x
b0 x y hx hy = rw (s0 x hx, s1 x y hy) (omega arith)

b1 : (x y z : ℕ) → y ≤ 255 → z ≤ 255 → byte1 (char1 x y) (char2 y z) ≡ y
b1 x y z hy hz = rw (s1 x y hy, s2 y z hz) (omega arith)

b2 : (y z : ℕ) → z ≤ 255 → byte2 (char2 y z) (char3 z) ≡ z
b2 y z hz = rw (s2 y z hz, s3 z) (omega arith)

pub decode_encode : (b : List ℕ) → all is_byte b ≡ true → decode (encode b) ≡ b
unfolding encode decode
decode_encode [] e = refl
decode_encode (x ∷ []) e = let p = first_byte x [] e in cc (b0 x 0 p.0 (omega arith))
decode_encode (x ∷ y ∷ []) e =
    let p = first_byte x (y ∷ []) e in
    let q = first_byte y [] p.1 in
    cc (b0 x y p.0 q.0, b1 x y 0 q.0 (omega arith))
decode_encode (x ∷ y ∷ z ∷ b) e =
    let p = first_byte x (y ∷ z ∷ b) e in
    let q = first_byte y (z ∷ b) p.1 in
    let r = first_byte z b q.1 in
    cc (b0 x y p.0 q.0, b1 x y z q.0 r.0, b2 y z r.0, decode_encode b r.1)

in_letter : (v : ℕ) → v < 64 → in_alphabet (letter v) ≡ true
in_letter v h = lt-ltb (sextet (letter v)) 64 (omega (arith, sextet_letter v h))

grouped-encode : (b : List ℕ) → all is_byte b ≡ true → grouped (encode b) ≡ true
unfolding encode grouped
grouped-encode [] e = refl
grouped-encode (x ∷ []) e =
    let p = first_byte x [] e in
    simp (
      in_letter (x / 4) (omega arith),
      in_letter (x % 4 * 16 + 0) (omega arith),
      eq-eqb (sextet (char1 x 0) % 16) 0 (omega (arith, s1 x 0 (omega arith))),
    )
grouped-encode (x ∷ y ∷ []) e =
    let p = first_byte x (y ∷ []) e in
    let q = first_byte y [] p.1 in
    simp (
      in_letter (x / 4) (omega arith),
      in_letter (x % 4 * 16 + y / 16) (omega arith),
      in_letter (y % 16 * 4 + 0) (omega arith),
      eq-eqb (sextet (char2 y 0) % 4) 0 (omega (arith, s2 y 0 (omega arith))),
    )
grouped-encode (x ∷ y ∷ z ∷ b) e =
    let p = first_byte x (y ∷ z ∷ b) e in
    let q = first_byte y (z ∷ b) p.1 in
    let r = first_byte z b q.1 in
    simp (
      in_letter (x / 4) (omega arith),
      in_letter (x % 4 * 16 + y / 16) (omega arith),
      in_letter (y % 16 * 4 + z / 64) (omega arith),
      in_letter (z % 64) (omega arith),
      grouped-encode b r.1,
    )

pub canonical_encode : (b : List ℕ) → all is_byte b ≡ true → canonical (encode b) ≡ true
canonical_encode b e = canonical-grouped (encode b) ∙ grouped-encode b e

-- ---- what decodes from a canonical text is bytes

bytes-grouped : (t : List ℕ) → grouped t ≡ true → all is_byte (decode t) ≡ true
unfolding decode
bytes-grouped [] e = refl
bytes-grouped (a ∷ []) e = refl
bytes-grouped (a ∷ b ∷ []) e = let h = pair a b e in and-true (le-leb (byte0 a b) 255 (omega arith)) refl
bytes-grouped (a ∷ b ∷ c ∷ []) e =
    let h = triple a b c e in
    and-true (le-leb (byte0 a b) 255 (omega arith)) (and-true (le-leb (byte1 b c) 255 (omega arith)) refl)
bytes-grouped (a ∷ b ∷ c ∷ d ∷ t) e =
    let h = quad a b c d t e in
    and-true (le-leb (byte0 a b) 255 (omega arith))
    (and-true (le-leb (byte1 b c) 255 (omega arith)) (and-true (le-leb (byte2 c d) 255 (omega arith)) (bytes-grouped t h.4)))

pub bytes_decode : (t : List ℕ) → canonical t ≡ true → all is_byte (decode t) ≡ true
bytes_decode t e = bytes-grouped t (sym (canonical-grouped t) ∙ e)
