-- Laws of hex digits: how many bytes they make, the byte at an index, and bytes written one after the other until the digits or the buffer end.
-- Assumes nothing.
use Prim.Native.Nat.{ℕ, zero, suc, min, ◌+◌, ◌*◌, ◌/◌, ◌<◌}
use mathlib.Core.Path.{◌≡◌, refl, sym, ap, ◌∙◌}
use mathlib.Core.List.{List, [], ◌∷◌, ◌++◌}
use native.Mathlib.Omega.{arith}
use lib.ListN.{length, get_or, take, drop, set}
use Rattle.std.proofs.lemmas.Grind.{common_steps}
use Rattle.std.proofs.lemmas.List.{take_more, take_more_set}
use Rattle.text.specs.Place.{Wrote}
use Rattle.rows.specs.Hex.{nibble_of, hex_bytes}

pub length_hex : (s : List ℕ) → length (hex_bytes s) ≡ length s / 2
unfolding hex_bytes
length_hex [] = refl
length_hex (a ∷ []) = refl
length_hex (a ∷ b ∷ s) = let h = length_hex s in omega arith

pub hex_at : (s : List ℕ) (i : ℕ) → i < length s / 2 → get_or (hex_bytes s) i 0 ≡ nibble_of (get_or s (2 * i) 0) * 16 + nibble_of (get_or s (2 * i + 1) 0)
unfolding hex_bytes
hex_at [] i h = absurd (omega arith)
hex_at (a ∷ []) i h = absurd (omega arith)
hex_at (a ∷ b ∷ s) zero h = refl
hex_at (a ∷ b ∷ s) (suc i) h =
    let p : 2 * suc i ≡ suc (suc (2 * i)) = omega arith in
    let q : 2 * suc i + 1 ≡ suc (suc (2 * i + 1)) = omega arith in
    rw (q, p) (hex_at s i (omega arith))

-- one byte more stands at the start of d
pub take_more_hex : (s d : List ℕ) (i : ℕ) → i < length s / 2 → i < length d → take i d ≡ take i (hex_bytes s)
    → take (i + 1) (set d i (get_or (hex_bytes s) i 0)) ≡ take (i + 1) (hex_bytes s)
take_more_hex s d i h fits e =
    take_more_set d i (get_or (hex_bytes s) i 0) fits
    ∙ ap (λ (l : List ℕ). l ++ get_or (hex_bytes s) i 0 ∷ []) e
    ∙ sym (take_more (hex_bytes s) i 0 (omega (arith, length_hex s)))

-- the first n bytes e stand at the start of d, and no further one is there or fits
pub wrote_front : (s d e : List ℕ) (n : ℕ) → n ≡ min (length s / 2) (length d) → length e ≡ n → take n e ≡ take n (hex_bytes s)
    → Wrote (take (length d) (hex_bytes s)) d (e ++ drop n d) n
wrote_front s d e n h k t =
    let l = length_hex s in
    let a : take n e ≡ e = grind (arith, common_steps) in
    let b : take n (hex_bytes s) ≡ take (length d) (hex_bytes s) = grind (arith, common_steps, l) in
    let m : length (take (length d) (hex_bytes s)) ≡ n = grind (arith, common_steps, l) in
    record { count_is = sym m; left = grind (arith, common_steps, a, b, m, t) }
