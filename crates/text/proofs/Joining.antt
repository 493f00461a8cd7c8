-- Joined parts: each with its separator before it, their length; and five texts one after the other.
-- Assumes nothing.
use Prim.Native.Nat.{ℕ, suc, ◌+◌}
use mathlib.Core.List.{List, [], ◌∷◌, ◌++◌, append-nil, append_assoc}
use mathlib.Core.Path.{◌≡◌, sym, ◌∙◌, ap, refl}
use native.Mathlib.Omega.{arith}
use lib.ListN.{length, length-append}
use mathlib.Core.Bool.{false, not, true≢false}
use lib.Dec.{eqb}
use Rattle.text.specs.Text.{join, has, NoneHas, empty}
use Rattle.text.proofs.Tests.{or-false}
use Rattle.text.proofs.Lists.{has-append}

-- the bytes of parts, each with a separator before it
unfoldable pub total : List (List ℕ) → ℕ
total [] = 0
total (q ∷ qs) = suc (length q + total qs)

pub join-length : (d : ℕ) (p : List ℕ) (qs : List (List ℕ)) → length (join d p qs) ≡ length p + total qs
unfolding total
join-length d p [] = omega arith
join-length d p (q ∷ qs) = let h = join-length d q qs in omega (arith, length-append p (d ∷ join d q qs))

-- ---- a separator before each part

abbrev pub marked : ℕ → List (List ℕ) → List ℕ
marked d [] = []
marked d (q ∷ qs) = d ∷ (q ++ marked d qs)

pub join-marked : (d : ℕ) (p : List ℕ) (qs : List (List ℕ)) → join d p qs ≡ p ++ marked d qs
join-marked d p [] = sym (append-nil p)
join-marked d p (q ∷ qs) = ap (λ (l : List ℕ). p ++ d ∷ l) (join-marked d q qs)

-- ---- five texts

pub append-five : (a b c d e : List ℕ) → a ++ (b ++ (c ++ (d ++ e))) ≡ a ++ b ++ c ++ d ++ e
append-five a b c d e =
    sym (append_assoc a b (c ++ (d ++ e))) ∙ sym (append_assoc (a ++ b) c (d ++ e)) ∙ sym (append_assoc (a ++ b ++ c) d e)

pub length-five : (a b c d e : List ℕ) → length (a ++ b ++ c ++ d ++ e) ≡ length a + length b + length c + length d + length e
length-five a b c d e =
    omega (arith, length-append (a ++ b ++ c ++ d) e, length-append (a ++ b ++ c) d, length-append (a ++ b) c, length-append a b)

-- ---- a byte that no part has

pub join_free : (d j : ℕ) → eqb j d ≡ false → (p : List ℕ) (qs : List (List ℕ)) → has d p ≡ false → NoneHas d qs → has d (join j p qs) ≡ false
join_free d j e p [] h k = h
join_free d j e p (q ∷ qs) h k = has-append d p (j ∷ join j q qs) h (or-false e (join_free d j e q qs k.0 k.1))

pub total-none : (l : List (List ℕ)) → not (empty l) ≡ false → total l ≡ 0
unfolding total
total-none [] e = refl
total-none (x ∷ l) e = absurd (true≢false e)
