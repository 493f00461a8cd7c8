-- The library's test of how a slice begins is the text's own.
-- Assumes nothing.
use Rattle.std.proofs.Common.{◌≡◌, ℕ, ◌-◌, Bool, true, false, eqb, List, [], ◌∷◌, length, take, drop, take_all, sym, refl, ◌∙◌, arith, length-drop, eq-eqb, ne_eqb, eqb-true}
use mathlib.Core.Bool.{true≢false}
use Rattle.std.specs.List as slice
use Rattle.text.specs.Text.{starts_with}

eqb_flip : (a b : ℕ) → eqb a b ≡ eqb b a
eqb_flip a b = go (eqb a b) refl
  where
    go : (t : Bool) → eqb a b ≡ t → t ≡ eqb b a
    go true e = sym (eq-eqb b a (sym (eqb-true a b e)))
    go false e = sym (ne_eqb b a (λ q. true≢false (sym (eq-eqb a b (sym q)) ∙ e)))

same_test : (l t : List ℕ) → slice.starts_with eqb t l ≡ starts_with l t
same_test [] t = refl
same_test (c ∷ l) [] = refl
same_test (c ∷ l) (d ∷ t) = rw (same_test l t, eqb_flip c d)

-- from a place to the end
pub slice_from : (s : List ℕ) (at : ℕ) → take (length s - at) (drop at s) ≡ drop at s
slice_from s at = take_all (length s - at) (drop at s) (omega (arith, length-drop at s))

pub slice_starts : (s l : List ℕ) (at : ℕ) → slice.starts_with eqb (take (length s - at) (drop at s)) l ≡ starts_with l (drop at s)
slice_starts s l at = rw (slice_from s at) (same_test l (drop at s))
