-- The elements of a class at the start of a text, and at a place of it.
-- Assumes nothing.
use Prim.Native.Nat.{ℕ, zero, suc, ◌+◌, ◌≤◌}
use mathlib.Core.Bool.{Bool, true, false, cond}
use mathlib.Core.List.{List, [], ◌∷◌, ◌++◌}
use mathlib.Core.Path.{◌≡◌, refl, ◌∙◌, ap}
use native.Mathlib.Numerals.{add-one}
use native.Mathlib.Omega.{arith}
use lib.ListN.{length, drop, get_or, drop_of_length-le}
use Rattle.text.specs.Text.{all, run}
use Rattle.text.proofs.Tests.{both, and-true}

-- ---- the elements of a class at the start

pub run_is : (f : ℕ → Bool) (t : List ℕ) → t ≡ run f t ++ drop (length (run f t)) t
run_is f [] = refl
run_is f (c ∷ t) = go (f c) (run_is f t)
  where
    go : (b : Bool) → t ≡ run f t ++ drop (length (run f t)) t → c ∷ t ≡ cond b (c ∷ run f t) [] ++ drop (length (cond b (c ∷ run f t) [])) (c ∷ t)
    go true h = ap {B = List ℕ} (λ l. c ∷ l) h
    go false h = refl

pub run_on : (f : ℕ → Bool) (t u : List ℕ) → all f t ≡ true → run f u ≡ [] → run f (t ++ u) ≡ t
run_on f [] u a e = e
run_on f (c ∷ t) u a e = let p = both (f c) (all f t) a in rw p.0 (ap {B = List ℕ} (λ l. c ∷ l) (run_on f t u p.1 e))

-- ---- the elements of a class at a place

-- past the end stands 0, which is of no class here
module _ (f : ℕ → Bool) (z : f 0 ≡ false) where
  run_at : (s : List ℕ) (i : ℕ) → run f (drop i s) ≡ cond (f (get_or s i 0)) (get_or s i 0 ∷ run f (drop (suc i) s)) []
  run_at [] zero = rw z
  run_at [] (suc i) = rw z
  run_at (c ∷ s) zero = refl
  run_at (c ∷ s) (suc i) = run_at s i

  pub run_go : (s : List ℕ) (i : ℕ) → f (get_or s i 0) ≡ true → run f (drop i s) ≡ get_or s i 0 ∷ run f (drop (i + 1) s)
  run_go s i e = run_at s i ∙ rw (e, add-one i)

  pub run_stop : (s : List ℕ) (i : ℕ) → f (get_or s i 0) ≡ false → run f (drop i s) ≡ []
  run_stop s i e = run_at s i ∙ rw e

module _ (f : ℕ → Bool) where
  pub run_past : (s : List ℕ) (i : ℕ) → length s ≤ i → run f (drop i s) ≡ []
  run_past s i h = rw (drop_of_length-le)

  pub run-all : (s : List ℕ) → all f (run f s) ≡ true
  run-all [] = refl
  run-all (c ∷ s) = go (f c) refl (run-all s)
    where
      go : (b : Bool) → f c ≡ b → all f (run f s) ≡ true → all f (cond b (c ∷ run f s) []) ≡ true
      go true e h = and-true e h
      go false e h = refl

  pub run_length : (s : List ℕ) → length (run f s) ≤ length s
  run_length [] = omega arith
  run_length (c ∷ s) = go (f c) (run_length s)
    where
      go : (b : Bool) → length (run f s) ≤ length s → length (cond b (c ∷ run f s) []) ≤ suc (length s)
      go true h = omega arith
      go false h = omega arith

  -- the first of a run is the first of the text
  pub run-first : (s : List ℕ) → (length (run f s) ≡ 0 → ⊥) → get_or (run f s) 0 0 ≡ get_or s 0 0
  run-first [] h = refl
  run-first (c ∷ s) h = go (f c) h
    where
      go : (b : Bool) → (length (cond b (c ∷ run f s) []) ≡ 0 → ⊥) → get_or (cond b (c ∷ run f s) []) 0 0 ≡ c
      go true h = refl
      go false h = absurd (h refl)
