-- A rule of a table, proved at all of its entries by one test that antt computes, one entry after the other; what holds at every place, past the
-- last too; and a function whose first values are a table.
-- Assumes nothing.
use mathlib.Core.Path.{◌≡◌, refl, sym, ◌∙◌, ap, subst}
use mathlib.Core.Bool.{Bool, true, false}
use mathlib.Core.List.{List, [], ◌∷◌}
use Prim.Native.Nat.{ℕ, zero, suc, ◌+◌, ◌≤◌, ◌<◌}
use native.Mathlib.Nat.{add-zero, zero-add, add-suc, suc-add, le_of_suc-le-suc, not-suc-le-zero}
use lib.Dec.{eqb, ltb}
use lib.ListN.{length, get_or}
use borrow.Author.Tests.{eqb-true, ltb-true, ltb-false}
use Rattle.text.specs.Text.{all, every}
use Rattle.text.proofs.Tests.{both}

-- what every element passes, the one at a place does
module _ {A : Type 0} (f : ℕ → A → Bool) (d : A) where
  pub every_at : (xs : List A) (i : ℕ) → every f i xs ≡ true → (k : ℕ) → k < length xs → f (i + k) (get_or xs k d) ≡ true
  every_at [] i t k h = absurd (not-suc-le-zero h)
  every_at (x ∷ xs) i t zero h = subst (λ (m : ℕ). f m x ≡ true) (sym (add-zero i)) (both (f i x) (every f (suc i) xs) t).0
  every_at (x ∷ xs) i t (suc k) h =
      subst (λ (m : ℕ). f m (get_or xs k d) ≡ true) (suc-add i k ∙ sym (add-suc i k))
      (every_at xs (suc i) (both (f i x) (every f (suc i) xs) t).1 k (le_of_suc-le-suc h))

pub at : (f : ℕ → ℕ → Bool) (xs : List ℕ) → every f 0 xs ≡ true → (k : ℕ) → k < length xs → f k (get_or xs k 0) ≡ true
at f xs t k h = subst (λ (m : ℕ). f m (get_or xs k 0) ≡ true) (zero-add k) (every_at f 0 xs 0 t k h)

-- the table holds f's values: the same, for a rule that is an equation
abbrev pub holds : (ℕ → ℕ) → ℕ → ℕ → Bool
holds f k x = eqb x (f k)

pub table_rule : (f : ℕ → ℕ) (xs : List ℕ) → every (holds f) 0 xs ≡ true → (k : ℕ) → k < length xs → get_or xs k 0 ≡ f k
table_rule f xs t k h = eqb-true (get_or xs k 0) (f k) (at (holds f) xs t k h)

-- what each element and the one past the last pass, the one at any place does
pub always : {A : Type 0} (f : A → Bool) (d : A) (xs : List A) → f d ≡ true → all f xs ≡ true → (k : ℕ) → f (get_or xs k d) ≡ true
always f d [] h t k = h
always f d (x ∷ xs) h t zero = (both (f x) (all f xs) t).0
always f d (x ∷ xs) h t (suc k) = always f d xs h (both (f x) (all f xs) t).1 k

-- ---- a table as a function makes it

-- f k, f (k + 1), .. , n of them
abbrev pub tabulate : {A : Type 0} → (ℕ → A) → ℕ → ℕ → List A
tabulate f k zero = []
tabulate f k (suc n) = f k ∷ tabulate f (suc k) n

module _ {A : Type 0} (f : ℕ → A) (d : A) where
  at_tabulate : (n k i : ℕ) → i < n → get_or (tabulate f k n) i d ≡ f (k + i)
  at_tabulate zero k i h = absurd (not-suc-le-zero h)
  at_tabulate (suc n) k zero h = ap f (sym (add-zero k))
  at_tabulate (suc n) k (suc i) h = at_tabulate n (suc k) i (le_of_suc-le-suc h) ∙ ap f (suc-add k i ∙ sym (add-suc k i))

  past-tabulate : (n k i : ℕ) → n ≤ i → get_or (tabulate f k n) i d ≡ d
  past-tabulate zero k i h = refl
  past-tabulate (suc n) k zero h = absurd (not-suc-le-zero h)
  past-tabulate (suc n) k (suc i) h = past-tabulate n (suc k) i (le_of_suc-le-suc h)

  -- a function whose first n values are a table, and d after them, is the table
  pub tabulated : (n : ℕ) (xs : List A) → tabulate f 0 n ≡ xs → ((k : ℕ) → n ≤ k → f k ≡ d) → (k : ℕ) → f k ≡ get_or xs k d
  tabulated n xs e past k = go (ltb k n) refl
    where
      here : get_or (tabulate f 0 n) k d ≡ get_or xs k d
      here = ap (λ (l : List A). get_or l k d) e

      go : (b : Bool) → ltb k n ≡ b → f k ≡ get_or xs k d
      go true q = ap f (sym (zero-add k)) ∙ sym (at_tabulate n 0 k (ltb-true k n q)) ∙ here
      go false q = past k (ltb-false k n q) ∙ sym (past-tabulate n 0 k (ltb-false k n q)) ∙ here
