-- The rows of a table: none applies exactly where the number is 0.
-- Assumes nothing.
use Prim.Native.Nat.{ℕ, ◌<◌}
use mathlib.Core.Bool.{Bool, true, false, cond, ◌&&◌}
use mathlib.Core.List.{List, [], ◌∷◌, ◌++◌}
use mathlib.Core.Path.{◌≡◌, refl, sym, ◌∙◌}
use native.Mathlib.Omega.{arith}
use lib.Dec.{ltb}
use borrow.Author.Tests.{ltb-true}
use Rattle.text.specs.Text.{all}
use Rattle.text.specs.Rows.{Row, first_number}
use Rattle.text.proofs.Tests.{both}

-- no row applies
abbrev pub Clear : List Row → Type 0
Clear [] = Unit {0}
Clear (r ∷ rs) = (r.applies ≡ false) × Clear rs

-- no row has the number of acceptance
abbrev pub positive : List Row → Bool
positive [] = true
positive (r ∷ rs) = ltb 0 r.number && positive rs

choice : (b : Bool) (n k : ℕ) → ltb 0 n ≡ true → cond b n k ≡ 0 → (b ≡ false) × (k ≡ 0)
choice true n k t e = let h : 0 < n = ltb-true 0 n t in absurd (omega arith)
choice false n k t e = (refl, e)

pub clear : (rs : List Row) → positive rs ≡ true → first_number rs ≡ 0 → Clear rs
clear [] t e = tt
clear (r ∷ rs) t e =
    let p = both (ltb 0 r.number) (positive rs) t in
    let q = choice r.applies r.number (first_number rs) p.0 e in
    (q.0, clear rs p.1 q.1)

pub zero_of : (rs : List Row) → Clear rs → first_number rs ≡ 0
zero_of [] c = refl
zero_of (r ∷ rs) c = rw c.0 (zero_of rs c.1)

-- where one does, its number passes what all of theirs pass
pub first_passes : (own : ℕ → Bool) (rs : List Row) → all (λ (r : Row). own r.number) rs ≡ true → (first_number rs ≡ 0 → ⊥) → own (first_number rs) ≡ true
first_passes own [] a n = absurd (n refl)
first_passes own (r ∷ rs) a n =
    let q = both (own r.number) (all (λ (r : Row). own r.number) rs) a in
    go r.applies q.0 (first_passes own rs q.1) n
  where
    go : (b : Bool) → own r.number ≡ true → ((first_number rs ≡ 0 → ⊥) → own (first_number rs) ≡ true)
        → (cond b r.number (first_number rs) ≡ 0 → ⊥) → own (cond b r.number (first_number rs)) ≡ true
    go true p q h = p
    go false p q h = q h

pub clear_append : (rs ts : List Row) → Clear rs → Clear ts → Clear (rs ++ ts)
clear_append [] ts c d = d
clear_append (r ∷ rs) ts c d = (c.0, clear_append rs ts c.1 d)

-- ---- rows before others

-- one of them applies
pub rows_stop : (rs ts : List Row) (n : ℕ) → n ≡ first_number rs → (n ≡ 0 → ⊥) → first_number (rs ++ ts) ≡ n
rows_stop [] ts n e z = absurd (z e)
rows_stop (r ∷ rs) ts n e z = go r.applies (λ (h : n ≡ first_number rs). rows_stop rs ts n h z) e
  where
    go : (b : Bool) → (n ≡ first_number rs → first_number (rs ++ ts) ≡ n) → n ≡ cond b r.number (first_number rs) → cond b r.number (first_number (rs ++ ts)) ≡ n
    go true f h = sym h
    go false f h = f h

-- none does
pub rows_pass : (rs ts : List Row) → Clear rs → first_number (rs ++ ts) ≡ first_number ts
rows_pass [] ts c = refl
rows_pass (r ∷ rs) ts c = rw c.0 (rows_pass rs ts c.1)

pub rows_next : (rs ts : List Row) (n : ℕ) → positive rs ≡ true → n ≡ first_number rs → n ≡ 0 → first_number (rs ++ ts) ≡ first_number ts
rows_next rs ts n t e z = rows_pass rs ts (clear rs t (sym e ∙ z))
