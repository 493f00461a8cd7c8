-- The library's words for chains of iterators, in the words of the text library.
-- Assumes nothing.
use Prim.Native.Nat.{ℕ, suc, ◌+◌, ◌≤◌}
use mathlib.Core.Bool.{Bool, true, false, ◌&&◌, cond}
use mathlib.Core.List.{List, [], ◌∷◌, map}
use mathlib.Core.Path.{◌≡◌, refl, sym, ◌∙◌, ap}
use native.Mathlib.Omega.{arith}
use lib.Dec.{leb, ltb, eqb}
use lib.ListN.{length}
use borrow.Author.Tests.{le-leb, lt-leb, ltb-true, ltb-false}
use Rattle.std.proofs.Common.{nat_lt, Option, None, Some}
use Rattle.std.proofs.lemmas.List.Recursion.{is_position_or_len}
use Rattle.std.proofs.lemmas.List.Splits.{length-slice_split}
use Rattle.std.specs.List.{list_all, enumerate_from, count_by, position, position_or_len, slice_split, onto_first}
use Rattle.text.specs.Text.{all, find, split, parts, put_byte}

pub list_all_is : {A : Type 0} (f : A → Bool) (s : List A) → list_all f s ≡ all f s
list_all_is f [] = refl
list_all_is f (c ∷ s) = ap (λ (b : Bool). f c && b) (list_all_is f s)

pub all-map : {A B : Type 0} (f : B → Bool) (g : A → B) (s : List A) → all (λ (x : A). f (g x)) s ≡ all f (map g s)
all-map f g [] = refl
all-map f g (x ∷ s) = ap (λ (b : Bool). f (g x) && b) (all-map f g s)

-- `enumerate` and `all`: each element is one of the first `most` and passes
module _ {A : Type 0} (f : A → Bool) (most : ℕ) where
  abbrev pub among : ℕ × A → Bool
  among p = ltb p.0 most && f p.1

  and-swap : (a b c : Bool) → a && (b && c) ≡ b && (a && c)
  and-swap true b c = refl
  and-swap false true c = refl
  and-swap false false c = refl

  pub among-first : (k : ℕ) (l : List A) → k ≤ most → list_all among (enumerate_from k l) ≡ (leb (k + length l) most && all f l)
  among-first k [] h = rw (le-leb (k + 0) most (omega arith))
  among-first k (x ∷ l) h = go (ltb k most) refl (λ q. among-first (k + 1) l q)
    where
      go : (b : Bool) → ltb k most ≡ b → (k + 1 ≤ most → list_all among (enumerate_from (k + 1) l) ≡ (leb (k + 1 + length l) most && all f l))
          → (b && f x) && list_all among (enumerate_from (k + 1) l) ≡ (leb (k + suc (length l)) most && (f x && all f l))
      go true e r =
          let m : k + 1 + length l ≡ k + suc (length l) = omega arith in
          rw (r (omega (arith, ltb-true k most e)), m) (and-swap (f x) (leb (k + suc (length l)) most) (all f l))
      go false e r = rw (lt-leb (k + suc (length l)) most (omega (arith, ltb-false k most e)))

-- `position` at a byte, by the place of the first
position_find : (d : ℕ) (s : List ℕ) → position_or_len (λ (c : ℕ). eqb c d) s ≡ find d s
position_find d s = sym (is_position_or_len (find d) (λ (c : ℕ). eqb c d) refl (λ c cs. let e : suc (find d cs) ≡ 1 + find d cs = omega arith in ap (λ (n : ℕ). cond (eqb c d) 0 n) e) s)

module _ (d : ℕ) (s : List ℕ) where
  first : Bool → Option ℕ
  first b = cond b (Some (position_or_len (λ (c : ℕ). eqb c d) s)) None

  pub position_some : (k : ℕ) → position (λ (c : ℕ). eqb c d) s ≡ Some k → k ≡ find d s
  unfolding first
  position_some k e = go (nat_lt (position_or_len (λ (c : ℕ). eqb c d) s) (length s)) e
    where
      go : (b : Bool) → first b ≡ Some k → k ≡ find d s
      go true e = let p : position_or_len (λ (c : ℕ). eqb c d) s ≡ k = cc in sym p ∙ position_find d s
      go false e = cc

  pub position_none : position (λ (c : ℕ). eqb c d) s ≡ None → length s ≤ find d s
  unfolding first
  position_none e = rw (← position_find d s) (go (nat_lt (position_or_len (λ (c : ℕ). eqb c d) s) (length s)) refl e)
    where
      go : (b : Bool) → nat_lt (position_or_len (λ (c : ℕ). eqb c d) s) (length s) ≡ b → first b ≡ None → length s ≤ position_or_len (λ (c : ℕ). eqb c d) s
      go true q e = cc
      go false q e = ltb-false _ _ q

-- `split` at a byte, and the number of its parts
pub split-parts : (d : ℕ) (s : List ℕ) → slice_split (λ (c : ℕ). eqb c d) s ≡ parts d s
split-parts d [] = refl
split-parts d (c ∷ s) = rw (split-parts d s) (go (eqb c d))
  where
    go : (b : Bool) → cond b ([] ∷ parts d s) (onto_first c (parts d s)) ≡ (put_byte b c (split d s)).0 ∷ (put_byte b c (split d s)).1
    go true = refl
    go false = refl

pub count-parts : (d : ℕ) (s : List ℕ) → count_by (λ (c : ℕ). eqb c d) s + 1 ≡ length (parts d s)
count-parts d s = sym (length-slice_split (λ (c : ℕ). eqb c d) s) ∙ ap length (split-parts d s)
