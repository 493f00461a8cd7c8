-- Splitting at a separator, by places: the parts from a place on, and what stands before and after the first separator.
-- Assumes nothing.
use Prim.Native.Nat.{ℕ, suc, ◌+◌, ◌-◌, ◌≤◌, ◌<◌}
use mathlib.Core.Path.{◌≡◌, refl, sym, ap, ◌∙◌}
use mathlib.Core.List.{List, [], ◌∷◌}
use mathlib.Core.Bool.{Bool, true, false, not, cond, ◌||◌}
use native.Mathlib.Omega.{arith}
use native.Mathlib.Nat.{suc-add, add_assoc, add-sub_cancel_left}
use borrow.Author.Tests.{le-leb, lt-leb, leb-true, leb-false, lt-ltb, le-ltb, ltb-true, ltb-false}
use lib.Dec.{leb, ltb, eqb, leb-zero, leb-suc-suc}
use lib.ListN.{length, take, drop, length-drop}
use lib.Seq.{drop-drop}
use Rattle.text.specs.Text.{has, find, empty, put_byte, split, parts, cut_byte, cut, parts_from, next_at}
use Rattle.text.proofs.Writing.{leb-sub}

-- ---- the parts from a place on: the first, and those after its separator

-- a byte put in front of the first of some parts
onto : ℕ → List (List ℕ) → List (List ℕ)
onto c [] = []
onto c (p ∷ ps) = (c ∷ p) ∷ ps

from_cons : (d c : ℕ) (s : List ℕ) (m : ℕ) → parts_from d (c ∷ s) (suc m) ≡ parts_from d s m
unfolding parts_from
from_cons d c s m = rw (leb-suc-suc m (length s))

pub from_zero : (d : ℕ) (s : List ℕ) → parts_from d s 0 ≡ parts d s
unfolding parts_from
from_zero d s = rw leb-zero

parts_first : (d : ℕ) (s : List ℕ) → parts d s ≡ take (find d s) s ∷ parts_from d s (find d s + 1)
unfolding parts_from onto
parts_first d [] = refl
parts_first d (c ∷ s) = go (eqb c d) (parts_first d s)
  where
    go : (b : Bool) → parts d s ≡ take (find d s) s ∷ parts_from d s (find d s + 1)
        → ◌≡◌ {A = List (List ℕ)} ((put_byte b c (split d s)).0 ∷ (put_byte b c (split d s)).1)
        (take (cond b 0 (suc (find d s))) (c ∷ s) ∷ parts_from d (c ∷ s) (cond b 0 (suc (find d s)) + 1))
    go true h = ap (λ (l : List (List ℕ)). [] ∷ l) (sym (from_cons d c s 0 ∙ from_zero d s))
    go false h = rw (suc-add, from_cons d c s (find d s + 1)) (ap (onto c) h)

from_drop : (d : ℕ) (s : List ℕ) (at m : ℕ) → at ≤ length s → parts_from d (drop at s) m ≡ parts_from d s (at + m)
unfolding parts_from
from_drop d s at m h = rw (length-drop, leb-sub m at (length s) h, drop-drop)

inside : (d : ℕ) (s : List ℕ) (at : ℕ) → at ≤ length s → parts_from d s at ≡ parts d (drop at s)
unfolding parts_from
inside d s at h = rw (le-leb at (length s) h)

pub from_step : (d : ℕ) (s : List ℕ) (at : ℕ) → at ≤ length s
    → parts_from d s at ≡ take (find d (drop at s)) (drop at s) ∷ parts_from d s (at + find d (drop at s) + 1)
from_step d s at h = here ∙ parts_first d (drop at s) ∙ ap (λ (l : List (List ℕ)). take (find d (drop at s)) (drop at s) ∷ l) rest
  where
    here : parts_from d s at ≡ parts d (drop at s)
    here = inside d s at h

    rest : parts_from d (drop at s) (find d (drop at s) + 1) ≡ parts_from d s (at + find d (drop at s) + 1)
    rest = rw (add_assoc) (from_drop d s at (find d (drop at s) + 1) h)

pub from_past : (d : ℕ) (s : List ℕ) (at : ℕ) → length s < at → parts_from d s at ≡ []
unfolding parts_from
from_past d s at h = rw (lt-leb at (length s) h)

-- the same, where the first part is known to end at e
pub from_to : (d : ℕ) (s : List ℕ) (at : ℕ) → at ≤ length s → (e : ℕ) → e ≡ at + find d (drop at s)
    → parts_from d s at ≡ take (e - at) (drop at s) ∷ parts_from d s (e + 1)
from_to d s at h e p = rw (p, add-sub_cancel_left) (from_step d s at h)

-- parts are left where the place is not past the end
pub some_from : (d : ℕ) (s : List ℕ) (at : ℕ) → not (empty (parts_from d s at)) ≡ leb at (length s)
some_from d s at = go (leb at (length s)) refl
  where
    go : (b : Bool) → leb at (length s) ≡ b → not (empty (parts_from d s at)) ≡ b
    go true e = rw (from_step d s at (leb-true at (length s) e))
    go false e = rw (from_past d s at (leb-false at (length s) e))

-- ---- before and after the first separator

pub cut_before : (d : ℕ) (s : List ℕ) → (cut d s).0 ≡ take (find d s) s
cut_before d [] = refl
cut_before d (c ∷ s) = go (eqb c d) (cut_before d s)
  where
    go : (b : Bool) → (cut d s).0 ≡ take (find d s) s → (cut_byte b c s (cut d s)).0 ≡ take (cond b 0 (suc (find d s))) (c ∷ s)
    go true h = refl
    go false h = ap (λ (l : List ℕ). c ∷ l) h

-- the part from a place to the next separator
pub cut_to : (d : ℕ) (s : List ℕ) (at e : ℕ) → e ≡ next_at d s at → take (e - at) (drop at s) ≡ (cut d (drop at s)).0
cut_to d s at e q =
    let k : e - at ≡ find d (drop at s) = omega arith in
    ap (λ (n : ℕ). take n (drop at s)) k ∙ sym (cut_before d (drop at s))

pub cut_after : (d : ℕ) (s : List ℕ) → (cut d s).1 ≡ drop (find d s + 1) s
cut_after d [] = refl
cut_after d (c ∷ s) = go (eqb c d) (cut_after d s)
  where
    go : (b : Bool) → (cut d s).1 ≡ drop (find d s + 1) s → (cut_byte b c s (cut d s)).1 ≡ drop (cond b 0 (suc (find d s)) + 1) (c ∷ s)
    go true h = refl
    go false h = rw suc-add h

pub has-find : (d : ℕ) (s : List ℕ) → has d s ≡ ltb (find d s) (length s)
has-find d [] = refl
has-find d (c ∷ s) = go (eqb c d) (has-find d s)
  where
    go : (b : Bool) → has d s ≡ ltb (find d s) (length s) → (b || has d s) ≡ ltb (cond b 0 (suc (find d s))) (suc (length s))
    go true h = sym (lt-ltb 0 (suc (length s)) (omega arith))
    go false h = h ∙ shift (ltb (find d s) (length s)) refl
      where
        shift : (b : Bool) → ltb (find d s) (length s) ≡ b → b ≡ ltb (suc (find d s)) (suc (length s))
        shift true e = sym (lt-ltb (suc (find d s)) (suc (length s)) (omega (arith, ltb-true (find d s) (length s) e)))
        shift false e = sym (le-ltb (suc (find d s)) (suc (length s)) (omega (arith, ltb-false (find d s) (length s) e)))

pub found : (d : ℕ) (s : List ℕ) → find d s < length s → has d s ≡ true
found d s h = has-find d s ∙ lt-ltb (find d s) (length s) h

pub unfound : (d : ℕ) (s : List ℕ) → length s ≤ find d s → has d s ≡ false
unfound d s h = has-find d s ∙ le-ltb (find d s) (length s) h

pub find_inside : (d : ℕ) (s : List ℕ) → has d s ≡ true → find d s < length s
find_inside d s h = ltb-true (find d s) (length s) (sym (has-find d s) ∙ h)

-- what stands from after it on

pub cut-past : (d : ℕ) (p : List ℕ) (from place : ℕ) → place ≡ suc (from + find d (drop from p)) → drop place p ≡ (cut d (drop from p)).1
cut-past d p from place e =
    let q : place ≡ from + (find d (drop from p) + 1) = omega arith in
    ap (λ (k : ℕ). drop k p) q ∙ sym (drop-drop (find d (drop from p) + 1) from p) ∙ sym (cut_after d (drop from p))
