-- A walk over a list from a place: a test of every element, and the search for a byte.
-- Assumes nothing.
use Prim.Native.Nat.{ℕ, suc, ◌+◌, ◌≤◌, ◌<◌}
use mathlib.Core.Path.{◌≡◌}
use mathlib.Core.List.{List, [], ◌∷◌}
use mathlib.Core.Bool.{Bool, true, false, cond}
use native.Mathlib.Omega.{arith}
use lib.Dec.{eqb}
use lib.ListN.{length, get_or, drop, length-drop, drop_of_length-le}
use lib.Seq.{drop-cons}
use Rattle.text.specs.Text.{all, find}

module _ (f : ℕ → Bool) (s : List ℕ) (i : ℕ) where
  pub all_past : length s ≤ i → all f (drop i s) ≡ true
  all_past h = rw drop_of_length-le

  pub all-false : i < length s → f (get_or s i 0) ≡ false → all f (drop i s) ≡ false
  all-false h e = rw (drop-cons s i 0 h, e)

pub find-le : (d : ℕ) (s : List ℕ) → find d s ≤ length s
find-le d [] = omega arith
find-le d (c ∷ s) = go (eqb c d) (find-le d s)
  where
    go : (b : Bool) → find d s ≤ length s → cond b 0 (suc (find d s)) ≤ suc (length s)
    go true h = omega arith
    go false h = omega arith

pub find_from_le : (d : ℕ) (s : List ℕ) (at : ℕ) → at ≤ length s → at + find d (drop at s) ≤ length s
find_from_le d s at h = omega (arith, find-le d (drop at s), length-drop at s)
