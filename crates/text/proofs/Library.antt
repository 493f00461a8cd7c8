-- The library's words for what Text defines: the place of an element, and the parts between separators. Assumes nothing.
use Rattle.std.proofs.Common.{rules, ◌≡◌, ℕ, Bool, true, false, cond, List, [], ◌∷◌, length, get_or, refl, arith, eqb}
use Prim.Native.Nat.{zero, suc}
use Rattle.std.specs.List.{position, position_or_len, slice_split, onto_first, slice_get, list_all}
use Rattle.std.specs.Option.{unwrap_or}
use Rattle.std.proofs.lemmas.List.Recursion.{is_position_or_len}
use Rattle.std.proofs.lemmas.Grind.{common_steps}
use Rattle.text.specs.Text.{all, find, put_byte, split, parts}
use Rattle.text.proofs.Scanning.{find-le}

pub find-position_or_len : (d : ℕ) (s : List ℕ) → find d s ≡ position_or_len (λ x. eqb x d) s
find-position_or_len d s = is_position_or_len (find d) (λ x. eqb x d) refl (λ x xs. search rules) s

pub find-position : (d : ℕ) (s : List ℕ) → unwrap_or (position (λ x. eqb x d) s) (length s) ≡ find d s
find-position d s = rw (← find-position_or_len d s) (grind (arith, common_steps, find-le d s))

pub slice_split-parts : (d : ℕ) (s : List ℕ) → slice_split (λ x. eqb x d) s ≡ parts d s
slice_split-parts d [] = refl
slice_split-parts d (c ∷ s) = go (eqb c d) (slice_split-parts d s)
  where
    go : (b : Bool) → slice_split (λ x. eqb x d) s ≡ parts d s
        → cond b ([] ∷ slice_split (λ x. eqb x d) s) (onto_first c (slice_split (λ x. eqb x d) s)) ≡ (put_byte b c (split d s)).0 ∷ (put_byte b c (split d s)).1
    go true e = rw e
    go false e = rw e

pub slice_get-get_or : {X : Type 0} (l : List X) (n : ℕ) (e : X) → unwrap_or (slice_get l n) e ≡ get_or l n e
slice_get-get_or [] n e = refl
slice_get-get_or (x ∷ l) zero e = refl
slice_get-get_or (x ∷ l) (suc n) e = slice_get-get_or l n e

pub all-list_all : {A : Type 0} (f : A → Bool) (s : List A) → list_all f s ≡ all f s
all-list_all f [] = refl
all-list_all f (x ∷ s) = rw (all-list_all f s)
