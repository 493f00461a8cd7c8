-- The first elements of a list: how many are taken or dropped, what is kept of more, and what depends on them alone.
-- Assumes nothing.
use Prim.Native.Nat.{ℕ, zero, suc, ◌+◌, ◌-◌, ◌≤◌, min}
use mathlib.Core.Bool.{Bool, true, false}
use mathlib.Core.List.{List, [], ◌∷◌, ◌++◌, map, append_assoc}
use mathlib.Core.Path.{◌≡◌, refl, sym, ap, ◌∙◌}
use native.Mathlib.Nat.{zero-min, min-zero, suc-min-suc}
use native.Mathlib.Omega.{arith}
use lib.Dec.{leb}
use lib.ListN.{length, take, drop, length-append, length-take}
use lib.Seq.{length-take-le, take_all, take-append-add, take-add, drop_at, drop-drop}
use borrow.Author.Tests.{leb-true, leb-false}
use Rattle.text.specs.Place.{over}

-- no more than there are
pub take_min : {A : Type 0} (d : List A) (n : ℕ) → take (min n (length d)) d ≡ take n d
take_min d zero = rw zero-min
take_min [] (suc n) = rw min-zero
take_min {A} (a ∷ d) (suc n) = rw suc-min-suc (ap (λ (v : List A). a ∷ v) (take_min d n))

pub drop_min : {A : Type 0} (d : List A) (n : ℕ) → drop (min n (length d)) d ≡ drop n d
drop_min d zero = rw zero-min
drop_min [] (suc n) = rw min-zero
drop_min (a ∷ d) (suc n) = rw suc-min-suc (drop_min d n)

-- what a function gives of the first n, and of the others
pub map-split : {A B : Type 0} (f : A → B) (n : ℕ) (l : List A) → map f l ≡ map f (take n l) ++ map f (drop n l)
map-split f zero l = refl
map-split f (suc n) [] = refl
map-split {B} f (suc n) (x ∷ l) = ap {B = List B} (λ r. f x ∷ r) (map-split f n l)

-- what is cut off does not count where more is taken and cut
pub take-cut : (n : ℕ) (u t : List ℕ) → take n (take n u ++ t) ≡ take n (u ++ t)
take-cut zero u t = refl
take-cut (suc n) [] t = refl
take-cut (suc n) (a ∷ u) t = ap (λ (v : List ℕ). a ∷ v) (take-cut n u t)

-- the first n of a kept prefix and more
take_prefix : (n : ℕ) (d s : List ℕ) (held : ℕ) → held ≤ n → held ≤ length d → take n (take held d ++ s) ≡ take held d ++ take (n - held) s
take_prefix n d s held l h =
    let c : length (take held d) ≡ held = length-take-le held d h in
    let k : n ≡ length (take held d) + (n - held) = omega arith in
    ap (λ (m : ℕ). take m (take held d ++ s)) k ∙ take-append-add (take held d) s (n - held)

-- written after the first bytes of a buffer: they and the text, written from its start
over_prefix : (d t : List ℕ) (held : ℕ) → held ≤ length d → over d held t ≡ over d 0 (take held d ++ t)
over_prefix d t held h =
    let c : length (take held d) ≡ held = length-take-le held d h in
    let z : held + length t ≡ 0 + length (take held d ++ t) = omega (arith, length-append (take held d) t) in
    ap (λ (m : ℕ). take held d ++ (t ++ drop m d)) z ∙ sym (append_assoc (take held d) t (drop (0 + length (take held d ++ t)) d))

-- of more, a buffer of n bytes keeps what there is room for after the first `held`: they are the first n of the bytes kept and those that came
module _ (n : ℕ) (d s : List ℕ) (held : ℕ) (l : held ≤ n) (h : held ≤ length d) where
  pub kept_count : held + length (take (n - held) s) ≡ length (take n (take held d ++ s))
  kept_count =
      let c : length (take held d) ≡ held = length-take-le held d h in
      omega (arith, length-append (take held d) (take (n - held) s), ap length (take_prefix n d s held l h))

  pub kept_over : over d held (take (n - held) s) ≡ over d 0 (take n (take held d ++ s))
  kept_over = over_prefix d (take (n - held) s) held h ∙ ap (over d 0) (sym (take_prefix n d s held l h))

-- what is the same for all lists of n elements and more depends on the first n alone
module _ {A : Type 0} (F : List ℕ → A) (n : ℕ) (x : A) (long : (l : List ℕ) → n ≤ length l → F l ≡ x) where
  by_prefix : (l : List ℕ) → F (take n l) ≡ F l
  by_prefix l = go (leb (length l) n) refl
    where
      go : (q : Bool) → leb (length l) n ≡ q → F (take n l) ≡ F l
      go true e = ap F (take_all n l (leb-true (length l) n e))
      go false e =
          let h = leb-false (length l) n e in
          long (take n l) (omega (arith, length-take n l)) ∙ sym (long l (omega arith))

  pub same_prefix : (u v : List ℕ) → take n u ≡ take n v → F u ≡ F v
  same_prefix u v e = sym (by_prefix u) ∙ ap F e ∙ by_prefix v

pub drop-take : (m k : ℕ) (s : List ℕ) → m ≤ length s → drop m (take (m + k) s) ≡ take k (drop m s)
drop-take m k s h = rw (take-add m k s) (drop_at (take m s) (take k (drop m s)) m (length-take-le m s h))

-- what stands after a separator and a name
pub rest_at : (s name : List ℕ) (at : ℕ) → drop (suc (length name)) (drop at s) ≡ drop (at + 1 + length name) s
rest_at s name at =
    let e : at + suc (length name) ≡ at + 1 + length name = omega arith in
    drop-drop (suc (length name)) at s ∙ ap (λ (k : ℕ). drop k s) e
