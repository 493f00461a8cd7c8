-- Laws of emptiness, of tests on every element, of splitting and joining, of cutting at a byte, of taking a first element that passes a test,
-- and of an element at a place.
-- Assumes nothing.
use Prim.Native.Nat.{ℕ, zero, suc, ◌<◌, ◌+◌}
use mathlib.Core.Bool.{Bool, true, false, cond, ◌&&◌, ◌||◌, and_assoc, true≢false, false≢true, or-true}
use mathlib.Core.List.{List, [], ◌∷◌, ◌++◌}
use mathlib.Core.Option.{Option, none, some}
use mathlib.Core.Path.{◌≡◌, refl, sym, ◌∙◌, ap, ap₂}
use mathlib.Core.Logic.{⊎_elim}
use native.Mathlib.Omega.{arith}
use lib.Dec.{eqb}
use lib.ListN.{length, take, get_or, set, drop}
use borrow.Author.Tests.{eqb-true, eq-eqb}
use native.Mathlib.Numerals.{add-one}
use lib.Seq.{drop-cons, get_or-set_same, drop-set-lt, lt-length-set}
use Rattle.text.specs.Text.{all, has, same, empty, Parts, put_byte, split, join, cut_byte, cut, head_if, tail_if, list_of, NoneHas, Fails, Fits, violates}
use Rattle.text.proofs.Tests.{both, and-true, neither, or-false, either, not_of_true}

-- ---- emptiness

module _ {A : Type 0} where
  pub empty-nil : (l : List A) → empty l ≡ true → l ≡ []
  empty-nil [] e = refl
  empty-nil (x ∷ l) e = absurd (false≢true e)

  pub length-nil : (l : List A) → length l ≡ 0 → l ≡ []
  length-nil [] e = refl
  length-nil (x ∷ l) e = absurd (omega arith)

  pub length-empty : (l : List A) → length l ≡ 0 → empty l ≡ true
  length-empty l e = rw (length-nil l e)

  pub length_filled : (l : List A) → (length l ≡ 0 → ⊥) → empty l ≡ false
  length_filled [] n = absurd (n refl)
  length_filled (x ∷ l) n = refl

  pub filled_length : (l : List A) → empty l ≡ false → 0 < length l
  filled_length [] e = absurd (true≢false e)
  filled_length (x ∷ l) e = omega arith

-- ---- two texts, and tests on every element

pub same_eq : (s u : List ℕ) → same s u ≡ true → s ≡ u
same_eq [] [] e = refl
same_eq [] (b ∷ bs) e = absurd (false≢true e)
same_eq (a ∷ s) [] e = absurd (false≢true e)
same_eq (a ∷ s) (b ∷ bs) e = let p = both (eqb a b) (same s bs) e in ap₂ {C = List ℕ} ◌∷◌ (eqb-true a b p.0) (same_eq s bs p.1)

pub same_refl : (s : List ℕ) → same s s ≡ true
same_refl [] = refl
same_refl (a ∷ s) = and-true (eq-eqb a a refl) (same_refl s)

-- a byte outside a class is not in a string of the class
pub not_in : (f : ℕ → Bool) (d : ℕ) → f d ≡ false → (s : List ℕ) → all f s ≡ true → has d s ≡ false
not_in f d e [] a = refl
not_in f d e (c ∷ s) a = or-false (other (eqb c d) refl) (not_in f d e s p.1)
  where
    p : (f c ≡ true) × (all f s ≡ true)
    p = both (f c) (all f s) a

    other : (b : Bool) → eqb c d ≡ b → eqb c d ≡ false
    other true q = absurd (true≢false (sym p.0 ∙ ap f (eqb-true c d q) ∙ e))
    other false q = q

pub has-append : (d : ℕ) (s u : List ℕ) → has d s ≡ false → has d u ≡ false → has d (s ++ u) ≡ false
has-append d [] u p q = q
has-append d (c ∷ s) u p q = let r = neither (eqb c d) (has d s) p in or-false r.0 (has-append d s u r.1 q)

-- an element of a list passes what all do
pub all-has : (f : ℕ → Bool) (d : ℕ) (s : List ℕ) → all f s ≡ true → has d s ≡ true → f d ≡ true
all-has f d s a h = ⊎_elim (λ p. p) (λ q. absurd (true≢false (sym h ∙ not_in f d q s a))) (either (f d))

pub all_append : (f : ℕ → Bool) (s u : List ℕ) → all f (s ++ u) ≡ (all f s && all f u)
all_append f [] u = refl
all_append f (c ∷ s) u = rw (all_append f s u, and_assoc)

pub has_middle : (d : ℕ) (n u : List ℕ) → has d (n ++ d ∷ u) ≡ true
has_middle d [] u = rw (eq-eqb d d refl)
has_middle d (c ∷ n) u = rw (has_middle d n u, or-true)

pub all_map : (f g : ℕ → Bool) → ((c : ℕ) → f c ≡ true → g c ≡ true) → (s : List ℕ) → all f s ≡ true → all g s ≡ true
all_map f g h [] p = refl
all_map f g h (c ∷ s) p = let r = both (f c) (all f s) p in and-true (h c r.0) (all_map f g h s r.1)

-- ---- splitting and joining

join-cons : (d c : ℕ) (p : List ℕ) (qs : List (List ℕ)) → join d (c ∷ p) qs ≡ c ∷ join d p qs
join-cons d c p [] = refl
join-cons d c p (q ∷ qs) = refl

pub join-split : (d : ℕ) (s : List ℕ) → join d (split d s).0 (split d s).1 ≡ s
join-split d [] = refl
join-split d (c ∷ s) = go (eqb c d) refl (split d s) (join-split d s)
  where
    go : (b : Bool) → eqb c d ≡ b → (p : Parts) → join d p.0 p.1 ≡ s → join d (put_byte b c p).0 (put_byte b c p).1 ≡ c ∷ s
    go true e p h = ap₂ {C = List ℕ} ◌∷◌ (sym (eqb-true c d e)) h
    go false e p h = join-cons d c p.0 p.1 ∙ ap {B = List ℕ} (λ l. c ∷ l) h

split_free : (d : ℕ) (p : List ℕ) → has d p ≡ false → split d p ≡ (p, [])
split_free d [] e = refl
split_free d (c ∷ p) e = let r = neither (eqb c d) (has d p) e in rw (r.0, split_free d p r.1)

split-append : (d : ℕ) (p r : List ℕ) → has d p ≡ false → split d (p ++ d ∷ r) ≡ (p, (split d r).0 ∷ (split d r).1)
split-append d [] r e = rw (eq-eqb d d refl)
split-append d (c ∷ p) r e = let q = neither (eqb c d) (has d p) e in rw (q.0, split-append d p r q.1)

pub split_join : (d : ℕ) (p : List ℕ) (qs : List (List ℕ)) → has d p ≡ false → NoneHas d qs → split d (join d p qs) ≡ (p, qs)
split_join d p [] e h = split_free d p e
split_join d p (q ∷ qs) e h = split-append d p (join d q qs) e ∙ rw (split_join d q qs h.0 h.1)

-- ---- cutting

pub cut-join : (d : ℕ) (n v : List ℕ) → has d n ≡ false → cut d (n ++ d ∷ v) ≡ (n, v)
cut-join d [] v e = rw (eq-eqb d d refl)
cut-join d (c ∷ n) v e = let q = neither (eqb c d) (has d n) e in rw (q.0, cut-join d n v q.1)

pub join-cut : (d : ℕ) (s : List ℕ) → empty (cut d s).1 ≡ false → (cut d s).0 ++ d ∷ (cut d s).1 ≡ s
join-cut d [] e = absurd (true≢false e)
join-cut d (c ∷ s) e = go (eqb c d) refl (cut d s) e (join-cut d s)
  where
    go : (b : Bool) → eqb c d ≡ b → (r : List ℕ × List ℕ) → empty (cut_byte b c s r).1 ≡ false → (empty r.1 ≡ false → r.0 ++ d ∷ r.1 ≡ s) → (cut_byte b c s r).0 ++ d ∷ (cut_byte b c s r).1 ≡ c ∷ s
    go true q r e h = ap {B = List ℕ} (λ x. x ∷ s) (sym (eqb-true c d q))
    go false q r e h = ap {B = List ℕ} (λ l. c ∷ l) (h e)

-- what is cut off before a separator has none, and is all where there is none
pub cut_free : (d : ℕ) (s : List ℕ) → has d (cut d s).0 ≡ false
cut_free d [] = refl
cut_free d (a ∷ s) = go (eqb a d) refl (cut_free d s)
  where
    go : (q : Bool) → eqb a d ≡ q → has d (cut d s).0 ≡ false → has d (cut_byte q a s (cut d s)).0 ≡ false
    go true e h = refl
    go false e h = or-false e h

pub cut_whole : (d : ℕ) (s : List ℕ) → has d s ≡ false → (cut d s).0 ≡ s
cut_whole d [] h = refl
cut_whole d (a ∷ s) h = go (eqb a d) (cut_whole d s) h
  where
    go : (q : Bool) → (has d s ≡ false → (cut d s).0 ≡ s) → (q || has d s) ≡ false → (cut_byte q a s (cut d s)).0 ≡ a ∷ s
    go true i h = absurd (true≢false h)
    go false i h = ap (λ (v : List ℕ). a ∷ v) (i h)

pub take_free : (d n : ℕ) (s : List ℕ) → has d s ≡ false → has d (take n s) ≡ false
take_free d zero s h = refl
take_free d (suc n) [] h = refl
take_free d (suc n) (a ∷ s) h = let p = neither (eqb a d) (has d s) h in or-false p.0 (take_free d n s p.1)

-- ---- a first element that passes a test

module _ {A : Type 0} (f : A → Bool) where
  pub head_tail : (l : List A) → list_of (head_if f l) ++ tail_if f l ≡ l
  head_tail [] = refl
  head_tail (x ∷ xs) = go (f x)
    where
      go : (b : Bool) → list_of (cond b (some x) none) ++ cond b xs (x ∷ xs) ≡ x ∷ xs
      go true = refl
      go false = refl

  head_none : (l : List A) → Fails f l → head_if f l ≡ none
  head_none [] h = refl
  head_none (x ∷ xs) h = rw h

  tail_none : (l : List A) → Fails f l → tail_if f l ≡ l
  tail_none [] h = refl
  tail_none (x ∷ xs) h = rw h

  pub head_of : (o : Option A) (l : List A) → Fits f o l → head_if f (list_of o ++ l) ≡ o
  head_of none l h = head_none l h
  head_of (some x) l h = rw h

  pub tail_of : (o : Option A) (l : List A) → Fits f o l → tail_if f (list_of o ++ l) ≡ l
  tail_of none l h = tail_none l h
  tail_of (some x) l h = rw h

  -- what is taken passes
  pub head_passes : (l : List A) → violates f (head_if f l) ≡ false
  head_passes [] = refl
  head_passes (x ∷ l) = go (f x) refl
    where
      go : (b : Bool) → f x ≡ b → violates f (cond {A = Option A} b (some x) none) ≡ false
      go true e = not_of_true e
      go false e = refl

-- ---- by places

pub all_at : (f : ℕ → Bool) (t : List ℕ) → all f t ≡ true → (i : ℕ) → i < length t → f (get_or t i 0) ≡ true
all_at f [] e i h = absurd (omega arith)
all_at f (c ∷ t) e zero h = (both (f c) (all f t) e).0
all_at f (c ∷ t) e (suc i) h = all_at f t (both (f c) (all f t) e).1 i (omega arith)

-- what stands from i on after a store at i
pub drop-set-same : (l : List ℕ) (i v : ℕ) → i < length l → drop i (set l i v) ≡ v ∷ drop (i + 1) l
drop-set-same l i v h =
    let k : i < length (set l i v) = lt-length-set l i v h in
    rw (drop-cons (set l i v) i 0 k, get_or-set_same l i v 0 h, drop-set-lt (suc i) l i v (omega arith), add-one)
