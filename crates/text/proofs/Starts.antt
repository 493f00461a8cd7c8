-- A text that begins with another: what it is, its length, and a separator before it; and how a text begins.
-- Assumes nothing.
use Prim.Native.Nat.{ℕ, suc, ◌+◌, ◌≤◌, ◌<◌}
use mathlib.Core.Bool.{Bool, true, false, ◌&&◌, ◌||◌, and-false, false≢true, cond, not}
use mathlib.Core.List.{List, [], ◌∷◌, ◌++◌, append_assoc}
use mathlib.Core.Path.{◌≡◌, refl, ap, ap₂, sym, ◌∙◌}
use native.Mathlib.Numerals.{add-one}
use native.Mathlib.Omega.{arith}
use lib.Dec.{eqb}
use lib.ListN.{length, drop, get_or}
use lib.Seq.{drop-cons, drop_at}
use borrow.Author.Tests.{eqb-true, eq-eqb}
use mathlib.Core.Option.{Option}
use Rattle.text.specs.Text.{has, find, starts_with}
use Rattle.text.proofs.Tests.{both, and-true, neither, is_false}

-- ---- a text that begins with another

pub starts_is : (l t : List ℕ) → starts_with l t ≡ true → t ≡ l ++ drop (length l) t
starts_is [] t e = refl
starts_is (c ∷ l) [] e = absurd (false≢true e)
starts_is (c ∷ l) (d ∷ t) e = let p = both (eqb d c) (starts_with l t) e in ap₂ {C = List ℕ} ◌∷◌ (eqb-true d c p.0) (starts_is l t p.1)

pub starts_own : (l t : List ℕ) → starts_with l (l ++ t) ≡ true
starts_own [] t = refl
starts_own (c ∷ l) t = and-true (eq-eqb c c refl) (starts_own l t)

-- no text begins with one that has a byte which it has not
pub starts_without : (d : ℕ) (l t : List ℕ) → has d l ≡ true → has d t ≡ false → starts_with l t ≡ false
starts_without d [] t h n = absurd (false≢true h)
starts_without d (c ∷ l) [] h n = refl
starts_without d (c ∷ l) (b ∷ t) h n = go (eqb c d) refl h (starts_without d l t)
  where
    q : (eqb b d ≡ false) × (has d t ≡ false)
    q = neither (eqb b d) (has d t) n

    go : (x : Bool) → eqb c d ≡ x → (x || has d l) ≡ true → (has d l ≡ true → has d t ≡ false → starts_with l t ≡ false) → (eqb b c && starts_with l t) ≡ false
    go true e h k = rw (eqb-true c d e, q.0)
    go false e h k = rw (k h q.1) (and-false (eqb b c))

-- ---- its length, and a separator before it

-- what begins with a text is at least as long
pub starts_text : (l t : List ℕ) → starts_with l t ≡ true → length l ≤ length t
starts_text [] t e = omega arith
starts_text (c ∷ l) [] e = let z : ◌≡◌ {A = Bool} false true = e in let n : ◌≡◌ {A = ℕ} 0 1 = cc in absurd (omega arith)
starts_text (c ∷ l) (d ∷ t) e = let q = starts_text l t (both (eqb d c) (starts_with l t) e).1 in omega arith

-- a separator and a text after it
module _ (separator : ℕ) (l t : List ℕ) (j : ℕ) where
  pub separator_same : j < length t → get_or t j 0 ≡ separator → (b : Bool) → b ≡ starts_with l (drop (j + 1) t) → b ≡ starts_with (separator ∷ l) (drop j t)
  separator_same k e b q = rw (drop-cons t j 0 k, eq-eqb (get_or t j 0) separator e, ← add-one j) q

-- ---- how a text begins, where there is one

abbrev pub Begins : (ℕ → Type 0) → List ℕ → Type 0
Begins P [] = Unit {0}
Begins P (c ∷ t) = P c

-- a byte that stands nowhere in a text is found behind it
pub find_behind : (d : ℕ) (t u : List ℕ) → has d t ≡ false → Begins (λ c. c ≡ d) u → find d (t ++ u) ≡ length t
find_behind d [] [] e h = refl
find_behind d [] (c ∷ u) e h = rw (eq-eqb c d h)
find_behind d (c ∷ t) u e h = let q = neither (eqb c d) (has d t) e in rw q.0 (ap suc (find_behind d t u q.1 h))

-- behind a text that begins with l
pub starts_behind : (l t u rest : List ℕ) → starts_with l t ≡ true → drop (length l) t ≡ u ++ rest → t ≡ (l ++ u) ++ rest
starts_behind l t u rest e h = starts_is l t e ∙ ap (λ (x : List ℕ). l ++ x) h ∙ sym (append_assoc l u rest)

-- what stands behind its tag is read there
pub behind_tag : {A : Type 0} (tag t rest : List ℕ) (read : List ℕ → Option A) (left : Option A)
    → cond (starts_with tag ((tag ++ t) ++ rest)) (read (drop (length tag) ((tag ++ t) ++ rest))) left ≡ read (t ++ rest)
behind_tag tag t rest read left = rw (append_assoc tag t rest, starts_own tag (t ++ rest), drop_at tag (t ++ rest) (length tag) refl)

-- two texts differ in the first byte
abbrev pub differ : List ℕ → List ℕ → Bool
differ [] b = false
differ (c ∷ a) [] = false
differ (c ∷ a) (d ∷ b) = not (eqb d c)

pub starts_differ : (a b t : List ℕ) → differ a b ≡ true → starts_with a (b ++ t) ≡ false
starts_differ [] b t e = absurd (false≢true e)
starts_differ (c ∷ a) [] t e = absurd (false≢true e)
starts_differ (c ∷ a) (d ∷ b) t e = rw (is_false (eqb d c) e)
