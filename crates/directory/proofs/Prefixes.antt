-- Braced texts and `$` strings: each is the other with another prefix, so the two ways are inverse to each other and keep the length.
-- Assumes nothing.
use Prim.Native.Nat.{ℕ, ◌≤◌, ◌<◌}
use mathlib.Core.Bool.{Bool, true, false, not, cond, ◌||◌, and-true, and-false, true≢false, false≢true}
use mathlib.Core.List.{List, [], ◌∷◌, ◌++◌, append_assoc}
use lib.Dec.{eqb}
use mathlib.Core.Logic.{◌⊎◌, inl, inr}
use mathlib.Core.Option.{none, some, some-injective}
use mathlib.Core.Path.{◌≡◌, refl, sym, ◌∙◌, ap}
use native.Mathlib.Omega.{arith}
use lib.ListN.{length, take, drop, set, length-append, length-drop, drop_of_length-le}
use lib.Seq.{drop-append_seam}
use Rattle.text.specs.Text.{text, empty, starts_with, or_else, maybe}
use Rattle.text.proofs.Tests.{both, is_false}
use Rattle.text.proofs.Lists.{length_filled, filled_length}
use Rattle.std.specs.Cmp.Lexicographic.{pointwise}
use borrow.Author.Tests.{eq-eqb, ne_eqb, eqb-true, eqb-false}
use Rattle.text.proofs.Starts.{starts_is, starts_own}
use Rattle.grammar.specs.Pieces.{OptionalText}
use Rattle.directory.specs.Braced.{goes_on_after, replace_prefix, dollar_string, braced_text}
use Rattle.directory.specs.BracedSteps.{prefix_length, is_braced}

-- ---- one prefix

-- a text and another differ in their prefixes alone, and go on after them
pub record Differ (from to t u : List ℕ) : Type 0 where
  pub rest : List ℕ
  pub more : empty rest ≡ false
  pub left : t ≡ from ++ rest
  pub right : u ≡ to ++ rest

differ_of : (from to t : List ℕ) → goes_on_after from t ≡ true → Differ from to t (to ++ drop (length from) t)
differ_of from to t h =
    let p = both (starts_with from t) (not (empty (drop (length from) t))) h in
    record { rest = drop (length from) t; more = is_false (empty (drop (length from) t)) p.1; left = starts_is from t p.0; right = refl }

-- ---- two prefixes, of which no text has both

module _ (a b c d : List ℕ) where
  -- with the other prefix in place of its own
  abbrev either : List ℕ → OptionalText
  either t = or_else (replace_prefix a b t) (replace_prefix c d t)

  view : (t u : List ℕ) → either t ≡ some u → Differ a b t u ⊎ Differ c d t u
  view t u h = go (goes_on_after a t) refl (goes_on_after c t) refl h
    where
      go : (x : Bool) → goes_on_after a t ≡ x → (y : Bool) → goes_on_after c t ≡ y
          → or_else (cond x (some (b ++ drop (length a) t)) none) (cond y (some (d ++ drop (length c) t)) none) ≡ some u → Differ a b t u ⊎ Differ c d t u
      go true p y q h = let e : b ++ drop (length a) t ≡ u = some-injective (b ++ drop (length a) t) u h in inl (rw (← e) (differ_of a b t p))
      go false p true q h = let e : d ++ drop (length c) t ≡ u = some-injective (d ++ drop (length c) t) u h in inr (rw (← e) (differ_of c d t q))
      go false p false q h = let z : ◌≡◌ {A = ℕ} 0 1 = cc in absurd (omega arith)

  -- back again, where no text that has the second prefix has the first
  back : ((r : List ℕ) → starts_with b (d ++ r) ≡ false) → (t u : List ℕ) → either t ≡ some u → or_else (replace_prefix b a u) (replace_prefix d c u) ≡ some t
  back apart t u h = go (view t u h)
    where
      go : Differ a b t u ⊎ Differ c d t u → or_else (replace_prefix b a u) (replace_prefix d c u) ≡ some t
      go (inl w) = rw (w.right, w.left, starts_own b w.rest, drop-append_seam b w.rest, w.more)
      go (inr w) = rw (w.right, w.left, apart w.rest, starts_own d w.rest, drop-append_seam d w.rest, w.more)

  -- prefixes of so many bytes
  module _ (n : ℕ) (la : length a ≡ n) (lb : length b ≡ n) (lc : length c ≡ n) (ld : length d ≡ n) where
    lengths : (t u : List ℕ) → either t ≡ some u → (length t ≡ length u) × (n < length u)
    lengths t u h = go (view t u h)
      where
        go : Differ a b t u ⊎ Differ c d t u → (length t ≡ length u) × (n < length u)
        go (inl w) =
            let l = ap length w.left ∙ length-append a w.rest in
            let r = ap length w.right ∙ length-append b w.rest in
            (omega arith, omega (arith, filled_length w.rest w.more))
        go (inr w) =
            let l = ap length w.left ∙ length-append c w.rest in
            let r = ap length w.right ∙ length-append d w.rest in
            (omega arith, omega (arith, filled_length w.rest w.more))

  -- prefixes that differ in the first byte and in that at a place alone
  marked : (first last place : ℕ) → ((r : List ℕ) → set (set (a ++ r) 0 first) place last ≡ b ++ r) → ((r : List ℕ) → set (set (c ++ r) 0 first) place last ≡ d ++ r)
      → (t u : List ℕ) → either t ≡ some u → (x : List ℕ) → set (set (t ++ x) 0 first) place last ≡ u ++ x
  marked first last place p q t u h x = go (view t u h)
    where
      go : Differ a b t u ⊎ Differ c d t u → set (set (t ++ x) 0 first) place last ≡ u ++ x
      go (inl w) = rw (w.left, w.right, append_assoc a w.rest x, append_assoc b w.rest x) (p (w.rest ++ x))
      go (inr w) = rw (w.left, w.right, append_assoc c w.rest x, append_assoc d w.rest x) (q (w.rest ++ x))

-- ---- the directory's

pub dollar_braced : (t s : List ℕ) → dollar_string t ≡ some s → braced_text s ≡ some t
unfolding dollar_string braced_text
dollar_braced = back (text "{pbkdf2s2}") (text "$pbkdf2s2$") (text "{pbkdf2s3}") (text "$pbkdf2s3$") (λ r. refl)

pub braced_dollar : (s t : List ℕ) → braced_text s ≡ some t → dollar_string t ≡ some s
unfolding dollar_string braced_text
braced_dollar = back (text "$pbkdf2s2$") (text "{pbkdf2s2}") (text "$pbkdf2s3$") (text "{pbkdf2s3}") (λ r. refl)

pub dollar_view : (t s : List ℕ) → dollar_string t ≡ some s
    → Differ (text "{pbkdf2s2}") (text "$pbkdf2s2$") t s ⊎ Differ (text "{pbkdf2s3}") (text "$pbkdf2s3$") t s
unfolding dollar_string
dollar_view = view (text "{pbkdf2s2}") (text "$pbkdf2s2$") (text "{pbkdf2s3}") (text "$pbkdf2s3$")

pub dollar-length : (t s : List ℕ) → dollar_string t ≡ some s → (length t ≡ length s) × (prefix_length < length s)
unfolding dollar_string
dollar-length = lengths (text "{pbkdf2s2}") (text "$pbkdf2s2$") (text "{pbkdf2s3}") (text "$pbkdf2s3$") prefix_length refl refl refl refl

pub dollar-marked : (t s : List ℕ) → dollar_string t ≡ some s → (x : List ℕ) → set (set (t ++ x) 0 36) 9 36 ≡ s ++ x
unfolding dollar_string
dollar-marked = marked (text "{pbkdf2s2}") (text "$pbkdf2s2$") (text "{pbkdf2s3}") (text "$pbkdf2s3$") 36 36 9 (λ r. refl) (λ r. refl)

pub braced_marked : (s t : List ℕ) → braced_text s ≡ some t → (x : List ℕ) → set (set (s ++ x) 0 123) 9 125 ≡ t ++ x
unfolding braced_text
braced_marked = marked (text "$pbkdf2s2$") (text "{pbkdf2s2}") (text "$pbkdf2s3$") (text "{pbkdf2s3}") 123 125 9 (λ r. refl) (λ r. refl)

-- ---- whether a text is braced

pub braced_some : (t : List ℕ) → is_braced t ≡ true → (s : List ℕ) × (dollar_string t ≡ some s)
unfolding is_braced
braced_some t = go (dollar_string t)
  where
    go : (o : OptionalText) → maybe false (λ (s : List ℕ). true) o ≡ true → (s : List ℕ) × (o ≡ some s)
    go none h = absurd (false≢true h)
    go (some s) h = (s, refl)

pub not_braced : (t : List ℕ) → is_braced t ≡ false → dollar_string t ≡ none
unfolding is_braced
not_braced t = go (dollar_string t)
  where
    go : (o : OptionalText) → maybe false (λ (s : List ℕ). true) o ≡ false → o ≡ none
    go none h = refl
    go (some s) h = absurd (true≢false h)

-- it goes on after one of the prefixes
braced_is : (t : List ℕ) → is_braced t ≡ (goes_on_after (text "{pbkdf2s2}") t || goes_on_after (text "{pbkdf2s3}") t)
unfolding is_braced dollar_string
braced_is t = go (goes_on_after (text "{pbkdf2s2}") t) (goes_on_after (text "{pbkdf2s3}") t) _ _
  where
    go : (x y : Bool) (u v : List ℕ) → maybe false (λ (s : List ℕ). true) (or_else (cond x (some u) none) (cond y (some v) none)) ≡ (x || y)
    go true y u v = refl
    go false true u v = refl
    go false false u v = refl

-- ---- as the code tests it

pub short_not_braced : (t : List ℕ) → length t ≤ prefix_length → is_braced t ≡ false
short_not_braced t h = rw (braced_is t, drop_of_length-le t {i = 10} h, and-false (starts_with (text "{pbkdf2s2}") t), and-false (starts_with (text "{pbkdf2s3}") t))

eqb-comm : (a b : ℕ) → eqb a b ≡ eqb b a
eqb-comm a b = go (eqb a b) refl
  where
    go : (x : Bool) → eqb a b ≡ x → eqb a b ≡ eqb b a
    go true e = e ∙ sym (eq-eqb b a (sym (eqb-true a b e)))
    go false e = e ∙ sym (ne_eqb b a (λ k. eqb-false a b e (sym k)))

-- the library's test of a beginning
begins : (l t : List ℕ) → pointwise eqb l (take (length l) t) ≡ starts_with l t
begins [] t = refl
begins (c ∷ l) [] = refl
begins (c ∷ l) (d ∷ t) = rw (eqb-comm c d, begins l t)

-- a text with more bytes than a prefix goes on after each that it begins with
more_after : (prefix t : List ℕ) → length prefix < length t → goes_on_after prefix t ≡ pointwise eqb prefix (take (length prefix) t)
more_after prefix t h =
    let e : empty (drop (length prefix) t) ≡ false = length_filled (drop (length prefix) t) (λ z. omega (arith, length-drop (length prefix) t)) in
    rw (e, begins prefix t, and-true (starts_with prefix t))

pub braced_first : (t : List ℕ) → prefix_length < length t → pointwise eqb (text "{pbkdf2s2}") (take 10 t) ≡ true → is_braced t ≡ true
braced_first t h e = rw (braced_is t, more_after (text "{pbkdf2s2}") t h, e)

pub braced_second : (t : List ℕ) → prefix_length < length t → pointwise eqb (text "{pbkdf2s2}") (take 10 t) ≡ false
    → is_braced t ≡ pointwise eqb (text "{pbkdf2s3}") (take 10 t)
braced_second t h e = rw (braced_is t, more_after (text "{pbkdf2s2}") t h, e, more_after (text "{pbkdf2s3}") t h)

pub braced_length : (t : List ℕ) → is_braced t ≡ true → prefix_length < length t
braced_length t h = let (s, d) = braced_some t h in omega (arith, dollar-length t s d)
