-- A loop that writes a list into a buffer part by part, from the start of the buffer.
-- Assumes nothing.
use Prim.Native.Nat.{ℕ, ◌+◌, ◌-◌, ◌≤◌}
use mathlib.Core.Path.{◌≡◌, refl, ap, ◌∙◌}
use mathlib.Core.List.{List, [], ◌++◌, append_assoc, append-nil}
use native.Mathlib.Omega.{arith}
use lib.ListN.{length, take, drop, length-append, length-drop}
use lib.Seq.{take_at, drop_at, take-add, drop-drop, length-take-le, take-length, take-append_seam, drop-append_seam}
use borrow.Rule.Slice.PartMut.{put_mid}
use Rattle.text.specs.Place.{over}
use Rattle.text.proofs.Writing.{tail_over}

-- d is d₀ with the first o elements of D written from its start, and R is what is left of D
pub record Partly (D d₀ d : List ℕ) (o : ℕ) (R : List ℕ) : Type 0 where
  pub keeps : length d ≡ length d₀
  pub done : o + length R ≡ length D
  pub so_far : d ≡ take o D ++ drop o d₀
  pub left : drop o D ≡ R

pub partly_start : (D d : List ℕ) → Partly D d d 0 D
partly_start D d = record { keeps = refl; done = omega arith; so_far = refl; left = refl }

-- vs, the next of what is left, is written from o
module _ (D d₀ d : List ℕ) (o : ℕ) (vs R : List ℕ) (p : Partly D d₀ d o (vs ++ R)) (fit : length D ≤ length d₀) where
  done' : o + length vs + length R ≡ length D
  done' = omega (arith, length-append vs R, p.done)

  pub partly_room : o + length vs ≤ length d
  partly_room = omega (arith, done', p.keeps)

  lo : length (take o D) ≡ o
  lo = length-take-le o D (omega (arith, done'))

  front : take o d ≡ take o D
  front = rw p.so_far (take_at (take o D) (drop o d₀) o lo)

  back : drop o d ≡ drop o d₀
  back = rw p.so_far (drop_at (take o D) (drop o d₀) o lo)

  more : take (o + length vs) D ≡ take o D ++ vs
  more = take-add o (length vs) D ∙ ap (λ (l : List ℕ). take o D ++ l) (rw p.left (take-append_seam vs R))

  so_far' : over d o vs ≡ take (o + length vs) D ++ drop (o + length vs) d₀
  so_far' = rw (← drop-drop (length vs) o d, front, back, more, drop-drop, append_assoc)

  keeps' : length (take (o + length vs) D ++ drop (o + length vs) d₀) ≡ length d₀
  keeps' = simp (length-append, length-take-le (o + length vs) D (omega (arith, done')), length-drop) (omega (arith, done'))

  pub partly_step : Partly D d₀ (over d o vs) (o + length vs) R
  partly_step =
      record { keeps = ap length so_far' ∙ keeps'; done = done'; so_far = so_far'; left = rw (← drop-drop (length vs) o D, p.left) (drop-append_seam vs R) }

  -- the part from o to the end was lent, and came back as ys
  partly_lent : (ys : List ℕ) → ys ≡ vs ++ drop (length vs) (take (length d - o) (drop o d))
      → Partly D d₀ (put_mid o (length d - o) d ys) (o + length vs) R
  partly_lent ys e = rw (tail_over d vs ys o partly_room e) partly_step

pub partly_end : (D d₀ d : List ℕ) (o : ℕ) → Partly D d₀ d o [] → d ≡ D ++ drop (length D) d₀
partly_end D d₀ d o p =
    let e : o ≡ length D = omega (arith, p.done) in
    p.so_far ∙ ap (λ (k : ℕ). take k D ++ drop k d₀) e ∙ ap (λ (l : List ℕ). l ++ drop (length D) d₀) (take-length D)

-- A loop that turns t into F t: u is what is left of t, and the part of d from o is lent.
module _ (F : List ℕ → List ℕ) (t d₀ d : List ℕ) (o : ℕ) (u : List ℕ) (p : Partly (F t) d₀ d o (F u)) (fit : length (F t) ≤ length d₀) where
  pub lent_room : o + length (F u) ≤ length d
  lent_room = omega (arith, p.done, p.keeps)

  pub lent_turn : (vs w ys : List ℕ) → F u ≡ vs ++ F w → ys ≡ vs ++ drop (length vs) (take (length d - o) (drop o d))
      → Partly (F t) d₀ (put_mid o (length d - o) d ys) (o + length vs) (F w)
  lent_turn vs w ys law ey = partly_lent (F t) d₀ d o vs (F w) (rw law at p) fit ys ey

  pub lent_last : (ys : List ℕ) → ys ≡ F u ++ drop (length (F u)) (take (length d - o) (drop o d)) → put_mid o (length d - o) d ys ≡ F t ++ drop (length (F t)) d₀
  lent_last ys ey =
      partly_end (F t) d₀ (put_mid o (length d - o) d ys) (o + length (F u)) (partly_lent (F t) d₀ d o (F u) [] (rw append-nil p) fit ys ey)
