-- A writer from a place counts its text, tests the room once, and lends what is left to a writer at its start: the room, and what it hands
-- back.
-- Assumes nothing.
use Prim.Native.Nat.{ℕ, ◌+◌, ◌-◌, ◌≤◌}
use mathlib.Core.Bool.{Bool, true, false}
use mathlib.Core.List.{List, ◌++◌}
use mathlib.Core.Path.{◌≡◌, sym, ap, ◌∙◌}
use native.Mathlib.Omega.{arith}
use lib.ListN.{length, take, drop, length-drop}
use borrow.Author.Tests.{leb-true, leb-false, le-leb}
use borrow.Rule.Slice.PartMut.{put_mid}
use Rattle.std.proofs.Common.{Result, Ok, Err, refl, ap}
use Rattle.std.specs.Result.{IsOk}
use Rattle.refusals.specs.declared.Refusal.{Refusal}
use Rattle.refusals.specs.Numbers.{number_of}
use Rattle.refusals.proofs.Numbers.{number_pos}
use Rattle.text.specs.Place.{Outcome, outcome, refused, answered, has_room, over, put}
use Rattle.text.proofs.Writing.{put_done, put_full, tail_part, tail_over}
use Rattle.text.proofs.Over.{over_start}

-- t is to be written, `count` is its length, and `b` is the answer to whether it fits
pub record Asked (buffer : List ℕ) (at : ℕ) (t : List ℕ) (count : ℕ) (b : Bool) : Type 0 where
  pub counted : count ≡ length t
  pub answered : b ≡ has_room (length buffer) at count

module _ {buffer : List ℕ} {at : ℕ} {t : List ℕ} {count : ℕ} {b : Bool} (q : Asked buffer at t count b) where
  fits : b ≡ has_room (length buffer) at (length t)
  fits = q.answered ∙ ap (has_room (length buffer) at) q.counted

  pub writer_fits : b ≡ true → at + length t ≤ length buffer
  writer_fits h = leb-true (at + length t) (length buffer) (sym fits ∙ h)

  pub writer_full : b ≡ false → refused 17 buffer ≡ put buffer at t
  writer_full h = put_full buffer at t (leb-false (at + length t) (length buffer) (sym fits ∙ h))

  -- the part that is lent has room for the text
  pub writer_room : b ≡ true → length t ≤ length (take (length buffer - at) (drop at buffer))
  writer_room h = rw (tail_part buffer at, length-drop) (omega (arith, writer_fits h))

  -- and came back with the text at its start
  pub writer_done : b ≡ true → (ys : List ℕ) → ys ≡ t ++ drop (length t) (take (length buffer - at) (drop at buffer))
      → outcome 0 count (put_mid at (length buffer - at) buffer ys) ≡ put buffer at t
  writer_done h ys e =
      put_done buffer at t (writer_fits h) count q.counted (put_mid at (length buffer - at) buffer ys) (tail_over buffer t ys at (writer_fits h) e)

  pub writer_over : b ≡ true → (ys : List ℕ) → ys ≡ over (take (length buffer - at) (drop at buffer)) 0 t
      → outcome 0 count (put_mid at (length buffer - at) buffer ys) ≡ put buffer at t
  writer_over h ys e = writer_done h ys (e ∙ over_start (take (length buffer - at) (drop at buffer)) t)

-- where there is room, an answer is a count
pub has_count : {A : Type 0} (size : A → ℕ) (w : Result A Refusal) (buffer left t : List ℕ) (at : ℕ) → at + length t ≤ length buffer
    → answered size w left ≡ put buffer at t → IsOk w
unfolding put
has_count size (Ok a) buffer left t at h e = refl
has_count size (Err r) buffer left t at h e =
    let z : number_of r ≡ 0 = ap (λ (o : Outcome). o.number) (rw (le-leb (at + length t) (length buffer) h) at e) in
    absurd (omega (arith, number_pos r))
