-- The laws of `over`: one text after another, one byte, and a text at the start of a buffer.
-- Assumes nothing.
use Prim.Native.Nat.{ℕ, ◌+◌, ◌-◌, ◌≤◌, ◌<◌}
use mathlib.Core.Path.{◌≡◌, refl, sym, ap, ◌∙◌}
use mathlib.Core.List.{List, [], ◌∷◌, ◌++◌, append_assoc, append-nil}
use native.Mathlib.Nat.{zero-add, add-zero, add_assoc, le_of_eq}
use native.Mathlib.Numerals.{add-one}
use native.Mathlib.Omega.{arith}
use lib.ListN.{length, take, drop, set, length-append, length-take, length-drop, take-append-drop, drop_of_length-le}
use lib.Seq.{length-take-le, take_at, drop-append-add, drop-drop, set_split}
use borrow.Rule.Slice.PartMut.{put_mid}
use Rattle.std.specs.Prelude.{Result, Ok, Err}
use Rattle.refusals.specs.declared.Refusal.{Refusal}
use Rattle.text.specs.Place.{Outcome, chars_answered, over, put}
use Rattle.text.specs.declared.units.Chars.{Chars}
use Rattle.text.proofs.Writing.{tail_over, put_done}

-- nothing written
pub over-nil : (d : List ℕ) (at : ℕ) → over d at [] ≡ d
over-nil d at = rw (add-zero, take-append-drop)

-- written at the start
pub over_start : (d t : List ℕ) → over d 0 t ≡ t ++ drop (length t) d
over_start d t = rw zero-add

-- the length stays
pub length_over : (d : List ℕ) (at : ℕ) (t : List ℕ) → at + length t ≤ length d → length (over d at t) ≡ length d
length_over d at t h = simp (length-append, length-take, length-drop) (omega arith)

-- the first two of three joined lists, and what stands after them
take-two : (n : ℕ) (a b c : List ℕ) → length a + length b ≡ n → take n (a ++ (b ++ c)) ≡ a ++ b
take-two n a b c e = rw (← append_assoc a b c) (take_at (a ++ b) c n (length-append a b ∙ e))

drop-two : (n m : ℕ) (a b c : List ℕ) → length a + length b ≡ n → drop (n + m) (a ++ (b ++ c)) ≡ drop m c
drop-two n m a b c e = rw (← append_assoc a b c, ← e, ← length-append a b, drop-append-add)

-- one text after another is the two joined
pub over-over : (d : List ℕ) (at : ℕ) (t u : List ℕ) → at ≤ length d → over (over d at t) (at + length t) u ≡ over d at (t ++ u)
over-over d at t u h =
    let e : length (take at d) + length t ≡ at + length t = rw (length-take-le at d h) in
    simp (take-two, drop-two, drop-drop) (simp (length-append, append_assoc, add_assoc))

-- one store
pub over-set : (d : List ℕ) (i x : ℕ) → i < length d → set d i x ≡ over d i (x ∷ [])
over-set d i x h = rw (set_split d i x h, add-one)

-- t was written at the place, and then u from the start of the part that goes from its end on: so the two were
pub over_then : (d d₁ : List ℕ) (at b : ℕ) (t u ys : List ℕ) → at + length (t ++ u) ≤ length d → d₁ ≡ over d at t → b ≡ at + length t
    → ys ≡ over (take (length d₁ - b) (drop b d₁)) 0 u → put_mid b (length d₁ - b) d₁ ys ≡ over d at (t ++ u)
over_then d d₁ at b t u ys f e p q =
    let l = length-append t u in
    let n : length d₁ ≡ length d = ap length e ∙ length_over d at t (omega arith) in
    tail_over d₁ u ys b (omega arith) (q ∙ over_start (take (length d₁ - b) (drop b d₁)) u)
    ∙ rw (e, p) (over-over d at t u (omega arith))

-- one put after the other
pub over_after : (out₀ out₁ out₂ : List ℕ) (from middle : ℕ) (a b : List ℕ) → from ≤ length out₀ → out₁ ≡ over out₀ from a → middle ≡ from + length a
    → out₂ ≡ over out₁ middle b → out₂ ≡ over out₀ from (a ++ b)
over_after out₀ out₁ out₂ from middle a b h p q w = w ∙ rw (p, q) (over-over out₀ from a b h)

-- put into a buffer of its own length, a text is what the buffer then holds
pub put_whole : (d t left : List ℕ) (w : Result Chars Refusal) → length d ≡ length t → chars_answered w left ≡ put d 0 t → left ≡ t
put_whole d t left w l e =
    let written = put_done d 0 t (omega (arith, l)) (length t) refl (over d 0 t) refl in
    held w ∙ ap (λ (o : Outcome). o.buffer) (e ∙ sym written) ∙ over_start d t ∙ rw (drop_of_length-le d (le_of_eq l)) (append-nil t)
  where
    held : (w : Result Chars Refusal) → left ≡ (chars_answered w left).buffer
    held (Ok n) = refl
    held (Err r) = refl
