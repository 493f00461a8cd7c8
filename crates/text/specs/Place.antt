-- 'Into a lent buffer, from a place in its middle onward. Bytes before the place and after the written ones stay.' The one definition for every
-- writer. 01's place is an index into a buffer or a string; its room is what is left of the buffer from there.
-- Assumes nothing.
use Rattle.std.specs.Prelude.{ℕ, ◌+◌, ◌≡◌, Bool, true, cond, List, ◌++◌, ◌≢◌, leb, eqb, length, take, drop, Result, Ok, Err}
use Rattle.refusals.specs.Numbers.{number_of}
use Rattle.refusals.specs.declared.Refusal.{Refusal}
use Rattle.text.specs.declared.units.Chars.{Chars}
use Rattle.text.specs.declared.units.Bytes.{Bytes}

-- what a writer hands back, and the buffer as it leaves it
pub record Outcome : Type 0 where
  pub number : ℕ
  pub count : ℕ
  pub buffer : List ℕ

abbrev pub outcome : ℕ → ℕ → List ℕ → Outcome
outcome number count buffer = record { number = number; count = count; buffer = buffer }

-- a refusal: its number, and nothing written
abbrev pub refused : ℕ → List ℕ → Outcome
refused number buffer = outcome number 0 buffer

-- the outcome that an answer is, with the buffer as the entry leaves it: a count, or a refusal's number and nothing counted
abbrev pub answered : {A : Type 0} → (A → ℕ) → Result A Refusal → List ℕ → Outcome
answered size (Ok a) buffer = outcome 0 (size a) buffer
answered size (Err r) buffer = refused (number_of r) buffer

-- a writer counts characters, a decoder bytes
abbrev pub chars_answered : Result Chars Refusal → List ℕ → Outcome
chars_answered = answered (λ n. n.0)

abbrev pub bytes_answered : Result Bytes Refusal → List ℕ → Outcome
bytes_answered = answered (λ n. n.0)

-- n bytes fit a buffer of so many bytes from the place on; so the place does not lie past its end. 'A place equal to the buffer's length is no fault
-- where nothing is to be written'
abbrev pub has_room : ℕ → ℕ → ℕ → Bool
has_room size at n = leb (at + n) size

-- the buffer with the bytes from the place on: what stands before and after them stays
abbrev pub over : List ℕ → ℕ → List ℕ → List ℕ
over buffer at bytes = take at buffer ++ (bytes ++ drop (at + length bytes) buffer)

-- row 17, or the bytes written
unfoldable pub put : List ℕ → ℕ → List ℕ → Outcome
put buffer at bytes =
    cond (has_room (length buffer) at (length bytes)) (outcome 0 (length bytes) (over buffer at bytes)) (refused 17 buffer)

-- the same after a number that may already refuse
unfoldable pub put_after : ℕ → List ℕ → ℕ → List ℕ → Outcome
put_after number buffer at bytes = cond (eqb number 0) (put buffer at bytes) (refused number buffer)

-- where an outcome is a refusal, its number is one of the entry's own, nothing is counted, and the buffer is as it was
abbrev pub Refuses : (ℕ → Bool) → List ℕ → Outcome → Type 0
Refuses own buffer o = o.number ≢ 0 → (own o.number ≡ true) × (o ≡ refused o.number buffer)

-- a text was put at the start of a buffer, and counted
pub record Wrote (t before after : List ℕ) (count : ℕ) : Type 0 where
  pub count_is : count ≡ length t
  pub left : after ≡ over before 0 t
