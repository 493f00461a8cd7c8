-- The run at a place, the characters of the alphabet that stand there, decoded as far as it goes. Free answers: the papers know no such entry. It is
-- for a reader that doesn't know yet where a text ends, and decodes where nobody looks.
-- Assumes nothing.
use Rattle.std.specs.Prelude.{ℕ, ◌+◌, ◌-◌, ◌*◌, ◌/◌, min, ◌≡◌, Bool, cond, ◌&&◌, List, length, take, drop}
use Rattle.text.specs.Text.{run}
use Rattle.text.specs.Place.{has_room, over}
use Rattle.b64.specs.B64.{in_alphabet, canonical, decode}
use Rattle.b64.specs.declared.decoder.Run.{Run}

-- the characters at a place, up to the first byte outside the alphabet. Free answer: none past the end
abbrev pub run_at : List ℕ → ℕ → List ℕ
run_at s at = run in_alphabet (drop at s)

-- the run is a canonical text, and its bytes fit a buffer of so many bytes from the place on. Free answer: past the buffer's end nothing fits, not
-- even no bytes
unfoldable pub is_complete : ℕ → ℕ → List ℕ → Bool
is_complete size from t = canonical t && has_room size from (length (decode t))

-- what is decoded of a run: all of it; or else its whole groups, as many as fit
unfoldable pub decoded_of : ℕ → ℕ → List ℕ → List ℕ
decoded_of size from t = cond (is_complete size from t) t (take (min (length t / 4) ((size - from) / 3) * 4) t)

abbrev pub decoded_at : List ℕ → ℕ → List ℕ → ℕ → List ℕ
decoded_at s at buffer from = decoded_of (length buffer) from (run_at s at)

-- what the decoder of a run gives: the places after what is decoded and after its bytes, whether the run is complete, and the buffer as it leaves it
pub record RunGives (s : List ℕ) (at : ℕ) (buffer : List ℕ) (from : ℕ) (after : List ℕ) (r : Run) : Type 0 where
  pub next_is : r.next ≡ at + length (decoded_at s at buffer from)
  pub end_is : r.end ≡ from + length (decode (decoded_at s at buffer from))
  pub complete_is : r.complete ≡ is_complete (length buffer) from (run_at s at)
  pub buffer_is : after ≡ over buffer from (decode (decoded_at s at buffer from))
