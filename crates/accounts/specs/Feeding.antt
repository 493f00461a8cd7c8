-- 'Each line's number is 18 or 19 where that row applies, and otherwise the one the profile reader gives for that line's own string, and the
-- library promises it for every line': of input that comes in parts. A state is an array of 513 bytes, the count of those kept, and the number of
-- the line.
-- Assumes nothing.
use Rattle.std.specs.Prelude.{ℕ, suc, ◌+◌, cond, List, [], ◌∷◌, ◌++◌, ◌≡◌, length, take, drop, Result, Ok, Err}
use Rattle.refusals.specs.Numbers.{number}
use Rattle.refusals.specs.declared.Refusal.{Refusal}
use Rattle.refusals.specs.declared.Refusal.TheVariants.{NoRoom}
use Rattle.text.specs.Text.{line_feed, has, find, cut, concat}
use Rattle.text.specs.Place.{Outcome, outcome, has_room, over, put}
use Rattle.accounts.specs.Lines.{last_line, line_answer}
use Rattle.accounts.specs.Listing.{row_text, rows_from, next_line}
use Rattle.accounts.specs.declared.listing.Listed.{Listed}
use Rattle.accounts.specs.declared.listing.Listed.TheVariants.{Row, UsedUp}

-- one byte more than the longest line
abbrev pub most_kept : ℕ
most_kept = 513

-- the bytes of the unfinished line that a state stands for: those kept. Free answer: of a state made by hand those up to the first line feed among
-- them, and all 513 where it says that more are kept; states that the calls make keep no line feed
unfoldable pub held_of : List ℕ → ℕ → List ℕ
held_of d kept = (cut line_feed (take kept d)).0

-- ---- what a call gives

-- document 01's number for each case
abbrev pub listed_number : Result Listed Refusal → ℕ
listed_number = number

-- the answer with its number, and the array and the lent buffer as the call leaves them
pub record Fed : Type 0 where
  pub number : ℕ
  pub listed : Result Listed Refusal
  pub array : List ℕ
  pub buffer : List ℕ

abbrev pub fed : Result Listed Refusal → List ℕ → List ℕ → Fed
fed listed array buffer = record { number = listed_number listed; listed = listed; array = array; buffer = buffer }

-- a row at a place of the buffer; the line ends before `place`
abbrev pub row_fed : ℕ → List ℕ → ℕ → List ℕ → List ℕ → ℕ → Fed
row_fed n t place d buffer at =
    cond (has_room (length buffer) at (length t)) (fed (Ok (Row place (record { 0 = length t }) (next_line n))) d (over buffer at t)) (fed (Err NoRoom) d buffer)

-- the part is used up: the first bytes of the unfinished line are kept. A place past the buffer's end is 17 even so
abbrev pub used_fed : List ℕ → List ℕ → List ℕ → ℕ → Fed
used_fed u d buffer at =
    cond (has_room (length buffer) at 0) (fed (Ok (UsedUp (length (take most_kept u)))) (over d 0 (take most_kept u)) buffer) (fed (Err NoRoom) d buffer)

-- the next line of a part from a place on: its row, or that the part is used up. Free answer: from past the part's end is as from its end
unfoldable pub next_fed : List ℕ → ℕ → ℕ → List ℕ → ℕ → List ℕ → ℕ → Fed
next_fed d kept n part from buffer at =
    let s = drop from part in
    cond (has line_feed s)
    (row_fed n (row_text n (line_answer (held_of d kept ++ (cut line_feed s).0))) (suc (from + find line_feed s)) d buffer at)
    (used_fed (held_of d kept ++ s) d buffer at)

-- the row of the last line at the end of the input, where it has any byte
unfoldable pub end_put : List ℕ → ℕ → ℕ → List ℕ → ℕ → Outcome
end_put d kept n buffer at = put buffer at (rows_from n (last_line (held_of d kept)))

-- ---- every run of calls

-- what the calls write, from a state and the parts that are left (the first from a place on); a buffer is lent anew for each call, and
-- a call without room may be made again
pub data Calls : List ℕ → ℕ → ℕ → ℕ → List (List ℕ) → List ℕ → Type 0 where
  row : {d : List ℕ} {kept n from : ℕ} {p : List ℕ} {ps : List (List ℕ)} (buffer : List ℕ) (at : ℕ) {place count line : ℕ} {array left rest : List ℕ}
      → next_fed d kept n p from buffer at ≡ fed (Ok (Row place (record { 0 = count }) line)) array left
      → Calls array 0 line place (p ∷ ps) rest → Calls d kept n from (p ∷ ps) (take count (drop at left) ++ rest)
  full : {d : List ℕ} {kept n from : ℕ} {p : List ℕ} {ps : List (List ℕ)} (buffer : List ℕ) (at : ℕ) {array left rest : List ℕ}
      → next_fed d kept n p from buffer at ≡ fed (Err NoRoom) array left
      → Calls array kept n from (p ∷ ps) rest → Calls d kept n from (p ∷ ps) rest
  used : {d : List ℕ} {kept n from : ℕ} {p : List ℕ} {ps : List (List ℕ)} (buffer : List ℕ) (at : ℕ) {more : ℕ} {array left rest : List ℕ}
      → next_fed d kept n p from buffer at ≡ fed (Ok (UsedUp more)) array left
      → Calls array more n 0 ps rest → Calls d kept n from (p ∷ ps) rest
  end : {d : List ℕ} {kept n : ℕ} (buffer : List ℕ) (at : ℕ) {count : ℕ} {left : List ℕ}
      → end_put d kept n buffer at ≡ outcome 0 count left → Calls d kept n 0 [] (take count (drop at left))

-- what is left of the input: the first part from a place on
abbrev pub left_of : ℕ → List (List ℕ) → List ℕ
left_of from [] = []
left_of from (p ∷ ps) = drop from p ++ concat ps
