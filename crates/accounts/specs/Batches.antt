-- Request (ii): 'Given account text and a line limit, judge at most that many lines, put each line's number from 01's list into a lent slice, in
-- order from its start, and return the place to go on from and the count of lines judged.' A call, and every run of calls over a text.
-- Assumes nothing.
use Rattle.std.specs.Prelude.{ℕ, suc, ◌+◌, ◌≤◌, ◌<◌, min, cond, List, [], ◌++◌, map, ◌≡◌, leb, length, take, Result, Ok, Err}
use Rattle.refusals.specs.Numbers.{number_of}
use Rattle.refusals.specs.declared.Refusal.{Refusal}
use Rattle.text.specs.Place.{over}
use Rattle.accounts.specs.Lines.{lines_left, lines_text, line_answer}
use Rattle.accounts.specs.declared.batch.Batch.{Batch}

-- each line's number from 01's list
abbrev pub numbers_of : List (List ℕ) → List ℕ
numbers_of ls = map (λ (l : List ℕ). (line_answer l).number) ls

-- ---- what a call gives

-- 'The count is the smaller of the limit and the lines there by 01's line rule; limit 0 judges none'
abbrev pub batch_count : List ℕ → ℕ → ℕ → ℕ
batch_count text from limit = min limit (length (lines_left text from))

-- the place to go on from, counted from the text's start: after at most so many lines, each with its line feed; after a last line without one it is
-- the text's end. Free answer: from past the end it is the end
unfoldable pub place_after : List ℕ → ℕ → ℕ → ℕ
place_after text from limit = min (from + length (lines_text (take limit (lines_left text from)))) (length text)

-- 0, the place and the count; or 17 and zeros
pub record BatchAnswer : Type 0 where
  pub number : ℕ
  pub place : ℕ
  pub count : ℕ

-- what the entry gives, as that answer
abbrev pub batch_answer : Result Batch Refusal → BatchAnswer
batch_answer (Ok b) = record { number = 0; place = b.place; count = b.count }
batch_answer (Err e) = record { number = number_of e; place = 0; count = 0 }

-- the answer, and the slice as the call leaves it
pub record BatchOutcome : Type 0 where
  pub batch : BatchAnswer
  pub answers : List ℕ

abbrev pub batch_outcome : BatchAnswer → List ℕ → BatchOutcome
batch_outcome batch answers = record { batch = batch; answers = answers }

-- the lines were judged, and their numbers written
abbrev pub judged : ℕ → ℕ → List ℕ → BatchOutcome
judged place count answers = batch_outcome (record { number = 0; place = place; count = count }) answers

-- 17, 'with nothing judged or written'
abbrev pub not_judged : List ℕ → BatchOutcome
not_judged answers = batch_outcome (record { number = 17; place = 0; count = 0 }) answers

-- '17 when the answers don't fit'; places of the slice past the count keep what they held
unfoldable pub batched : List ℕ → ℕ → ℕ → List ℕ → BatchOutcome
batched text from limit answers =
    let count = batch_count text from limit in
    cond (leb count (length answers))
    (judged (place_after text from limit) count (over answers 0 (numbers_of (take limit (lines_left text from)))))
    (not_judged answers)

-- ---- going on

-- a run of calls: of a text, the place where it begins, how many calls it has, the place that the last gave, and the answers that they put into
-- their slices, joined. Each call has a limit of at least 1, is not refused, and begins before the text's end, at the place that the one before gave
pub data BatchCalls : List ℕ → ℕ → ℕ → ℕ → List ℕ → Type 0 where
  none : {text : List ℕ} {from : ℕ} → BatchCalls text from 0 from []
  call : {text : List ℕ} {from : ℕ} (limit : ℕ) (slice : List ℕ) {place count calls to : ℕ} {answers rest : List ℕ} → 1 ≤ limit → from < length text
      → batched text from limit slice ≡ judged place count answers → BatchCalls text place calls to rest
      → BatchCalls text from (suc calls) to (take count answers ++ rest)
