-- What is proved of the listing and of batches: proofs/Claims.antt has a value of each record.
-- Assumes nothing.
use Rattle.std.specs.Prelude.{ℕ, ◌≤◌, ◌<◌, min, List, ◌++◌, ◌≡◌, length, take, drop}
use Rattle.text.specs.Text.{concat}
use Rattle.accounts.specs.Lines.{lines, lines_left}
use Rattle.accounts.specs.Listing.{header, row_text, largest_line_number, rows_from, listing}
use Rattle.accounts.specs.Feeding.{most_kept, held_of, Calls, left_of}
use Rattle.accounts.specs.Batches.{numbers_of, batch_count, judged, not_judged, batched, BatchCalls}
use Rattle.accounts.specs.declared.line.Answer.{Answer}

-- however the input is cut: every run of calls
pub record Listings : Type 0 where
  -- from a fresh state: the header and what the calls write are the listing of the joined bytes, every line of it
  pub fresh : {d : List ℕ} {ps : List (List ℕ)} {written : List ℕ} → length d ≡ most_kept → Calls d 0 1 0 ps written → header ++ written ≡ listing (concat ps)
  -- from any state: the rows of the lines of the bytes that it stands for and of those that are left
  pub any : {d : List ℕ} {kept n from : ℕ} {ps : List (List ℕ)} {written : List ℕ} → length d ≡ most_kept → Calls d kept n from ps written
      → written ≡ rows_from n (lines (held_of d kept ++ left_of from ps))
  -- and there is such a run from every state: with room for each row the calls come to an end
  pub ends : (d : List ℕ) (kept n : ℕ) (ps : List (List ℕ)) → (written : List ℕ) × Calls d kept n 0 ps written

-- room enough for every row of the listing
pub record RowRoom : Type 0 where
  pub most : (n : ℕ) (a : Answer) → n ≤ largest_line_number → a.number ≤ 255 → length (row_text n a) ≤ 36

-- what an accepted call of a batch gave: the place, the count, and the slice as it left it
pub record BatchGave (text : List ℕ) (from limit : ℕ) (slice : List ℕ) (place count : ℕ) (answers : List ℕ) : Type 0 where
  pub smaller : count ≡ batch_count text from limit
  -- 'each line's number .., in order from its start'
  pub numbers : take count answers ≡ numbers_of (take count (lines_left text from))
  -- 'Places of the slice past the count keep what they held'
  pub kept : drop count answers ≡ drop count slice
  -- at the place to go on from the other lines are left; it is not past the text's end
  pub left : lines_left text place ≡ drop count (lines_left text from)
  pub inside : place ≤ length text

-- what a call of a batch gives, whatever text, place, limit and slice it is handed
pub record BatchGives (text : List ℕ) (from limit : ℕ) (slice : List ℕ) : Type 0 where
  -- 17 exactly when the smaller of the limit and the lines there is more than the slice holds; nothing is judged or written then
  pub refused : length slice < batch_count text from limit → batched text from limit slice ≡ not_judged slice
  pub accepted : batch_count text from limit ≤ length slice
      → (place : ℕ) × (answers : List ℕ) × (batched text from limit slice ≡ judged place (batch_count text from limit) answers)
  pub gives : (place count : ℕ) (answers : List ℕ) → batched text from limit slice ≡ judged place count answers
      → BatchGave text from limit slice place count answers
  -- 'limit 0 judges none': the place is where it began, or the text's end where that is past it
  pub none : batched text from 0 slice ≡ judged (min from (length text)) 0 slice

-- 'With any limits of at least 1 and no refusal, going on from the returned place until the end gives the same answers as one call over all'
pub record BatchClaims : Type 0 where
  pub one_call : (text : List ℕ) (from limit : ℕ) (slice : List ℕ) → BatchGives text from limit slice
  -- until the end: the numbers of all lines, in order
  pub every_line : {text : List ℕ} {from calls to : ℕ} {answers : List ℕ} → BatchCalls text from calls to answers → length text ≤ to
      → answers ≡ numbers_of (lines_left text from)
  -- which one call over all gives too: its limit is no less than the lines there
  pub going_on : {text : List ℕ} {from calls to : ℕ} {answers : List ℕ} → BatchCalls text from calls to answers → length text ≤ to
      → (limit : ℕ) (slice : List ℕ) (place count : ℕ) (all : List ℕ) → length (lines_left text from) ≤ limit → batched text from limit slice ≡ judged place count all
      → (take count all ≡ answers) × (place ≡ length text)
  -- going on ends: there are never more calls than lines; and at the text's end alone, since before it `accepted` is a further call, for every limit of
  -- at least 1 and every slice with room
  pub ends : {text : List ℕ} {from calls to : ℕ} {answers : List ℕ} → BatchCalls text from calls to answers → calls ≤ length (lines_left text from)
