-- What `phc_judge` gives: the lines' numbers in their slice, and place and count as bytes. The layout is this interface's own.
-- Assumes nothing.
use Rattle.std.specs.Prelude.{ℕ, ◌+◌, ◌*◌, ◌/◌, cond, List, ◌++◌, eqb}
use Rattle.text.specs.Place.{Outcome, put_after}
use Rattle.accounts.specs.Batches.{BatchOutcome, batched}
use Rattle.accounts.specs.Batches.{BatchAnswer}
use Rattle.phc.specs.Records.{bytes32}
use Rattle.phc.specs.Writing.{number32}

-- a 64-bit little-endian number, and the way back from the bytes at a place
abbrev pub bytes64 : ℕ → List ℕ
bytes64 n = bytes32 n ++ bytes32 (n / 4294967296)

abbrev pub number64 : List ℕ → ℕ → ℕ
number64 t at = number32 t at + 4294967296 * number32 t (at + 4)

-- place and count
abbrev pub batch_bytes : BatchAnswer → List ℕ
batch_bytes b = bytes64 b.place ++ bytes64 b.count

abbrev pub batch_length : ℕ
batch_length = 16

-- place and count in a result's first 16 bytes; or the batch's number, then 17 where the result has fewer, and the result is as it was
abbrev pub recorded_batch : BatchAnswer → List ℕ → Outcome
recorded_batch b result = put_after b.number result 0 (batch_bytes b)

-- the slice of the lines' numbers, and the result
pub record JudgeOutcome : Type 0 where
  pub number : ℕ
  pub answers : List ℕ
  pub result : List ℕ

abbrev pub judge_outcome : ℕ → List ℕ → List ℕ → JudgeOutcome
judge_outcome number answers result = record { number = number; answers = answers; result = result }

-- 17 where the answers don't fit the slice, or place and count the result: each is tested before either is written, so both are, or neither
abbrev pub given_batch : BatchOutcome → List ℕ → List ℕ → JudgeOutcome
given_batch b answers result =
    let o = recorded_batch b.batch result in
    judge_outcome o.number (cond (eqb o.number 0) b.answers answers) o.buffer

unfoldable pub recorded_judging : List ℕ → ℕ → ℕ → List ℕ → List ℕ → JudgeOutcome
recorded_judging text from limit answers result = given_batch (batched text from limit answers) answers result
