-- `decimal::writer::put_digits` meets its contract: the digits of what is left, before what stands from there on, are the whole text. Assumes
-- nothing.
use Rattle.std.proofs.Common.{◌≡◌, ◌≤◌, ◌<◌, ◌++◌, length, drop, List, ℕ}
use Rattle.decimal.specs.Decimal.{digits}
use Rattle.decimal.proofs.DigitSteps.{Begun}
use Rattle.decimal.proofs.writer.put_digits.Given as goal

abbrev pub invariant-loop-i : goal.invariant-loop-i
invariant-loop-i l =
    let whole : List ℕ = digits l.value ++ drop (length (digits l.value)) l.initial.buf in
    record {
      inside : (l.i ≤ l.count) × (length l.buf ≡ length l.initial.buf);
      begun : 0 < l.i → Begun l.buf l.i l.rest whole;
      done : l.i ≡ 0 → l.buf ≡ whole;
    }
