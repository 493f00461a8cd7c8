-- The claims of specs/Claims.antt, proved.
-- Assumes nothing.
use Prim.Native.Nat.{ℕ}
use mathlib.Core.List.{List, [], ◌++◌}
use mathlib.Core.Path.{sym, ap, ◌∙◌}
use native.Mathlib.Omega.{arith}
use Rattle.decimal.proofs.DecimalLaws.{length_digits}
use Rattle.accounts.specs.Lines.{lines_from, lines}
use Rattle.accounts.specs.Listing.{header, rows_from, listing}
use Rattle.accounts.specs.Feeding.{held_of, left_of}
use Rattle.accounts.specs.Claims.{Listings, RowRoom, BatchClaims}
use Rattle.accounts.proofs.RowLaws.{row-length, kind_length}
use Rattle.accounts.proofs.TextLines.{from_plain_lem}
use Rattle.accounts.proofs.BatchRuns.{batch_gives, run_whole, run_ends, whole_call}
use Rattle.accounts.proofs.CallLaws.{held_free, held_none, left_zero, run_left, runs}

pub listings : Listings
unfolding listing lines
listings =
    record {
      fresh = λ {d} {ps} l c. ap (λ (w : List ℕ). header ++ w) (run_left c l ∙ (λ i. rows_from 1 (lines_from (held_none d i) (left_zero ps i))));
      any = λ {d} {kept} {n} {from} {ps} l c. run_left c l ∙ ap (rows_from n) (sym (from_plain_lem (held_of d kept) [] (left_of from ps) (held_free d kept)));
      ends = λ d kept n ps. runs ps d kept n;
    }

pub row_room : RowRoom
row_room =
    record {
      most = λ n a l k.
          omega (arith, row-length n a, kind_length a.kind, length_digits 19 n (omega arith), length_digits 2 a.number (omega arith));
    }

pub batch_claims : BatchClaims
batch_claims =
    record {
      one_call = batch_gives;
      every_line = run_whole;
      going_on = λ {text} {from} r t limit slice place count all h e. let w = whole_call text from limit slice place count all h e in (w.0 ∙ sym (run_whole r t), w.1);
      ends = run_ends;
    }
