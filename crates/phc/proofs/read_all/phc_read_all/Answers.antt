-- `phc::read_all::phc_read_all` meets its contract. Assumes nothing.
use mathlib.Core.Bool.{cond}
use mathlib.Core.Path.{ap, ◌∙◌}
use lib.Dec.{eqb}
use Rattle.profile.specs.Entries.{Reading}
use Rattle.std.proofs.Common.{ℕ}
use Rattle.fast_path.specs.Contents.{contents_answer}
use Rattle.phc.proofs.RecordAllLaws.{read-number, record_all_short, record_all_given}
use Rattle.phc.proofs.read_all.phc_read_all.Goals as goal

pub returns-then-record-lt-RECORD_ALL_LEN : goal.returns-then-record-lt-RECORD_ALL_LEN
returns-then-record-lt-RECORD_ALL_LEN c =
    let a = c.args in
    record_all_short a.s.now a.«record».now a.buf.now c.if-record-lt-RECORD_ALL_LEN.true _
    (c.refused_or_full.ensures ∙ ap (λ (n : ℕ). cond (eqb n 0) 17 n) (read-number c.read.result) ∙ ap (λ (x : Reading). cond (eqb x.number 0) 17 x.number) c.read.ensures)

pub returns : goal.returns
returns c =
    let a = c.args in
    record_all_given a.s.now a.«record».now a.buf.now c.if-record-lt-RECORD_ALL_LEN.false (contents_answer c.read_all.result) c.read_all.ensures.0 _ c.read_all.ensures.1
    _ c.give_all.ensures.0 _ c.give_all.ensures.1
