-- `phc::reading::phc_read` meets its contract. Assumes nothing.
use Rattle.std.proofs.Common.{refl, ◌∙◌, arith, Ok, Err}
use Rattle.refusals.proofs.Numbers.{number_pos}
use Rattle.profile.specs.Entries.{read_answer}
use Rattle.phc.proofs.RecordLaws.{record_refused, record_full, record_done}
use Rattle.phc.proofs.reading.phc_read.Goals as goal

pub returns-in-Err : goal.returns-in-Err
returns-in-Err c =
    let a = c.args in
    let p = record_refused a.s.now a.«record».now (read_answer (Err c.in-Err.refusal)) c.in-Err.ensures (λ z. omega (arith, number_pos c.in-Err.refusal)) in
    (c.refused-in-Err.ensures ∙ p.0, p.1)

pub returns-then-record-lt-RECORD_LEN : goal.returns-then-record-lt-RECORD_LEN
returns-then-record-lt-RECORD_LEN c =
    let a = c.args in
    let p = record_full a.s.now a.«record».now (read_answer (Ok c.in-Ok.r)) c.in-Ok.ensures refl c.if-record-lt-RECORD_LEN.true in
    (c.refused.ensures ∙ p.0, p.1)

pub returns-else-record-lt-RECORD_LEN : goal.returns-else-record-lt-RECORD_LEN
returns-else-record-lt-RECORD_LEN c =
    let a = c.args in
    record_done a.s.now a.«record».now (read_answer (Ok c.in-Ok.r)) c.in-Ok.ensures refl c.if-record-lt-RECORD_LEN.false _ c.put_record.ensures
