-- `phc::record::give_all` meets its contract. Assumes nothing.
use Rattle.std.proofs.Common.{refl, ◌++◌, ◌∙◌, arith, Ok}
use Rattle.refusals.specs.Numbers.{number_of}
use Rattle.refusals.proofs.Numbers.{number_pos}
use Rattle.text.proofs.Writing.{parts-refused, parts_done}
use Rattle.profile.specs.Entries.{read_answer, refused_reading}
use Rattle.fast_path.specs.Contents.{accepted_contents, refused_contents}
use Rattle.phc.specs.Records.{record_bytes, count_bytes}
use Rattle.phc.proofs.record.give_all.Goals as goal

pub returns-in-Ok : goal.returns-in-Ok
returns-in-Ok c =
    let x = c.in-Ok.c in
    rw c.in-Ok.is (parts_done 0 c.args.«record».now 0 (record_bytes (read_answer (Ok x.reading)) ++ count_bytes (accepted_contents x)) refl (omega (arith, c.requires)) _ c.put_record_all.ensures)

pub returns-in-Err : goal.returns-in-Err
returns-in-Err c =
    let n = number_of c.in-Err.refusal in
    let p = parts-refused n c.args.«record».now 0 (record_bytes (refused_reading n) ++ count_bytes (refused_contents n)) (λ z. omega (arith, number_pos c.in-Err.refusal)) in
    rw c.in-Err.is (c.refused.ensures ∙ p.0, p.1)
