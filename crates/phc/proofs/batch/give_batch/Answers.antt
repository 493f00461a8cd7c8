-- `phc::batch::give_batch` meets its contract. Assumes nothing.
use Rattle.std.proofs.Common.{refl, sym, ap, ◌∙◌, arith, length, Ok, Err}
use lib.Seq.{length-take-le}
use Rattle.refusals.specs.Numbers.{number_of}
use Rattle.refusals.proofs.Numbers.{number_pos}
use Rattle.text.proofs.Writing.{parts-refused, parts_done}
use Rattle.accounts.specs.Batches.{batch_answer}
use Rattle.phc.specs.Batches.{batch_bytes}
use Rattle.phc.proofs.RecordLaws.{copied_at}
use Rattle.phc.proofs.batch.give_batch.Goals as goal

pub returns-in-Err : goal.returns-in-Err
returns-in-Err c =
    let p = parts-refused (number_of c.in-Err.refusal) c.args.res.now 0 (batch_bytes (batch_answer (Err c.in-Err.refusal))) (λ z. omega (arith, number_pos c.in-Err.refusal)) in
    rw c.in-Err.is (c.refused.ensures ∙ p.0, p.1)

pub copy_from_slice-requires : goal.copy_from_slice-requires
copy_from_slice-requires c = length-take-le 16 c.args.res.now c.requires ∙ sym (ap length c.four_words-bytes.ensures)

pub returns-in-Ok : goal.returns-in-Ok
returns-in-Ok c =
    let r = c.args.res.now in
    let b = c.in-Ok.b in
    rw c.in-Ok.is (parts_done 0 r 0 (batch_bytes (batch_answer (Ok b))) refl (omega (arith, c.requires)) _
    (copied_at r _ (batch_bytes (batch_answer (Ok b))) 0 _ (c.copy_from_slice.ensures.after ∙ c.four_words-bytes.ensures) refl))
