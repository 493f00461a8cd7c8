-- `phc::record::put_record` meets its contract. Assumes nothing.
use Rattle.std.proofs.Common.{refl, ◌∙◌}
use Rattle.std.proofs.Common.{Ok}
use Rattle.profile.specs.Entries.{read_answer}
use Rattle.phc.specs.Records.{version_number, words, head_bytes}
use Rattle.phc.proofs.RecordLaws.{copied_at, copied_after}
use Rattle.phc.proofs.record.put_record.Goals as goal

pub returns : goal.returns
returns c =
    let r = read_answer (Ok c.args.r) in
    let out = c.args.out.now in
    copied_after out _ (head_bytes r) (words (version_number r.fields.version) r.fields.m r.fields.t r.fields.p) _ _ _
    (copied_at out _ (head_bytes r) 0 _ (c.copy_from_slice.ensures.after ∙ c.head_bytes.ensures) refl) refl (c.copy_from_slice-2.ensures.after ∙ c.number_bytes.ensures) refl
