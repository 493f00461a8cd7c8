-- `phc::record::put_record_all` meets its contract. Assumes nothing.
use Rattle.std.proofs.Common.{refl, ◌∙◌}
use Rattle.std.proofs.Common.{Ok}
use Rattle.profile.specs.Entries.{read_answer}
use Rattle.fast_path.specs.Contents.{accepted_contents}
use Rattle.phc.specs.Records.{record_bytes, count_bytes}
use Rattle.phc.proofs.RecordLaws.{copied_after}
use Rattle.phc.proofs.record.put_record_all.Goals as goal

pub returns : goal.returns
returns c =
    copied_after c.args.out.now _ (record_bytes (read_answer (Ok c.args.c.reading))) (count_bytes (accepted_contents c.args.c)) _ _ _ c.put_record.ensures refl
    (c.copy_from_slice.ensures.after ∙ c.four_words-counts.ensures) refl
