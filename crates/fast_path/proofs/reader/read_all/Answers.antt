-- `fast_path::reader::read_all` meets its contract. Assumes nothing.
use Rattle.fast_path.proofs.Answers.{all-refused, refused_too, all_found}
use Rattle.std.proofs.Common.{refl, Err}
use Rattle.profile.specs.Entries.{read_answer}
use Rattle.fast_path.proofs.reader.read_all.Goals as goal

pub returns-in-Some : goal.returns-in-Some
returns-in-Some c = all_found c.args.s.now _ _ _ c.in-Some.ensures c.args.buf.now c.args.at _ _ c.store.ensures

pub unwrap_err-requires : goal.unwrap_err-requires
unwrap_err-requires c = refused_too c.args.s.now c.in-None.ensures c.read.result c.read.ensures

pub returns-in-None : goal.returns-in-None
returns-in-None c =
    all-refused c.args.s.now c.args.buf.now c.args.at c.in-None.ensures _ (read_answer (Err c.unwrap_err.result)) (rw c.unwrap_err.ensures at c.read.ensures) refl
