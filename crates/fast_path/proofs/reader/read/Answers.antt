-- `fast_path::reader::read` meets its contract. Assumes nothing.
use Rattle.fast_path.proofs.Answers.{found_reading}
use Rattle.fast_path.proofs.reader.read.Goals as goal

pub returns-in-Some : goal.returns-in-Some
returns-in-Some c = found_reading _ _ _ _ c.in-Some.ensures
