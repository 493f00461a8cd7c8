-- `fast_path::begin::begins` meets its contract. Assumes nothing.
use Rattle.std.proofs.Common.{◌≡◌, ◌<◌, ◌+◌, length, get_or, ◌∙◌, arith}
use Rattle.std.proofs.lemmas.Grind.{common_steps}
use Rattle.text.proofs.Starts.{separator_same}
use Rattle.fast_path.proofs.Begins.{slice_starts}
use Rattle.fast_path.proofs.begin.begins.Goals as goal

pub returns-then-eq : goal.returns-then-eq
returns-then-eq c =
    let a = c.args in
    let h : a.at < length a.s.now = grind (arith, common_steps) in
    let e : get_or a.s.now a.at 0 ≡ a.separator = grind (arith, common_steps) in
    separator_same a.separator a.name.now a.s.now a.at h e _ (c.starts_with.ensures.value ∙ slice_starts a.s.now a.name.now (a.at + 1))
