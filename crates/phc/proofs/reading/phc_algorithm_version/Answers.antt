-- `phc::reading::phc_algorithm_version` meets its contract. Assumes nothing.
use Rattle.std.proofs.Common.{◌∙◌, ap, ◌*◌}
use Rattle.table.specs.Limits.{edition_two}
use Rattle.profile.specs.Entries.{kind_number, AlgorithmVersion, algorithm_version_of, algorithm_version}
use Rattle.phc.specs.Records.{code_of}
use Rattle.phc.proofs.CodeLaws.{refused_code}
use Rattle.phc.proofs.reading.phc_algorithm_version.Goals as goal

pub returns-in-Ok : goal.returns-in-Ok
unfolding algorithm_version
returns-in-Ok c =
    let said = c.algorithm_version_of.ensures 0 (kind_number c.in-Ok.r.kind) ∙ ap (algorithm_version_of edition_two) c.in-Ok.ensures in
    c.found.ensures ∙ ap (λ n. 100 * n) c.from.ensures ∙ ap (λ (a : AlgorithmVersion). code_of a.number a.version) said

pub returns-in-Err : goal.returns-in-Err
unfolding algorithm_version
returns-in-Err c =
    refused_code c.in-Err.refusal c.refused.ensures
    ∙ ap (λ (a : AlgorithmVersion). code_of a.number a.version) (ap (algorithm_version_of edition_two) c.in-Err.ensures)
