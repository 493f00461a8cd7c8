-- `fast_path::items::written_bytes` meets its contract. Assumes nothing.
use Rattle.std.proofs.Common.{◌≡◌, ℕ, false, not, List, sym, ◌∙◌}
use Rattle.text.proofs.Tests.{is_true, is_false}
use Rattle.b64.specs.Runs.{RunGives}
use Rattle.b64.specs.declared.decoder.Run.{Run}
use Rattle.b64.proofs.RunLaws.{Ran, ran}
use Rattle.fast_path.proofs.StringLaws.{bytes_no, bytes-empty, bytes_unsized, bytes-sized}
use Rattle.fast_path.proofs.items.written_bytes.Goals as goal
use Rattle.fast_path.proofs.items.written_bytes.Goals.{then-n-eq0-via-then-n-eq0, then-n-eq0-via-else-n-eq0+then-not-is_size}

-- a run that is not incomplete is a canonical text whose bytes fit
run_ran : (s : List ℕ) (at : ℕ) (out₀ : List ℕ) (from : ℕ) (out : List ℕ) (r : Run) → RunGives s at out₀ from out r → not r.complete ≡ false → Ran s at out₀ from out r.next r.end
run_ran s at out₀ from out r g e = ran s at out₀ from out r g (is_true r.complete e)

pub returns-then-not-run : goal.returns-then-not-run
returns-then-not-run c =
    let a = c.args in
    bytes_no a.rule a.s.now a.at a.out.now a.from c.requires.1 (sym c.decode_run-run.ensures.complete_is ∙ is_false c.decode_run-run.result.complete c.if-not-run.true)

pub returns-then-n-eq0 : goal.returns-then-n-eq0
returns-then-n-eq0 c =
    let a = c.args in
    let k = run_ran a.s.now a.at a.out.now a.from _ _ c.decode_run-run.ensures c.if-not-run.false in
    elim c.then-n-eq0.branch [
      | then-n-eq0-via-then-n-eq0 w ↦ bytes-empty a.rule a.s.now a.at a.out.now a.from _ _ _ k w.if-n-eq0.true
      | then-n-eq0-via-else-n-eq0+then-not-is_size w ↦ bytes_unsized a.rule a.s.now a.at a.out.now a.from _ _ _ k (sym w.is_size.ensures ∙ w.if-not-is_size.true)
    ]

pub returns : goal.returns
returns c =
    let a = c.args in
    bytes-sized a.rule a.s.now a.at a.out.now a.from _ _ _ (run_ran a.s.now a.at a.out.now a.from _ _ c.decode_run-run.ensures c.if-not-run.false)
    c.requires.0 c.if-n-eq0.false (sym c.is_size.ensures ∙ c.if-not-is_size.false)
