-- `peers::judging::peer_judge_all` meets its contract: those counted and those of the lines left are all. Assumes nothing.
use native.Mathlib.Omega.{arith}
use Rattle.text.proofs.Scanning.{find_from_le}
use Rattle.accounts.specs.Lines.{judge_answer}
use Rattle.peers.proofs.Accepted.{at_most_one, accepted_ok, accepted_step, accepted_end}
use Rattle.peers.proofs.judging.peer_judge_all.Goals as goal

pub slice_bounds-judge-end : goal.slice_bounds-judge-end
slice_bounds-judge-end c =
    let s = c.args.text.now in
    omega (arith, c.next_at-end.ensures, find_from_le 10 s c.loop-place.place (omega (arith, c.loop-place-test.true)))

pub loop-place-preserved : goal.loop-place-preserved
loop-place-preserved c =
    let s = c.args.text.now in
    let n = (judge_answer c.judge.result).number in
    let q = accepted_step s c.loop-place.place c.next_at-end.result n c.loop-place-test.true c.next_at-end.ensures (λ i. (c.judge.ensures i).number) in
    let e = accepted_ok c.judge.result c.is_ok.result c.is_ok.ensures.value in (
      omega (arith, at_most_one n, c.loop-place.invariant.0, c.next_at-end.ensures),
      omega (arith, c.loop-place.invariant.1, c.from-count.ensures),
    )

pub returns : goal.returns
returns c = omega (arith, c.loop-place.invariant.1, accepted_end c.args.text.now c.loop-place.place c.loop-place-test.false)
