-- `accounts::batch::judge_lines` meets its contract, line by line. Assumes nothing.
use Rattle.std.proofs.Common.{◌≡◌, ◌≤◌, ◌<◌, ◌-◌, ◌+◌, ap, ◌∙◌, length, arith}
use mathlib.Core.Logic.{◌⊎◌, inl, inr}
use Rattle.std.proofs.lemmas.List.{set-get_or}
use Rattle.text.proofs.Scanning.{find_from_le}
use Rattle.accounts.specs.Batches.{batch_outcome}
use Rattle.accounts.proofs.BatchLaws.{judging_done, judging_on}
use Rattle.accounts.proofs.batch.judge_lines.Goals as goal
use Rattle.accounts.proofs.batch.judge_lines.Goals.{else-loop-answer-test, then-loop-answer-test+then-text-place}

pub slice_bounds-judge-end : goal.slice_bounds-judge-end
slice_bounds-judge-end c =
    let inside : c.loop-answer.place < length c.args.text.now = c.if-text-place.false in
    omega (arith, c.next_at-end.ensures, find_from_le 10 c.args.text.now c.loop-answer.place (omega (arith, inside)))

pub loop-answer-preserved : goal.loop-answer-preserved
loop-answer-preserved c =
    let a = c.args in
    let l = c.loop-answer in
    judging_on a.text.now a.from (length a.answers.now) a.answers.now l.answers l.place l.count (length a.answers.now - l.answer-index) l.invariant
    c.next_at-end.result (length a.answers.now - (l.answer-index + 1)) c.if-text-place.false c.next_at-end.ensures (omega (arith, c.loop-answer-test.true))
    (omega arith) c.from.result.number (ap (λ r. r.number) (c.from.ensures ∙ c.judge.ensures)) l.answer-index (omega (arith, l.invariant.falls, c.loop-answer-test.true))

pub returns : goal.returns
returns c =
    let a = c.args in
    let l = c.loop-answer in
    let left = length a.answers.now - l.answer-index in
    let stopped : (left ≤ 0) ⊎ (length a.text.now ≤ l.place) = elim c.loop-answer-test.branch [ else-loop-answer-test w ↦ inl (omega (arith, w.loop-answer-test.false)) | then-loop-answer-test+then-text-place w ↦ inr w.if-text-place.true ] in
    let same : c.loop-answer-test.answers ≡ l.answers = elim c.loop-answer-test.branch [ else-loop-answer-test w ↦ w.answers-is | then-loop-answer-test+then-text-place w ↦ w.answers-is ∙ set-get_or l.answers l.answer-index 0 ] in
    ap (batch_outcome _) same
    ∙ judging_done a.text.now a.from (length a.answers.now) a.answers.now l.answers l.place l.count left l.invariant (omega arith) stopped c.min.result c.min.ensures
