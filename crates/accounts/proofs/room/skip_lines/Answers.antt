-- `accounts::room::skip_lines` meets its contract: past each line the place after the lines left is the one after all. Assumes nothing.
use Rattle.std.proofs.Common.{◌≤◌, ◌-◌, ◌+◌, ◌∙◌, length, arith}
use mathlib.Core.Logic.{◌⊎◌, inl, inr}
use Rattle.text.proofs.Scanning.{find_from_le}
use Rattle.accounts.proofs.BatchLaws.{place-next, place_stopped}
use Rattle.accounts.proofs.room.skip_lines.Goals as goal
use Rattle.accounts.proofs.room.skip_lines.Goals.{else-loop-test, then-loop-test+then-text-place}

pub overflow_add-place : goal.overflow_add-place
overflow_add-place c = omega (arith, c.next_at-place.ensures, c.if-text-place.false, find_from_le 10 c.args.text.now c.loop.place (omega (arith, c.if-text-place.false)))

pub loop-preserved : goal.loop-preserved
loop-preserved c =
    let a = c.args in
    let l = c.loop in
    place-next a.text.now l.place c.next_at-place.result (a.limit - l.counter) (a.limit - (l.counter + 1)) c.if-text-place.false c.next_at-place.ensures (omega (arith, c.loop-test.true))
    ∙ l.invariant

pub returns : goal.returns
returns c =
    let a = c.args in
    let l = c.loop in
    let stopped : (a.limit - l.counter ≤ 0) ⊎ (length a.text.now ≤ l.place) = elim c.loop-test.branch [ else-loop-test w ↦ inl (omega (arith, w.loop-test.false)) | then-loop-test+then-text-place w ↦ inr w.if-text-place.true ] in
    c.min.ensures ∙ place_stopped a.text.now l.place (a.limit - l.counter) stopped ∙ l.invariant
