-- `fast_path::leading_number::number` meets its contract. Assumes nothing.
use Rattle.std.proofs.Common.{◌≡◌, ℕ, ◌+◌, ◌-◌, ◌*◌, List, length, get_or, take, drop, add-zero, arith, length-drop, get_or-drop}
use Rattle.fast_path.proofs.LeadingNumbers.{other_byte, counting_start, counting_digit, counting_stop, counting_end, counting_large, numeral-past}
use Rattle.fast_path.proofs.Begins.{slice_from}
use Rattle.fast_path.proofs.leading_number.number.Goals as goal

pub returns-then-s-at : goal.returns-then-s-at
returns-then-s-at c = numeral-past c.args.s.now c.args.at c.if-s-at.true

-- the bytes from the place on, by their own count
module _ (s : List ℕ) (at : ℕ) where
  item_count : length (take (length s - at) (drop at s)) ≡ length s - at
  item_count = rw (slice_from s at) (length-drop at s)

  item : (i : ℕ) → get_or (take (length s - at) (drop at s)) i 0 ≡ get_or s (at + i) 0
  item i = rw (slice_from s at) (get_or-drop at s i 0)

pub loop-i-init : goal.loop-i-init
loop-i-init c = rw add-zero (counting_start c.args.s.now c.args.at (omega arith))

pub finished-requires : goal.finished-requires
finished-requires c =
    let a = c.args in
    let e = item a.s.now a.at c.loop-i.i in
    (c.if-s-at.false, counting_stop _ _ _ _ c.loop-i.invariant (other_byte _ (omega (arith, c.type_inv.s (a.at + c.loop-i.i))) (rw e at c.if-d-gt9.true)))

pub returns-in_err-checked_mul : goal.returns-in_err-checked_mul
returns-in_err-checked_mul c =
    let a = c.args in
    let e = item a.s.now a.at c.loop-i.i in
    rw c.from_residual.ensures
    (counting_large _ _ _ _ c.loop-i.invariant (omega (arith, item_count a.s.now a.at)) (omega (arith, c.type_inv.s (a.at + c.loop-i.i))) (rw e at c.if-d-gt9.false)
    (omega (arith, c.in_err-checked_mul.ensures)))

pub returns-in_err-n : goal.returns-in_err-n
returns-in_err-n c =
    let a = c.args in
    let e = item a.s.now a.at c.loop-i.i in
    let d = rw e at c.from.ensures in
    rw c.from_residual-in_err-n.ensures
    (counting_large _ _ _ _ c.loop-i.invariant (omega (arith, item_count a.s.now a.at)) (omega (arith, c.type_inv.s (a.at + c.loop-i.i))) (rw e at c.if-d-gt9.false)
    (omega (arith, c.in_err-n.ensures, c.in_ok-checked_mul.ensures)))

pub loop-i-preserved : goal.loop-i-preserved
loop-i-preserved c =
    let a = c.args in
    let e = item a.s.now a.at c.loop-i.i in
    let z : a.at + (c.loop-i.i + 1) ≡ a.at + c.loop-i.i + 1 = omega arith in
    let n : c.in_ok-n.n ≡ c.loop-i.n * 10 + c.from.result = omega (arith, c.in_ok-n.ensures, c.in_ok-checked_mul.ensures) in
    rw (z, n)
    (counting_digit _ _ _ _ c.loop-i.invariant (omega (arith, item_count a.s.now a.at)) (omega (arith, c.type_inv.s (a.at + c.loop-i.i))) _ (rw e at c.from.ensures)
    (rw e at c.if-d-gt9.false))

pub finished-requires-2 : goal.finished-requires-2
finished-requires-2 c = (c.if-s-at.false, counting_end _ _ _ _ c.loop-i.invariant (omega (arith, item_count c.args.s.now c.args.at)))
