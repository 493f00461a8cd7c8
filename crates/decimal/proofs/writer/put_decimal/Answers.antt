-- `decimal::writer::put_decimal` meets its contract, by the sign: the digits go into the part after the minus sign. Assumes nothing.
use Prim.Native.Nat.{◌+◌, ◌≤◌}
use mathlib.Core.Path.{◌≡◌, sym, ap, ◌∙◌}
use mathlib.Core.List.{◌∷◌, ◌++◌}
use native.Mathlib.Omega.{arith}
use lib.ListN.{length, drop, set, length-set, length-drop}
use Rattle.text.proofs.Writing.{tail_part, tail_over}
use Rattle.decimal.specs.Decimal.{digits, decimal_text}
use Rattle.decimal.proofs.SignSteps.{text_below, text_other, put-minus}
use Rattle.decimal.proofs.writer.put_decimal.Goals as goal

pub bounds-buf-0 : goal.bounds-buf-0
bounds-buf-0 c =
    let text : decimal_text c.args.value ≡ 45 ∷ digits c.magnitude-size.result = text_below c.args.value c.ranges.value.sfits _ c.magnitude-size.ensures c.if-value-lt0.true in
    let room : 1 + length (digits c.magnitude-size.result) ≤ length c.args.buf.now = let h = c.requires in
    omega (arith, ap length text) in
    omega (arith, room)

pub slice_bounds-put_digits-count : goal.slice_bounds-put_digits-count
slice_bounds-put_digits-count c =
    let text : decimal_text c.args.value ≡ 45 ∷ digits c.magnitude-size.result = text_below c.args.value c.ranges.value.sfits _ c.magnitude-size.ensures c.if-value-lt0.true in
    let room : 1 + length (digits c.magnitude-size.result) ≤ length c.args.buf.now = let h = c.requires in
    omega (arith, ap length text) in
    simp length-set (omega (arith, room))

pub slice_bounds-put_digits-start : goal.slice_bounds-put_digits-start
slice_bounds-put_digits-start c =
    let text : decimal_text c.args.value ≡ 45 ∷ digits c.magnitude-size.result = text_below c.args.value c.ranges.value.sfits _ c.magnitude-size.ensures c.if-value-lt0.true in
    let room : 1 + length (digits c.magnitude-size.result) ≤ length c.args.buf.now = let h = c.requires in
    omega (arith, ap length text) in
    simp length-set (omega (arith, room))

pub put_digits-requires : goal.put_digits-requires
put_digits-requires c =
    let text : decimal_text c.args.value ≡ 45 ∷ digits c.magnitude-size.result = text_below c.args.value c.ranges.value.sfits _ c.magnitude-size.ensures c.if-value-lt0.true in
    let room : 1 + length (digits c.magnitude-size.result) ≤ length c.args.buf.now = let h = c.requires in
    omega (arith, ap length text) in
    rw tail_part (simp (length-drop, length-set) (omega (arith, room)))

pub put_digits-requires-else-value-lt0 : goal.put_digits-requires-else-value-lt0
put_digits-requires-else-value-lt0 c =
    let plain-text : decimal_text c.args.value ≡ digits c.magnitude-size.result = text_other c.args.value c.ranges.value.sfits _ c.magnitude-size.ensures c.if-value-lt0.false in
    rw plain-text at c.requires

pub returns-then-value-lt0 : goal.returns-then-value-lt0
returns-then-value-lt0 c =
    let text : decimal_text c.args.value ≡ 45 ∷ digits c.magnitude-size.result = text_below c.args.value c.ranges.value.sfits _ c.magnitude-size.ensures c.if-value-lt0.true in
    let room : 1 + length (digits c.magnitude-size.result) ≤ length c.args.buf.now = let h = c.requires in
    omega (arith, ap length text) in
    let buf = c.args.buf.now in
    let ds = digits c.magnitude-size.result in
    let w = c.put_digits.ensures in (
      rw text (omega (arith, w.0)),
      tail_over (set buf 0 45) ds _ 1 (rw (length-set buf 0 45) room) w.1
          ∙ put-minus buf ds (omega (arith, room))
          ∙ ap (λ l. l ++ drop (length l) buf) (sym text),
    )

pub returns-else-value-lt0 : goal.returns-else-value-lt0
returns-else-value-lt0 c =
    let plain-text : decimal_text c.args.value ≡ digits c.magnitude-size.result = text_other c.args.value c.ranges.value.sfits _ c.magnitude-size.ensures c.if-value-lt0.false in
    rw plain-text c.put_digits-else-value-lt0.ensures
