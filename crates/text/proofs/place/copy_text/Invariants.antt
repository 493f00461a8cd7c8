-- `text::place::copy_text` meets its contract: up to i the buffer holds the text. Assumes nothing.
use Rattle.std.proofs.Common.{◌≡◌, length, take}
use Rattle.text.specs.Place.{over}
use Rattle.text.proofs.place.copy_text.Given as goal

abbrev pub invariant-loop-i : goal.invariant-loop-i
invariant-loop-i l = (length l.out ≡ length l.initial.out) × (l.out ≡ over l.initial.out 0 (take l.i l.text))
