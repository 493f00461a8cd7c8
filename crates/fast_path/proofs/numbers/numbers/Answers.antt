-- `fast_path::numbers::numbers` meets its contract. Assumes nothing.
use Rattle.fast_path.specs.Walk.{numbers_in}
use Rattle.fast_path.proofs.numbers.numbers.Goals as goal

pub returns-in_err-m : goal.returns-in_err-m
unfolding numbers_in
returns-in_err-m c = rw (c.from_residual.ensures, c.in_err-m.ensures)

pub returns-in_err-t : goal.returns-in_err-t
unfolding numbers_in
returns-in_err-t c = rw (c.from_residual-in_err-t.ensures, c.in_ok-m.ensures.0, c.in_err-t.ensures)

pub returns-in_err-p : goal.returns-in_err-p
unfolding numbers_in
returns-in_err-p c = rw (c.from_residual-in_err-p.ensures, c.in_ok-m.ensures.0, c.in_ok-t.ensures.0, c.in_err-p.ensures)

pub returns-then-memory_too_little : goal.returns-then-memory_too_little
unfolding numbers_in
returns-then-memory_too_little c = rw (c.in_ok-m.ensures.0, c.in_ok-t.ensures.0, c.in_ok-p.ensures.0, ← c.memory_too_little.ensures, c.if-memory_too_little.true)

pub returns : goal.returns
unfolding numbers_in
returns c = (rw (c.in_ok-m.ensures.0, c.in_ok-t.ensures.0, c.in_ok-p.ensures.0, ← c.memory_too_little.ensures, c.if-memory_too_little.false), c.in_ok-p.ensures.1)
