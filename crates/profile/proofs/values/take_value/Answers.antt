-- `profile::values::take_value` meets its contract. Assumes nothing.
use Rattle.profile.proofs.ValueLaws.{step_past, step_to, step_not}
use Rattle.profile.proofs.values.take_value.Goals as goal

pub returns-then-params-at : goal.returns-then-params-at
returns-then-params-at c = search step_past

pub returns-then-same_text : goal.returns-then-same_text
returns-then-same_text c = search (step_to, c.if-same_text.ensures)

pub returns-else-same_text : goal.returns-else-same_text
returns-else-same_text c = search (step_not, c.if-same_text.ensures)
