-- `b64::letters::LetterTable::new` meets its contract.
use Rattle.b64.proofs.TableRules.{letters_rule}
use Rattle.b64.proofs.letters.LetterTable.new.Goals as goal

pub invariant_of-result : goal.invariant_of-result
invariant_of-result c = record { holds_letters = letters_rule }
