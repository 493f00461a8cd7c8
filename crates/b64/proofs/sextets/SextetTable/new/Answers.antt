-- `b64::sextets::SextetTable::new` meets its contract.
use Rattle.b64.proofs.TableRules.{sextets_rule}
use Rattle.b64.proofs.sextets.SextetTable.new.Goals as goal

pub invariant_of-result : goal.invariant_of-result
invariant_of-result c = record { holds_sextets = sextets_rule }
