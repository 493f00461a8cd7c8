-- The value of `Promises`.
-- Assumes nothing.
use Rattle.table.specs.Limits.{edition_two}
use Rattle.profile.specs.Claims.{Promises}
use Rattle.profile.proofs.SoundLaws.{edition_two-sound}
use Rattle.profile.proofs.Refusals.{demand_1}
use Rattle.profile.proofs.Shorts.{short_agrees_two, short_fields_lem}
use Rattle.profile.proofs.Versions.{algorithm_versions}
use Rattle.profile.proofs.Strings.{examples}
use Rattle.profile.proofs.Claims.{demand_3, entries_demand_3, entries_agree_two, lanes, lengths}

pub promises : Promises
promises =
    record {
      demand_1 = demand_1 edition_two;
      demand_3 = demand_3 edition_two edition_two-sound;
      entries_demand_3 = entries_demand_3 edition_two edition_two-sound lengths.any_most;
      entries_agree = entries_agree_two;
      short_agrees = short_agrees_two;
      short_fields_lem = short_fields_lem;
      algorithm_versions = algorithm_versions;
      lanes = lanes;
      lengths = lengths;
      examples = examples;
    }
