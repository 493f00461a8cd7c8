-- The computed tests that a table of limits has to pass for the claims to hold of it: what the proofs over any edition ask, and document 01's table
-- passes. No claim of `Promises` and no contract cites them.
-- Assumes nothing.
use Rattle.std.specs.Prelude.{ℕ, Bool, true, not, ◌&&◌, ◌||◌, List, leb, eqb}
use Rattle.text.specs.Text.{within, all, every}
use Rattle.b64.specs.Lengths.{chars_of}
use Rattle.grammar.specs.Limits.{longest_value, longest_output, largest_version}
use Rattle.grammar.specs.Rules.{is_name}
use Rattle.table.specs.Limits.{Profile, in_range, memory_too_little, version_allowed, id_of, largest32}
use Rattle.table.specs.declared.limits.NumberRule.{NumberRule}
use Rattle.table.specs.declared.limits.NumberRule.TheVariants.{Required, Defaulted, Constant}
use Rattle.table.specs.declared.limits.BytesRule.{BytesRule}
use Rattle.table.specs.declared.limits.BytesRule.TheVariants.{Sized, Forbidden}

-- numbers of 32 bits; what is left out is permitted
abbrev pub sound_number : NumberRule → Bool
sound_number (Required low high) = leb high largest32
sound_number (Defaulted low high default) = leb high largest32 && within low high default
sound_number (Constant value) = true

-- byte strings whose text has at most so many characters
abbrev pub text_within : ℕ → BytesRule → Bool
text_within most (Sized low high) = leb (chars_of high.0) most
text_within most Forbidden = true

-- byte strings whose text the grammar takes as a value or a salt; and as an output
abbrev pub sound_bytes : BytesRule → Bool
sound_bytes r = text_within longest_value r

abbrev pub sound_output : BytesRule → Bool
sound_output r = text_within longest_output.0 r

-- version numbers that the grammar takes
abbrev pub sound_versions : List ℕ → Bool
sound_versions vs = all (within 0 largest_version) vs

-- the column at k has an id of its own, and limits within what the grammar takes
abbrev pub sound_at : List Profile → ℕ → Profile → Bool
sound_at e k r =
    not r.known || (eqb (id_of e r.name) k
    && (is_name r.name
    && (sound_versions r.versions
    && (sound_number r.m
    && (sound_number r.t && (sound_number r.p && (sound_bytes r.keyid && (sound_bytes r.«data» && (sound_bytes r.salt && sound_output r.output)))))))))

unfoldable pub sound : List Profile → Bool
sound e = every (sound_at e) 1 e

-- the short writer's numbers are permitted
abbrev pub defaults_at : ℕ → Profile → Bool
defaults_at k r =
    let u = r.defaults in
    not r.known || (version_allowed r.versions u.version
    && (in_range r.m u.m && (in_range r.t u.t && (in_range r.p u.p && not (memory_too_little u.m u.p)))))

unfoldable pub defaults_sound : List Profile → Bool
defaults_sound e = every defaults_at 1 e
