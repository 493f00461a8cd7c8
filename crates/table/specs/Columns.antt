-- The code's own table (src/columns.rt, src/names.rt): a column as the profile that it stands for. Nothing here is a rule: that the columns are
-- those of document 01's table is the contract of `columns::column_of`.
-- Assumes nothing.
use Rattle.std.specs.Prelude.{ℕ, ◌+◌, ◌-◌, ◌*◌, cond, List, [], ◌∷◌, ◌++◌, map, ltb, length, get_or, replicate}
use Rattle.text.specs.Text.{concat}
use Rattle.grammar.specs.Layout.{span}
use Rattle.grammar.specs.Parts.{part_at}
use Rattle.table.specs.Limits.{Profile, no_profile, profile_of, edition_two}
use Rattle.table.specs.declared.limits.Versions.{Versions}
use Rattle.table.specs.declared.limits.Versions.TheVariants.{Never, Either}
use Rattle.table.specs.declared.limits.Column.{Column}

-- ---- names

-- nine bytes: a name's length, its bytes, and zeros after a short one
abbrev padded_name : List ℕ → List ℕ
padded_name name = length name ∷ (name ++ replicate (8 - length name) 0)

-- the bytes of the constant NAMES: the names in the order of their ids' numbers, an empty one before them
abbrev pub name_table : List ℕ
name_table = concat (map (λ (r : Profile). padded_name r.name) (no_profile ∷ edition_two))

-- the name at an index of such a table. Free answer: empty past the last; of another table what stands there, empty where it doesn't lie inside
unfoldable pub name_in : List ℕ → ℕ → List ℕ
name_in table k = cond (ltb k 6) (part_at table (span (k * 9 + 1) (get_or table (k * 9) 0))) []

abbrev pub name_at : ℕ → List ℕ
name_at k = name_in name_table k

-- ---- columns

abbrev pub listed : Versions → List ℕ
listed Never = []
listed (Either a b) = a ∷ b ∷ []

abbrev pub profile_in : Column → Profile
profile_in c =
    record {
      known = c.known;
      name = name_at c.name;
      versions = listed c.versions;
      implied = c.implied;
      m = c.m;
      t = c.t;
      p = c.p;
      keyid = c.keyid;
      «data» = c.«data»;
      salt = c.salt;
      output = c.output;
      defaults = c.defaults;
    }

-- the index of an id's name. Free answer: 0, where the empty one stands, for a number that is no id's
abbrev pub name_index : ℕ → ℕ
name_index k = cond (profile_of edition_two k).known k 0
