-- 'A reader and a writer for five profiles: `argon2d`, `argon2i`, `argon2id`, `pbkdf2s2`, `pbkdf2s3`': the table of what each allows, a column
-- for each id, in the order of the ids' numbers. Such a table is an edition of the rules; document 01's is edition two, since document 001, the
-- older text, is to be edition one.
-- Assumes nothing.
use Rattle.std.specs.Prelude.{ℕ, zero, suc, ◌*◌, Bool, true, false, cond, ◌&&◌, List, [], ◌∷◌, ltb, eqb, get_or}
use Rattle.std.proofs.Math.Option.{none, some}
use Rattle.text.specs.Text.{text, within, same, has}
use Rattle.grammar.specs.Pieces.{OptionalText}
use Rattle.table.specs.declared.limits.NumberRule.{NumberRule}
use Rattle.table.specs.declared.limits.NumberRule.TheVariants.{Required, Defaulted, Constant}
use Rattle.table.specs.declared.limits.BytesRule.{BytesRule}
use Rattle.table.specs.declared.limits.BytesRule.TheVariants.{Sized, Forbidden}
use Rattle.table.specs.declared.limits.ShortDefaults.{ShortDefaults}
use Rattle.table.specs.declared.version.Version.{Version}
use Rattle.table.specs.declared.version.Version.TheVariants.{Absent, Number}

-- 01's profile: what its table's column says, for one id. A column says whether its id is known, so that ids keep their numbers in every edition; in document 01's
-- table every id is. `versions` are those that may be written; in every profile a version may also be absent. `implied` is the algorithm
-- version that a string without a version means
pub record Profile : Type 0 where
  pub known : Bool
  pub name : List ℕ
  pub versions : List ℕ
  pub implied : ℕ
  pub m : NumberRule
  pub t : NumberRule
  pub p : NumberRule
  pub keyid : BytesRule
  pub «data» : BytesRule
  pub salt : BytesRule
  pub output : BytesRule
  pub defaults : ShortDefaults

-- ---- what a column says of a number

-- the ends of its range. Free answer: both are the number itself where it is constant
abbrev pub lowest : NumberRule → ℕ
lowest (Required low high) = low
lowest (Defaulted low high default) = low
lowest (Constant value) = value

abbrev pub highest : NumberRule → ℕ
highest (Required low high) = high
highest (Defaulted low high default) = high
highest (Constant value) = value

-- in the range of its own rule. Free answer: an m of 1 to 7 is in it, though no p of 1 or more permits one; m < 8p is a condition of its own in
-- row 11
abbrev pub in_range : NumberRule → ℕ → Bool
in_range r n = within (lowest r) (highest r) n

-- must stand in the string
abbrev pub is_required : NumberRule → Bool
is_required (Required low high) = true
is_required (Defaulted low high default) = false
is_required (Constant value) = false

-- is no parameter of the id
abbrev pub is_constant : NumberRule → Bool
is_constant (Required low high) = false
is_constant (Defaulted low high default) = false
is_constant (Constant value) = true

-- row 10 of one number, by its value's text where there is one: its name is missing, or unknown to the profile
abbrev pub missing_or_unknown_number : NumberRule → OptionalText → Bool
missing_or_unknown_number r none = is_required r
missing_or_unknown_number r (some t) = is_constant r

-- what stands for one that is left out. Free answer: 0 for one that is required
abbrev pub default_of : NumberRule → ℕ
default_of (Required low high) = 0
default_of (Defaulted low high n) = n
default_of (Constant n) = n

-- left out of the string: its default, or no parameter. Free answer: of one that is no parameter any number is left out, though only its own
-- is in range
abbrev pub is_omitted : NumberRule → ℕ → Bool
is_omitted (Required low high) n = false
is_omitted (Defaulted low high default) n = eqb n default
is_omitted (Constant value) n = true

-- m < 8p, in row 11. Argon2 calls p its lanes and m its kilobytes of memory: fewer than eight for each lane
abbrev pub memory_too_little : ℕ → ℕ → Bool
memory_too_little m p = ltb m (8 * p)

-- ---- of a byte string's size, and of a version

-- asked of a byte string that is there. Free answer: one that is forbidden has no permitted size, not even 0
abbrev pub is_size : BytesRule → ℕ → Bool
is_size (Sized low high) n = within low.0 high.0 n
is_size Forbidden n = false

-- absent, or one of those listed. Free answer: in the column of no profile absent is allowed; row 8 comes before
abbrev pub version_allowed : List ℕ → Version → Bool
version_allowed vs Absent = true
version_allowed vs (Number n) = has n vs

-- ---- ids and their numbers

-- one more, but 0 stays 0
abbrev pub next : ℕ → ℕ
next zero = zero
next (suc n) = suc (suc n)

-- the id is known, and has the name
abbrev pub is_named : List ℕ → Profile → Bool
is_named s r = r.known && same s r.name

-- the number of 01's id, counted from 1. Free answer: 0 for a text that is none of the table's
abbrev pub id_of : List Profile → List ℕ → ℕ
id_of [] s = 0
id_of (r ∷ rs) s = cond (is_named s r) 1 (next (id_of rs s))

-- the column of a number that is no id's: not known, and `implied` is 0, 01's answer for a refused string, whose id is 0. Free answer: all else,
-- since row 8 comes first
abbrev pub no_profile : Profile
no_profile =
    record {
      known = false;
      name = [];
      versions = [];
      implied = 0;
      m = Constant 0;
      t = Constant 0;
      p = Constant 0;
      keyid = Forbidden;
      «data» = Forbidden;
      salt = Forbidden;
      output = Forbidden;
      defaults = record { version = Absent; m = 0; t = 0; p = 0 };
    }

abbrev pub profile_of : List Profile → ℕ → Profile
profile_of rs k = get_or (no_profile ∷ rs) k no_profile

-- ---- the table

-- a size, in bytes
abbrev pub sized : ℕ → ℕ → BytesRule
sized low high = Sized (record { 0 = low }) (record { 0 = high })

abbrev pub largest32 : ℕ
largest32 = 4294967295

-- the version that an Argon2 string without one means
abbrev pub argon2_implied : ℕ
argon2_implied = 19

-- the short writer's numbers
abbrev pub argon2_defaults : ShortDefaults
argon2_defaults = record { version = Number 19; m = 65536; t = 2; p = 1 }

-- what an omitted t means for pbkdf2, and the short writer's t
abbrev pub default_t : ℕ
default_t = 20000

abbrev pub pbkdf2_defaults : ShortDefaults
pbkdf2_defaults = record { version = Absent; m = 0; t = default_t; p = 0 }

-- 01's column 'Argon2 (three ids)', for an id's name. 'm: 8p to 2^32−1': m by itself begins at 1, as in document 002, and that it is at least 8p
-- is tested after the three numbers
abbrev pub argon2 : List ℕ → Profile
argon2 name =
    record {
      known = true;
      name = name;
      versions = 16 ∷ 19 ∷ [];
      implied = argon2_implied;
      m = Required 1 largest32;
      t = Required 1 largest32;
      p = Required 1 255;
      keyid = sized 0 8;
      «data» = sized 0 32;
      salt = sized 8 48;
      output = sized 12 64;
      defaults = argon2_defaults;
    }

-- 01's column 'pbkdf2s2, pbkdf2s3', for an id's name
abbrev pub pbkdf2 : List ℕ → Profile
pbkdf2 name =
    record {
      known = true;
      name = name;
      versions = [];
      implied = 0;
      m = Constant 0;
      t = Defaulted 100 largest32 default_t;
      p = Constant 0;
      keyid = sized 0 8;
      «data» = Forbidden;
      salt = sized 4 32;
      output = sized 12 64;
      defaults = pbkdf2_defaults;
    }

-- edition two: document 01's table
unfoldable pub edition_two : List Profile
edition_two =
    argon2 (text "argon2d")
    ∷ argon2 (text "argon2i")
    ∷ argon2 (text "argon2id")
    ∷ pbkdf2 (text "pbkdf2s2")
    ∷ pbkdf2 (text "pbkdf2s3")
    ∷ []

-- 'Longest Argon2 string 265 bytes': no permitted string of edition two has more (`Lengths`, a claim of the profile's), so a writer with so much
-- room always has enough
abbrev pub longest_permitted : ℕ
longest_permitted = 265
