-- Braced texts and fields on either side of a rule, with the numbers that reader and writer give. The statements are in specs/Claims.antt.
-- Assumes nothing.
use Rattle.std.specs.Prelude.{ℕ, List, [], ◌∷◌}
use Prim.Native.String.{String}
use Rattle.table.specs.declared.version.Version.{Version}
use Rattle.table.specs.declared.version.Version.TheVariants.{Absent, Number}
use Rattle.profile.specs.Fields.{FieldSet, field_set}

abbrev pub braced_texts : List (String × ℕ)
braced_texts =
    ("", 24)
    ∷ ("{pbkdf2s2", 24)
    ∷ ("{pbkdf2s2}", 24)
    ∷ ("{pbkdf2s3}", 24)
    ∷ ("$pbkdf2s2$t=100", 24)
    ∷ ("{pbkdf2s2$t=100", 24)
    ∷ ("$pbkdf2s2}t=100", 24)
    ∷ ("{pbkdf2s4}t=100", 24)
    ∷ ("{argon2id}m=8,t=1,p=1", 24)
    ∷ ("{pbkdf2s2}t=100", 0)
    ∷ ("{pbkdf2s2}t=20000", 13)
    ∷ ("{pbkdf2s2}$x", 5)
    ∷ ("{pbkdf2s2}v=19", 9)
    ∷ ("{pbkdf2s3}AAAAAA$AAAAAAAAAAAAAAAA", 0)
    ∷ []

-- p is 0, and there is no byte string but the output
abbrev pub pbkdf2_fields : ℕ → Version → ℕ → ℕ → List ℕ → FieldSet
pbkdf2_fields id version m t output = field_set (record { id = id; version = version; m = m; t = t; p = 0 }) [] [] [] output

abbrev pub field_examples : List (FieldSet × ℕ)
field_examples =
    (pbkdf2_fields 4 Absent 0 20000 [], 24)
    ∷ (pbkdf2_fields 4 Absent 1 20000 [], 11)
    ∷ (pbkdf2_fields 4 (Number 19) 0 20000 [], 9)
    ∷ (pbkdf2_fields 4 Absent 0 20000 (1 ∷ 2 ∷ 3 ∷ 4 ∷ 5 ∷ 6 ∷ 7 ∷ 8 ∷ 9 ∷ 10 ∷ 11 ∷ 12 ∷ []), 16)
    ∷ (pbkdf2_fields 4 Absent 0 100 [], 0)
    ∷ (pbkdf2_fields 5 Absent 0 20001 [], 0)
    ∷ (pbkdf2_fields 0 Absent 0 100 [], 24)
    ∷ (pbkdf2_fields 3 Absent 0 100 [], 24)
    ∷ (pbkdf2_fields 6 Absent 0 100 [], 24)
    ∷ []
