-- 'The sixteen below are shown of the rules themselves, as one list under a single statement': strings on either side of a rule, with their
-- numbers; and strings that reach the bounds on lengths. The statements are `Examples` in specs/Claims.antt.
-- Assumes nothing.
use Rattle.std.specs.Prelude.{ℕ, List, [], ◌∷◌}
use Prim.Native.String.{String}

abbrev pub boundary_strings : List (String × ℕ)
boundary_strings =
    ("$argon2i$m=120,t=5000,p=2$/LtFjH5rVL8", 0)
    ∷ ("$argon2i$m=120,t=5000,p=2,keyid=Hj5+dsK0ZQA", 0)
    ∷ ("$argon2j$m=120,t=5000,p=2", 8)
    ∷ ("$argon2i$m=15,t=5000,p=2", 11)
    ∷ ("$argon2i$m=16,t=1,p=2", 0)
    ∷ ("$argon2i$m=0120,t=5000,p=2", 11)
    ∷ ("$argon2i$m=120,t=4294967296,p=2", 11)
    ∷ ("$argon2i$m=120,t=5000,p=2,keyid=Hj5+dsK0Z", 12)
    ∷ ("$argon2i$m=120,t=5000,p=2,keyid=Hj5+dsK0ZR", 12)
    ∷ ("$argon2i$t=5000,p=2", 10)
    ∷ ("$argon2id$v=18$m=8,t=1,p=1", 9)
    ∷ ("$argon2i$v=19,m=8,t=1,p=1", 3)
    ∷ ("$pbkdf2s2", 0)
    ∷ ("$pbkdf2s2$t=20000", 13)
    ∷ ("$pbkdf2s2$t=99", 11)
    ∷ ("$pbkdf2s2$", 5)
    ∷ []

-- accepted strings and their lengths: the longest and the shortest hash string of Argon2 and of pbkdf2
abbrev pub extremes : List (String × ℕ)
extremes =
    ("$argon2id$v=19$m=4294967295,t=4294967295,p=255,keyid=AAAAAAAAAAA,data=AAAAAAAAAAAAAAAAAAAAAAAAAAAAAAAAAAAAAAAAAAA$AAAAAAAAAAAAAAAAAAAAAAAAAAAAAAAAAAAAAAAAAAAAAAAAAAAAAAAAAAAAAAAA$AAAAAAAAAAAAAAAAAAAAAAAAAAAAAAAAAAAAAAAAAAAAAAAAAAAAAAAAAAAAAAAAAAAAAAAAAAAAAAAAAAAAAA", 265)
    ∷ ("$argon2d$m=8,t=1,p=1$AAAAAAAAAAA$AAAAAAAAAAAAAAAA", 49)
    ∷ ("$pbkdf2s2$t=4294967295,keyid=AAAAAAAAAAA$AAAAAAAAAAAAAAAAAAAAAAAAAAAAAAAAAAAAAAAAAAA$AAAAAAAAAAAAAAAAAAAAAAAAAAAAAAAAAAAAAAAAAAAAAAAAAAAAAAAAAAAAAAAAAAAAAAAAAAAAAAAAAAAAAA", 171)
    ∷ ("$pbkdf2s2$AAAAAA$AAAAAAAAAAAAAAAA", 33)
    ∷ []
