-- 'The district directory stores `{pbkdf2s2}` or `{pbkdf2s3}` in place of `$pbkdf2s2$` or `$pbkdf2s3$`'; 'a string that is only the id has no such
-- spelling' (02): the `$` string of a braced text, which is this library's own term for such a text, and the way back.
-- Assumes nothing.
use Rattle.std.specs.Prelude.{ℕ, Bool, not, cond, ◌&&◌, List, ◌++◌, length, drop}
use Rattle.std.proofs.Math.Option.{none, some}
use Rattle.text.specs.Text.{text, empty, starts_with, or_else}
use Rattle.grammar.specs.Pieces.{OptionalText}

-- a text begins with a prefix, and goes on after it
abbrev pub goes_on_after : List ℕ → List ℕ → Bool
goes_on_after prefix t = starts_with prefix t && not (empty (drop (length prefix) t))

-- such a text with another prefix in place of the one that it has
abbrev pub replace_prefix : List ℕ → List ℕ → List ℕ → OptionalText
replace_prefix from to t = cond (goes_on_after from t) (some (to ++ drop (length from) t)) none

-- the `$` string of a braced text
unfoldable pub dollar_string : List ℕ → OptionalText
dollar_string t = or_else (replace_prefix (text "{pbkdf2s2}") (text "$pbkdf2s2$") t) (replace_prefix (text "{pbkdf2s3}") (text "$pbkdf2s3$") t)

-- the braced text of a `$` string
unfoldable pub braced_text : List ℕ → OptionalText
braced_text s = or_else (replace_prefix (text "$pbkdf2s2$") (text "{pbkdf2s2}") s) (replace_prefix (text "$pbkdf2s3$") (text "{pbkdf2s3}") s)

-- 'for pbkdf2 hash strings 171' (01): no permitted pbkdf2 string has more bytes, so no accepted or written braced text has
abbrev pub longest_braced : ℕ
longest_braced = 171
