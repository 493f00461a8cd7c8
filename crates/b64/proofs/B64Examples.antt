-- The vectors of RFC 4648 section 10 without their padding, and texts that are not canonical.
-- Assumes nothing.
use Prim.Native.String.{String}
use mathlib.Core.Path.{◌≡◌, refl}
use mathlib.Core.Bool.{true, false}
use mathlib.Core.List.{List, [], ◌∷◌, ◌++◌, map}
use Rattle.text.specs.Text.{text, all}
use Rattle.b64.specs.B64.{sextet, letter, low_bits_zero, canonical, decode, encode}

-- bytes, and their text
abbrev pub vectors : List (String × String)
vectors =
    ("", "") ∷ ("f", "Zg") ∷ ("fo", "Zm8") ∷ ("foo", "Zm9v") ∷ ("foob", "Zm9vYg") ∷ ("fooba", "Zm9vYmE") ∷ ("foobar", "Zm9vYmFy") ∷ []

pub rfc_vectors : (map (λ v. encode (text v.0)) vectors ≡ map (λ v. text v.1) vectors)
    × (map (λ v. decode (text v.1)) vectors ≡ map (λ v. text v.0) vectors)
    × (all (λ v. canonical (text v.1)) vectors ≡ true)
unfolding sextet letter low_bits_zero canonical decode encode
rfc_vectors = (refl, refl, refl)

-- a single character left over, unused bits that are not zero, padding, whitespace, a character of another alphabet
abbrev pub unmatched_items : List String
unmatched_items = "A" ∷ "Zh" ∷ "Zm9" ∷ "Zg==" ∷ "Hj5+dsK0Z" ∷ "Hj5+dsK0ZR" ∷ "Zm9v Yg" ∷ "Zm9vYmF-" ∷ []

pub not-canonical : map (λ s. canonical (text s)) unmatched_items ≡ map (λ s. false) unmatched_items
unfolding sextet low_bits_zero canonical
not-canonical = refl

-- and a text with its line feed
pub line_feed-refused : canonical (text "Zm9v" ++ (10 ∷ [])) ≡ false
unfolding sextet low_bits_zero canonical
line_feed-refused = refl
