-- What the private functions' contracts name.
-- Assumes nothing.
use Rattle.std.specs.Prelude.{ℕ, ◌≡◌, Bool, true, false, List}
use Rattle.refusals.specs.Numbers.{number_of}
use Rattle.refusals.specs.declared.Refusal.{Refusal}
use Rattle.text.specs.Text.{maybe}
use Rattle.table.specs.Limits.{edition_two}
use Rattle.directory.specs.Braced.{dollar_string}
use Rattle.directory.specs.Entries.{directory_number}

-- bytes of each prefix
abbrev pub prefix_length : ℕ
prefix_length = 10

-- there is a `$` string
unfoldable pub is_braced : List ℕ → Bool
is_braced t = maybe false (λ (s : List ℕ). true) (dollar_string t)

-- what is wrong with a text that is refused
abbrev pub RefusedWith : List ℕ → Refusal → Type 0
RefusedWith t r = directory_number edition_two t ≡ number_of r
