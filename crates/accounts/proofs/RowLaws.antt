-- A line of the listing: the names of the kinds, and lengths.
-- Assumes nothing.
use Prim.Native.Nat.{ℕ, ◌+◌, ◌^◌, ◌≤◌, ◌<◌, min}
use mathlib.Core.Bool.{Bool, true, false, cond}
use mathlib.Core.List.{List, [], ◌∷◌, ◌++◌}
use mathlib.Core.Path.{◌≡◌}
use native.Mathlib.Decide.{dec_le}
use native.Mathlib.Omega.{arith}
use borrow.Author.Tests.{lt-ltb, le-ltb}
use lib.Dec.{eqb}
use lib.ListN.{length, length-append}
use Rattle.std.proofs.Common.{Result}
use Rattle.std.specs.Result.{IsOk}
use Rattle.refusals.specs.declared.Refusal.{Refusal}
use Rattle.text.specs.Text.{text, tab, line_feed}
use Rattle.text.specs.declared.units.Chars.{Chars}
use Rattle.text.specs.Place.{outcome, chars_answered, put}
use Rattle.text.specs.Units.{sum_within}
use Rattle.text.proofs.Writers.{has_count}
use Rattle.text.proofs.Wrote.{AllFit, Chain, first_room, first-put, chain_sum, next_put}
use Rattle.decimal.specs.Decimal.{digits}
use Rattle.accounts.specs.Listing.{kind_line, row_text, largest_line_number, next_line}
use Rattle.accounts.specs.declared.line.Answer.{Answer}

pub kind_length : (k : ℕ) → length (kind_line k) ≤ 11
kind_length k = go (eqb k 1) (eqb k 2) (eqb k 3)
  where
    go : (a b c : Bool) → length (cond a (text "parameters") (cond b (text "salt") (cond c (text "hash") (text "-"))) ++ (line_feed ∷ [])) ≤ 11
    go true b c = omega arith
    go false true c = omega arith
    go false false true = omega arith
    go false false false = omega arith

pub row-length : (n : ℕ) (a : Answer) → length (row_text n a) ≡ length (digits n) + length (digits a.number) + 2 + length (kind_line a.kind)
unfolding row_text
row-length n a =
    let t₁ = digits n in
    let t₂ = t₁ ++ (tab ∷ []) in
    let t₃ = t₂ ++ digits a.number in
    let t₄ = t₃ ++ (tab ∷ []) in
    omega (arith, length-append t₄ (kind_line a.kind), length-append t₃ (tab ∷ []), length-append t₂ (digits a.number), length-append t₁ (tab ∷ []))

-- ---- the texts of a row, each put after those before it

module _ (n : ℕ) (a : Answer) (d : List ℕ) (room : length (row_text n a) ≤ length d) (small : length d < 2 ^ 64) where
  row_fits : AllFit d (digits n) ((tab ∷ []) ∷ digits a.number ∷ (tab ∷ []) ∷ kind_line a.kind ∷ [])
  unfolding row_text
  row_fits = record { room = room; small = small }

  -- the number of the line is counted
  pub row_counted : (w : Result Chars Refusal) (d₁ : List ℕ) → chars_answered w d₁ ≡ put d 0 (digits n) → IsOk w
  row_counted w d₁ e = has_count (λ m. m.0) w d d₁ (digits n) 0 (omega (arith, first_room row_fits)) e

  pub row_first : {d₁ : List ℕ} {number count : ℕ} → outcome number count d₁ ≡ put d 0 (digits n)
      → Chain d (digits n) ((tab ∷ []) ∷ digits a.number ∷ (tab ∷ []) ∷ kind_line a.kind ∷ []) d₁ count
  row_first e = first-put row_fits e

-- one text more, its length added by `plus`
pub next_plus : {d t u : List ℕ} {us : List (List ℕ)} {d₁ d₂ : List ℕ} {n number count m : ℕ} → Chain d t (u ∷ us) d₁ n → outcome number count d₂ ≡ put d₁ n u
    → m ≡ sum_within n count → Chain d (t ++ u) us d₂ m
next_plus {d} {t} {u} {us} {d₁} {d₂} {n} {number} {count} {m} a e q =
    let more = next_put a e in
    let k : m ≡ n + count = omega (arith, chain_sum more) in
    rw k more

-- ---- the number of the next line

pub next-min : (n : ℕ) → n ≤ largest_line_number → min (n + 1) largest_line_number ≡ next_line n
unfolding next_line
next-min n h =
    elim (dec_le largest_line_number n) [
      | yes k ↦ rw (le-ltb n largest_line_number k) (omega arith)
      | no k ↦ rw (lt-ltb n largest_line_number (omega arith)) (omega arith)
    ]
