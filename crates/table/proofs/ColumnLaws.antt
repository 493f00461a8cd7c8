-- The code's table is document 01's: one test over its numbers, and what the test says of each number.
-- Assumes nothing.
use Prim.Native.Nat.{ℕ, zero, suc, ◌≤◌, ◌<◌}
use mathlib.Core.Bool.{Bool, true, false, cond, and-false}
use mathlib.Core.List.{List, [], ◌∷◌}
use mathlib.Core.Logic.{◌⊎◌, inl, inr}
use mathlib.Core.Path.{◌≡◌, refl, sym, ◌∙◌, ap}
use native.Mathlib.Omega.{arith}
use borrow.Author.Tests.{lt-ltb, le-ltb, ltb-true, ltb-false}
use lib.Dec.{ltb}
use lib.ListN.{length}
use Rattle.std.proofs.Common.{Option, None, Some}
use Rattle.std.specs.Option.{MatchOption, unwrap_or}
use Rattle.text.specs.Text.{same}
use Rattle.text.proofs.Table.{tabulate, tabulated}
use Rattle.grammar.specs.Parts.{part_at}
use Rattle.table.specs.Limits.{Profile, no_profile, argon2, pbkdf2, profile_of, next, id_of, is_named, edition_two}
use Rattle.table.specs.Columns.{name_in, name_at, name_index, profile_in}
use Rattle.table.specs.declared.limits.Column.{Column}

-- the column of a number, as the code chooses it
abbrev column_at : ℕ → Profile
column_at k = cond (ltb k 1) no_profile (cond (ltb k 4) (argon2 (name_at k)) (cond (ltb k 6) (pbkdf2 (name_at k)) no_profile))

table_test : tabulate column_at 0 6 ≡ no_profile ∷ edition_two
unfolding edition_two name_in part_at
table_test = refl

-- the empty name
none_named : (k : ℕ) → k < 1 → [] ≡ name_at k
unfolding name_in part_at edition_two
none_named zero h = refl
none_named (suc k) h = absurd (omega arith)

column-past : (k : ℕ) → 6 ≤ k → column_at k ≡ no_profile
column-past k h = rw (le-ltb k 1 (omega arith), le-ltb k 4 (omega arith), le-ltb k 6 h)

column_rule : (k : ℕ) → column_at k ≡ profile_of edition_two k
column_rule k = tabulated column_at no_profile 6 (no_profile ∷ edition_two) table_test column-past k

no_column : (k : ℕ) → k < 1 ⊎ 6 ≤ k → no_profile ≡ profile_of edition_two k
no_column k (inl h) = sym (rw (lt-ltb k 1 h)) ∙ column_rule k
no_column k (inr h) = sym (column-past k h) ∙ column_rule k

-- ---- by the arms of the code

module _ (k : ℕ) (c : Column) where
  -- a column of the code, and the index of its name, are those of the number
  abbrev IsColumnOf : Type 0
  IsColumnOf = (profile_in c ≡ profile_of edition_two k) × (c.name ≡ name_index k)

  -- the index of the name, by the column
  index_by : (r : Profile) → r ≡ profile_of edition_two k → cond r.known k 0 ≡ name_index k
  index_by r e = ap (λ (r : Profile). cond r.known k 0) e

  pub column_argon2 : 1 ≤ k → k < 4 → profile_in c ≡ argon2 (name_at k) → c.name ≡ k → IsColumnOf
  column_argon2 l h p n =
      let q : argon2 (name_at k) ≡ profile_of edition_two k = sym (rw (le-ltb k 1 l, lt-ltb k 4 h)) ∙ column_rule k in
      (p ∙ q, n ∙ index_by (argon2 (name_at k)) q)

  pub column_pbkdf2 : 4 ≤ k → k < 6 → profile_in c ≡ pbkdf2 (name_at k) → c.name ≡ k → IsColumnOf
  column_pbkdf2 l h p n =
      let q : pbkdf2 (name_at k) ≡ profile_of edition_two k = sym (rw (le-ltb k 1 (omega arith), le-ltb k 4 l, lt-ltb k 6 h)) ∙ column_rule k in
      (p ∙ q, n ∙ index_by (pbkdf2 (name_at k)) q)

  pub column_other : k < 1 ⊎ 6 ≤ k → (profile_in c ≡ no_profile) × (c.name ≡ 0) → IsColumnOf
  column_other h p =
      let q : no_profile ≡ profile_of edition_two k = no_column k h in
      (p.0 ∙ q, p.1 ∙ index_by no_profile q)

-- ---- the number of an id text, index by index

past_named : (k : ℕ) → 6 ≤ k → [] ≡ name_at k
unfolding name_in
past_named k h = rw (le-ltb k 6 h)

-- the name stands at its index
pub name_rule : (k : ℕ) → (profile_of edition_two k).name ≡ name_at k
name_rule k = ap (λ (r : Profile). r.name) (sym (column_rule k)) ∙ go (ltb k 1) (ltb k 4) (ltb k 6) refl refl
  where
    go : (a b c : Bool) → ltb k 1 ≡ a → ltb k 6 ≡ c → (cond a no_profile (cond b (argon2 (name_at k)) (cond c (pbkdf2 (name_at k)) no_profile))).name ≡ name_at k
    go true b c e f = none_named k (ltb-true k 1 e)
    go false true c e f = refl
    go false false true e f = refl
    go false false false e f = past_named k (ltb-false k 6 f)

module _ (s : List ℕ) (r : Profile) where
  pub named_other : same s r.name ≡ false → false ≡ is_named s r
  named_other e = sym (rw (e, and-false))

-- the number of an id text in a table, by the first column that has its name
module _ (s : List ℕ) where
  abbrev Named : List Profile → ℕ → Bool → Type 0
  Named l k b = is_named s (profile_of l k) ≡ b

  id_first : (l : List Profile) (i : ℕ) → i < length l → Named l (suc i) true → ((k : ℕ) → k < i → Named l (suc k) false) → id_of l s ≡ suc i
  id_first [] i h e n = absurd (omega arith)
  id_first (r ∷ rs) zero h e n = rw e
  id_first (r ∷ rs) (suc i) h e n = rw (n zero (omega arith)) (ap next (id_first rs i (omega arith) e (λ k q. n (suc k) (omega arith))))

  id_none : (l : List Profile) → ((k : ℕ) → k < length l → Named l (suc k) false) → id_of l s ≡ 0
  id_none [] n = refl
  id_none (r ∷ rs) n = rw (n zero (omega arith)) (ap next (id_none rs (λ k q. n (suc k) (omega arith))))

  entries : length edition_two ≡ 5
  unfolding edition_two
  entries = refl

  pub id_found : (r : Option ℕ)
      → MatchOption r ((k : ℕ) → 1 ≤ k → k < 6 → Named edition_two k false)
      (λ i. (1 ≤ i) × (i < 6) × Named edition_two i true × ((k : ℕ) → 1 ≤ k → k < i → Named edition_two k false))
      → unwrap_or r 0 ≡ id_of edition_two s
  id_found None n = sym (id_none edition_two (λ k q. n (suc k) (omega arith) (omega (arith, entries))))
  id_found (Some zero) p = absurd (omega arith)
  id_found (Some (suc i)) p = sym (id_first edition_two i (omega (arith, entries)) p.2 (λ k q. p.3 (suc k) (omega arith) (omega arith)))
