-- How many lines are accepted, line by line.
-- Assumes nothing.
use Prim.Native.Nat.{ℕ, suc, ◌+◌, ◌-◌, ◌≤◌, ◌<◌}
use mathlib.Core.Bool.{Bool, true, false, cond}
use mathlib.Core.List.{List, [], ◌∷◌}
use mathlib.Core.Path.{◌≡◌, sym, ap, ◌∙◌}
use native.Mathlib.Omega.{arith}
use mir.Val.{bool_byte}
use borrow.Author.Tests.{ne_eqb}
use lib.Dec.{eqb}
use lib.ListN.{length, take, drop}
use Rattle.text.specs.Text.{line_feed, next_at}
use Rattle.std.proofs.Common.{Result, Ok, Err}
use Rattle.std.specs.Result.{is_ok}
use Rattle.refusals.specs.Numbers.{number_of}
use Rattle.refusals.specs.declared.Refusal.{Refusal}
use Rattle.refusals.proofs.Numbers.{number_pos}
use Rattle.profile.specs.declared.fields.Kind.{Kind}
use Rattle.accounts.specs.Lines.{lines_left, line_answer, judge_answer}
use Rattle.accounts.specs.Batches.{numbers_of}
use Rattle.accounts.proofs.TextLines.{none_left, line_and_left}
use Rattle.peers.specs.Judging.{accepted}

pub accepted-first : (n : ℕ) (ns : List ℕ) → accepted (n ∷ ns) ≡ accepted (n ∷ []) + accepted ns
accepted-first n ns = go (eqb n 0)
  where
    go : (b : Bool) → cond b (suc (accepted ns)) (accepted ns) ≡ cond b 1 0 + accepted ns
    go true = omega arith
    go false = omega arith

pub accepted_ok : (r : Result Kind Refusal) (b : Bool) → b ≡ is_ok r → bool_byte b ≡ accepted ((judge_answer r).number ∷ [])
accepted_ok (Ok k) b q = ap bool_byte q
accepted_ok (Err e) b q =
    let h : number_of e ≡ 0 → ⊥ = λ z. omega (arith, z, number_pos e) in
    rw (ne_eqb (number_of e) 0 h) (ap bool_byte q)

pub at_most_one : (n : ℕ) → accepted (n ∷ []) ≤ 1
at_most_one n = go (eqb n 0)
  where
    go : (b : Bool) → cond b 1 0 ≤ 1
    go true = omega arith
    go false = omega arith

pub accepted_step : (s : List ℕ) (place e n : ℕ) → place < length s → e ≡ next_at line_feed s place → n ≡ (line_answer (take (e - place) (drop place s))).number
    → accepted (numbers_of (lines_left s place)) ≡ accepted (n ∷ []) + accepted (numbers_of (lines_left s (e + 1)))
accepted_step s place e n h f q =
    let rest = numbers_of (lines_left s (e + 1)) in
    ap (λ (ls : List (List ℕ)). accepted (numbers_of ls)) (line_and_left s place e h f) ∙ ap (λ (m : ℕ). accepted (m ∷ rest)) (sym q) ∙ accepted-first n rest

pub accepted_end : (s : List ℕ) (place : ℕ) → length s ≤ place → accepted (numbers_of (lines_left s place)) ≡ 0
accepted_end s place h = ap (λ (ls : List (List ℕ)). accepted (numbers_of ls)) (none_left s place h)
