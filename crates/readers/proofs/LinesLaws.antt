-- The lines of a text with any byte: the bytes before the first line feed, and the lines of those after it. Assumes nothing.
use Rattle.std.proofs.Common.{◌≡◌, refl, ap, ◌∙◌, ℕ, suc, ◌+◌, ◌-◌, ◌<◌, ◌≤◌, ◌==◌, List, [], ◌∷◌, Bool, true, false, cond, not, nat_lt, arith, Option, Some, None, position, length, take, drop}
use Rattle.std.specs.List.{before_first, after_first, position_or_len}
use Rattle.std.proofs.lemmas.Bool.Decides.{nat_tests}
use Rattle.std.proofs.lemmas.Grind.{common_steps}
use Rattle.readers.specs.Lines.{lines, begin_with}

abbrev is_line_feed : ℕ → Bool
is_line_feed c = c == 10

lines_first : (c : ℕ) (s : List ℕ) → lines (c ∷ s) ≡ before_first is_line_feed (c ∷ s) ∷ lines (after_first is_line_feed (c ∷ s))
unfolding lines
lines_first c [] = go (c == 10)
  where
    go : (b : Bool) → ◌≡◌ {A = List (List ℕ)} (cond b ([] ∷ []) ((c ∷ []) ∷ [])) (take (cond (not b) (1 + 0) 0) (c ∷ []) ∷ lines (drop (cond (not b) (1 + 0) 0 + 1) (c ∷ [])))
    go true = refl
    go false = refl
lines_first c (d ∷ s) = go (c == 10) (lines_first d s)
  where
    k : ℕ
    k = position_or_len is_line_feed (d ∷ s)

    go : (b : Bool) → lines (d ∷ s) ≡ take k (d ∷ s) ∷ lines (drop (k + 1) (d ∷ s))
        → ◌≡◌ {A = List (List ℕ)} (cond b ([] ∷ lines (d ∷ s)) (begin_with c (lines (d ∷ s)))) (take (cond (not b) (1 + k) 0) (c ∷ d ∷ s) ∷ lines (drop (cond (not b) (1 + k) 0 + 1) (c ∷ d ∷ s)))
    go true h = refl
    go false h =
        let e : 1 + k ≡ suc k = omega arith in
        let f : suc k + 1 ≡ suc (k + 1) = omega arith in
        rw (e, f) (ap (begin_with c) h)

found : (b : Bool) (i k : ℕ) → Some i ≡ cond b (Some k) None → i ≡ k
found true i k e = cc
found false i k e = absurd (cc)

missed : (k n : ℕ) → ◌≡◌ {A = Option ℕ} None (cond (nat_lt k n) (Some k) None) → n ≤ k
missed k n e = grind (arith, nat_tests)

pub lines_none : (s : List ℕ) → length s ≡ 0 → lines s ≡ []
unfolding lines
lines_none [] e = refl
lines_none (c ∷ s) e = absurd (omega arith)

-- a line feed at i, and none before it: the rest is what is written `&s[i + 1..]`
pub lines_at : (s : List ℕ) (i : ℕ) → Some i ≡ position is_line_feed s → lines s ≡ take i s ∷ lines (take (length s - (i + 1)) (drop (i + 1) s))
lines_at [] i e = absurd (cc)
lines_at (c ∷ s) i e =
    let n : i ≡ position_or_len is_line_feed (c ∷ s) = found (nat_lt (position_or_len is_line_feed (c ∷ s)) (length (c ∷ s))) i _ e in
    let t : take (length (c ∷ s) - (i + 1)) (drop (i + 1) (c ∷ s)) ≡ drop (i + 1) (c ∷ s) = grind (arith, common_steps) in
    rw (t, n) (lines_first c s)

pub lines_last : (s : List ℕ) → 0 < length s → None ≡ position is_line_feed s → lines s ≡ s ∷ []
lines_last [] h e = absurd (omega arith)
lines_last (c ∷ s) h e =
    let n : length (c ∷ s) ≤ position_or_len is_line_feed (c ∷ s) = missed (position_or_len is_line_feed (c ∷ s)) (length (c ∷ s)) e in
    let t : take (position_or_len is_line_feed (c ∷ s)) (c ∷ s) ≡ c ∷ s = grind (arith, common_steps, n) in
    let r : drop (position_or_len is_line_feed (c ∷ s) + 1) (c ∷ s) ≡ [] = grind (arith, common_steps, n) in
    lines_first c s ∙ rw (t, r) (ap (λ (l : List (List ℕ)). (c ∷ s) ∷ l) (lines_none [] refl))
