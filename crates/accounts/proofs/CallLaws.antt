-- Every run of the listing's calls: a line is judged by its first `most_kept` bytes, and what the calls write are the rows of all lines, wherever
-- the cuts fall.
-- Assumes nothing.
use Prim.Native.Nat.{ℕ, zero, suc, ◌+◌, ◌<◌}
use mathlib.Core.Bool.{Bool, true, false, cond}
use mathlib.Core.List.{List, [], ◌∷◌, ◌++◌}
use mathlib.Core.Path.{◌≡◌, refl, sym, ap, ◌∙◌}
use native.Mathlib.Omega.{arith}
use lib.Dec.{eqb}
use lib.ListN.{length, take, drop, length-take, length-drop}
use lib.Seq.{take-take}
use borrow.Author.Tests.{leb-true, le-leb}
use Rattle.std.proofs.Common.{Result, Ok, Err}
use Rattle.text.specs.Text.{line_feed, has, find, cut, concat}
use Rattle.text.specs.Place.{outcome, has_room, over, put}
use Rattle.text.proofs.Lists.{has-append, cut_free, cut_whole, take_free}
use Rattle.text.proofs.Splitting.{find_inside, cut-past}
use Rattle.text.proofs.Writing.{put-zero, over_back}
use Rattle.text.proofs.Over.{length_over}
use Rattle.text.proofs.Prefixes.{take-cut, same_prefix}
use Rattle.accounts.specs.Lines.{last_line, lines_from, line_answer}
use Rattle.accounts.specs.Listing.{row_text, rows_from, next_line}
use Rattle.accounts.specs.Feeding.{held_of, Fed, fed, next_fed, end_put, Calls, row, full, used, end, left_of, most_kept}
use Rattle.refusals.specs.declared.Refusal.{Refusal}
use Rattle.refusals.specs.declared.Refusal.TheVariants.{NoRoom}
use Rattle.accounts.specs.declared.line.Answer.{Answer}
use Rattle.accounts.specs.declared.listing.Listed.{Listed}
use Rattle.accounts.specs.declared.listing.Listed.TheVariants.{Row, UsedUp}
use Rattle.accounts.proofs.TextLines.{from_plain_lem, from_line}
use Rattle.accounts.proofs.LineLaws.{answer_long}

-- ---- a line is judged by its first `most_kept` bytes

same_answer : (u v : List ℕ) → take most_kept u ≡ take most_kept v → line_answer u ≡ line_answer v
same_answer = same_prefix line_answer most_kept (record { number = 18; kind = 0 }) (λ l h. sym (answer_long l (omega arith)))

same-last : (n : ℕ) (u v : List ℕ) → take most_kept u ≡ take most_kept v → rows_from n (last_line u) ≡ rows_from n (last_line v)
same-last n [] [] e = refl
same-last n [] (b ∷ v) e = absurd (omega (arith, ap length e))
same-last n (a ∷ u) [] e = absurd (omega (arith, ap length e))
same-last n (a ∷ u) (b ∷ v) e = ap (λ (x : Answer). row_text n x ++ []) (same_answer (a ∷ u) (b ∷ v) e)

same_from : (s : List ℕ) (n : ℕ) (u v : List ℕ) → take most_kept u ≡ take most_kept v → rows_from n (lines_from u s) ≡ rows_from n (lines_from v s)
same_from [] n u v e = same-last n u v e
same_from (a ∷ s) n u v e =
    go (eqb a line_feed)
    (same_from s n (u ++ (a ∷ [])) (v ++ (a ∷ [])) (sym (take-cut most_kept u (a ∷ [])) ∙ ap (λ (w : List ℕ). take most_kept (w ++ (a ∷ []))) e ∙ take-cut most_kept v (a ∷ [])))
  where
    go : (q : Bool) → rows_from n (lines_from (u ++ (a ∷ [])) s) ≡ rows_from n (lines_from (v ++ (a ∷ [])) s)
        → rows_from n (cond q (u ∷ lines_from [] s) (lines_from (u ++ (a ∷ [])) s)) ≡ rows_from n (cond q (v ∷ lines_from [] s) (lines_from (v ++ (a ∷ [])) s))
    go true i = ap (λ (x : Answer). row_text n x ++ rows_from (next_line n) (lines_from [] s)) (same_answer u v e)
    go false i = i

from_cut : (n : ℕ) (u s : List ℕ) → rows_from n (lines_from (take most_kept u) s) ≡ rows_from n (lines_from u s)
from_cut n u s = same_from s n (take most_kept u) u (take-take most_kept most_kept u (omega arith))

-- ---- the bytes that a state stands for hold no line feed

pub held_free : (d : List ℕ) (kept : ℕ) → has line_feed (held_of d kept) ≡ false
unfolding held_of
held_free d kept = cut_free line_feed (take kept d)

-- what was kept is what the state then stands for
held_back : (d u : List ℕ) → has line_feed u ≡ false → held_of (over d 0 u) (length u) ≡ u
unfolding held_of
held_back d u h = ap (λ (v : List ℕ). (cut line_feed v).0) (over_back d u 0 (omega arith)) ∙ cut_whole line_feed u h

-- ---- what a call's answer says

-- the place, the count and the next line of a row; the bytes kept
place_of : Result Listed Refusal → ℕ
place_of (Ok (Row place count line)) = place
place_of (Ok (UsedUp kept)) = kept
place_of (Err e) = 0

count_of : Result Listed Refusal → ℕ
count_of (Ok (Row place count line)) = count.0
count_of (Ok (UsedUp kept)) = 0
count_of (Err e) = 0

line_of : Result Listed Refusal → ℕ
line_of (Ok (Row place count line)) = line
line_of (Ok (UsedUp kept)) = 0
line_of (Err e) = 0

case_of : Result Listed Refusal → ℕ
case_of (Ok (Row place count line)) = 0
case_of (Ok (UsedUp kept)) = 1
case_of (Err e) = 2

module _ (d : List ℕ) (kept n : ℕ) (p : List ℕ) (from : ℕ) (buffer : List ℕ) (at : ℕ) (array left : List ℕ) where
  abbrev rest : List ℕ
  rest = drop from p

  abbrev text : List ℕ
  text = row_text n (line_answer (held_of d kept ++ (cut line_feed rest).0))

  record RowSays (place count line : ℕ) : Type 0 where
    there : has line_feed rest ≡ true
    array_is : array ≡ d
    wrote : take count (drop at left) ≡ text
    place_is : place ≡ suc (from + find line_feed rest)
    line_is : line ≡ next_line n

  row_says : (place count line : ℕ) → next_fed d kept n p from buffer at ≡ fed (Ok (Row place (record { 0 = count }) line)) array left → RowSays place count line
  unfolding next_fed place_of count_of line_of case_of
  row_says place count line e = go (has line_feed rest) refl (has_room (length buffer) at (length text)) refl (has_room (length buffer) at 0) e
    where
      go : (q : Bool) → has line_feed rest ≡ q → (r : Bool) → has_room (length buffer) at (length text) ≡ r → (k : Bool)
          → cond q (cond r (fed (Ok (Row (suc (from + find line_feed rest)) (record { 0 = length text }) (next_line n))) d (over buffer at text)) (fed (Err NoRoom) d buffer)) (cond k (fed (Ok (UsedUp (length (take most_kept (held_of d kept ++ rest))))) (over d 0 (take most_kept (held_of d kept ++ rest))) buffer) (fed (Err NoRoom) d buffer))
          ≡ fed (Ok (Row place (record { 0 = count }) line)) array left
          → RowSays place count line
      go true h true t k e =
          let c : length text ≡ count = ap (λ (x : Fed). count_of x.listed) e in
          let l : over buffer at text ≡ left = ap (λ (x : Fed). x.buffer) e in
          record {
            there = h;
            array_is = sym (ap (λ (x : Fed). x.array) e);
            wrote = sym (λ i. take (c i) (drop at (l i))) ∙ over_back buffer text at (omega (arith, leb-true (at + length text) (length buffer) t));
            place_is = sym (ap (λ (x : Fed). place_of x.listed) e);
            line_is = sym (ap (λ (x : Fed). line_of x.listed) e);
          }
      go true h false t k e = let z : ◌≡◌ {A = ℕ} 2 0 = ap (λ (x : Fed). case_of x.listed) e in absurd (omega arith)
      go false h r t true e = let z : ◌≡◌ {A = ℕ} 1 0 = ap (λ (x : Fed). case_of x.listed) e in absurd (omega arith)
      go false h r t false e = let z : ◌≡◌ {A = ℕ} 2 0 = ap (λ (x : Fed). case_of x.listed) e in absurd (omega arith)

  full_says : next_fed d kept n p from buffer at ≡ fed (Err NoRoom) array left → array ≡ d
  unfolding next_fed case_of
  full_says e = go (has line_feed rest) (has_room (length buffer) at (length text)) (has_room (length buffer) at 0) e
    where
      go : (q r k : Bool)
          → cond q (cond r (fed (Ok (Row (suc (from + find line_feed rest)) (record { 0 = length text }) (next_line n))) d (over buffer at text)) (fed (Err NoRoom) d buffer)) (cond k (fed (Ok (UsedUp (length (take most_kept (held_of d kept ++ rest))))) (over d 0 (take most_kept (held_of d kept ++ rest))) buffer) (fed (Err NoRoom) d buffer))
          ≡ fed (Err NoRoom) array left
          → array ≡ d
      go true true k e = let z : ◌≡◌ {A = ℕ} 0 2 = ap (λ (x : Fed). case_of x.listed) e in absurd (omega arith)
      go true false k e = sym (ap (λ (x : Fed). x.array) e)
      go false r true e = let z : ◌≡◌ {A = ℕ} 1 2 = ap (λ (x : Fed). case_of x.listed) e in absurd (omega arith)
      go false r false e = sym (ap (λ (x : Fed). x.array) e)

  record UsedSays (more : ℕ) : Type 0 where
    none : has line_feed rest ≡ false
    more_is : more ≡ length (take most_kept (held_of d kept ++ rest))
    array_is : array ≡ over d 0 (take most_kept (held_of d kept ++ rest))

  used_says : (more : ℕ) → next_fed d kept n p from buffer at ≡ fed (Ok (UsedUp more)) array left → UsedSays more
  unfolding next_fed place_of case_of
  used_says more e = go (has line_feed rest) refl (has_room (length buffer) at (length text)) (has_room (length buffer) at 0) e
    where
      go : (q : Bool) → has line_feed rest ≡ q → (r k : Bool)
          → cond q (cond r (fed (Ok (Row (suc (from + find line_feed rest)) (record { 0 = length text }) (next_line n))) d (over buffer at text)) (fed (Err NoRoom) d buffer)) (cond k (fed (Ok (UsedUp (length (take most_kept (held_of d kept ++ rest))))) (over d 0 (take most_kept (held_of d kept ++ rest))) buffer) (fed (Err NoRoom) d buffer))
          ≡ fed (Ok (UsedUp more)) array left
          → UsedSays more
      go true h true k e = let z : ◌≡◌ {A = ℕ} 0 1 = ap (λ (x : Fed). case_of x.listed) e in absurd (omega arith)
      go true h false k e = let z : ◌≡◌ {A = ℕ} 2 1 = ap (λ (x : Fed). case_of x.listed) e in absurd (omega arith)
      go false h r false e = let z : ◌≡◌ {A = ℕ} 2 1 = ap (λ (x : Fed). case_of x.listed) e in absurd (omega arith)
      go false h r true e = record { none = h; more_is = sym (ap (λ (x : Fed). place_of x.listed) e); array_is = sym (ap (λ (x : Fed). x.array) e) }

-- ---- every run

pub left_zero : (ps : List (List ℕ)) → left_of 0 ps ≡ concat ps
left_zero [] = refl
left_zero (p ∷ ps) = refl

pub held_none : (d : List ℕ) → held_of d 0 ≡ []
unfolding held_of
held_none d = refl

end_says : (d : List ℕ) (kept n : ℕ) (buffer : List ℕ) (at count : ℕ) (left : List ℕ) → end_put d kept n buffer at ≡ outcome 0 count left
    → take count (drop at left) ≡ rows_from n (last_line (held_of d kept))
unfolding end_put
end_says d kept n buffer at count left e =
    let t = rows_from n (last_line (held_of d kept)) in
    let w = put-zero buffer at t count left (sym e) in
    (λ i. take (w.count_is i) (drop at (w.left_is i))) ∙ over_back buffer t at (omega (arith, w.fits))

pub run_left : {d : List ℕ} {kept n from : ℕ} {ps : List (List ℕ)} {w : List ℕ} → Calls d kept n from ps w → length d ≡ most_kept
    → w ≡ rows_from n (lines_from (held_of d kept) (left_of from ps))
run_left (row {d} {kept} {n} {from} {p} {ps} buffer at {place} {count} {line} {array} {left} {rest} e r) h =
    let q = row_says d kept n p from buffer at array left place count line e in
    let s = drop from p in
    let i = run_left r (ap length q.array_is ∙ h) in
    let more : rest ≡ rows_from (next_line n) (lines_from [] ((cut line_feed s).1 ++ concat ps)) =
    i ∙ ap (λ (u : List ℕ). rows_from line (lines_from u (drop place p ++ concat ps))) (held_none array) ∙ (λ j. rows_from (q.line_is j) (lines_from [] (cut-past line_feed p from place q.place_is j ++ concat ps))) in
    (λ j. q.wrote j ++ more j) ∙ ap (rows_from n) (sym (from_line s (held_of d kept) (concat ps) q.there))
run_left (full {d} {kept} {n} {from} {p} {ps} buffer at {array} {left} {rest} e r) h =
    let q = full_says d kept n p from buffer at array left e in
    run_left r (ap length q ∙ h) ∙ ap (λ (x : List ℕ). rows_from n (lines_from (held_of x kept) (left_of from (p ∷ ps)))) q
run_left (used {d} {kept} {n} {from} {p} {ps} buffer at {more} {array} {left} {rest} e r) h =
    let q = used_says d kept n p from buffer at array left more e in
    let s = drop from p in
    let u = take most_kept (held_of d kept ++ s) in
    let free : has line_feed u ≡ false = take_free line_feed most_kept (held_of d kept ++ s) (has-append line_feed (held_of d kept) s (held_free d kept) q.none) in
    let l : length array ≡ most_kept = ap length q.array_is ∙ length_over d 0 u (omega (arith, length-take most_kept (held_of d kept ++ s))) ∙ h in
    let now : held_of array more ≡ u = (λ i. held_of (q.array_is i) (q.more_is i)) ∙ held_back d u free in
    run_left r l
    ∙ (λ i. rows_from n (lines_from (now i) (left_zero ps i)))
    ∙ from_cut n (held_of d kept ++ s) (concat ps)
    ∙ ap (rows_from n) (sym (from_plain_lem s (held_of d kept) (concat ps) q.none))
run_left (end {d} {kept} {n} buffer at {count} {left} e) h = end_says d kept n buffer at count left e

-- ---- there is a run from every state over all parts: the calls come to an end

abbrev Runs : List ℕ → ℕ → ℕ → ℕ → List (List ℕ) → Type 0
Runs d kept n from ps = (written : List ℕ) × Calls d kept n from ps written

module _ (d : List ℕ) (kept n : ℕ) (p : List ℕ) (from : ℕ) where
  abbrev rest_of : List ℕ
  rest_of = drop from p

  -- a buffer that just holds the row
  abbrev row_of : List ℕ
  row_of = row_text n (line_answer (held_of d kept ++ (cut line_feed rest_of).0))

  next_row : has line_feed rest_of ≡ true
      → next_fed d kept n p from row_of 0 ≡ fed (Ok (Row (suc (from + find line_feed rest_of)) (record { 0 = length row_of }) (next_line n))) d (over row_of 0 row_of)
  unfolding next_fed
  next_row h = rw (h, le-leb (0 + length row_of) (length row_of) (omega arith))

  next_used : has line_feed rest_of ≡ false → next_fed d kept n p from [] 0
      ≡ fed (Ok (UsedUp (length (take most_kept (held_of d kept ++ rest_of))))) (over d 0 (take most_kept (held_of d kept ++ rest_of))) []
  unfolding next_fed
  next_used h = rw h

  run_step : (ps : List (List ℕ)) → (from + find line_feed rest_of < length p → Runs d 0 (next_line n) (suc (from + find line_feed rest_of)) (p ∷ ps)) → ((d₁ : List ℕ) (kept₁ : ℕ) → Runs d₁ kept₁ n 0 ps)
      → Runs d kept n from (p ∷ ps)
  run_step ps f g = go (has line_feed rest_of) refl
    where
      go : (q : Bool) → has line_feed rest_of ≡ q → Runs d kept n from (p ∷ ps)
      go true h =
          let r = f (omega (arith, find_inside line_feed rest_of h, length-drop from p)) in
          (take (length row_of) (drop 0 (over row_of 0 row_of)) ++ r.0, row row_of 0 (next_row h) r.1)
      go false h =
          let r = g (over d 0 (take most_kept (held_of d kept ++ rest_of))) (length (take most_kept (held_of d kept ++ rest_of))) in
          (r.0, used [] 0 (next_used h) r.1)

run_part : (k : ℕ) (d : List ℕ) (kept n from : ℕ) (p : List ℕ) (ps : List (List ℕ)) → length p < from + k → ((d₁ : List ℕ) (kept₁ n₁ : ℕ) → Runs d₁ kept₁ n₁ 0 ps)
    → Runs d kept n from (p ∷ ps)
run_part zero d kept n from p ps h g = run_step d kept n p from ps (λ l. absurd (omega arith)) (λ d₁ kept₁. g d₁ kept₁ n)
run_part (suc k) d kept n from p ps h g =
    run_step d kept n p from ps (λ l. run_part k d 0 (next_line n) (suc (from + find line_feed (drop from p))) p ps (omega arith) g) (λ d₁ kept₁. g d₁ kept₁ n)

end_is : (d : List ℕ) (kept n : ℕ)
    → let t = rows_from n (last_line (held_of d kept)) in
    end_put d kept n t 0 ≡ outcome 0 (length t) (over t 0 t)
unfolding end_put put
end_is d kept n = let t = rows_from n (last_line (held_of d kept)) in rw (le-leb (0 + length t) (length t) (omega arith))

pub runs : (ps : List (List ℕ)) (d : List ℕ) (kept n : ℕ) → Runs d kept n 0 ps
runs [] d kept n = let t = rows_from n (last_line (held_of d kept)) in (take (length t) (drop 0 (over t 0 t)), end t 0 (end_is d kept n))
runs (p ∷ ps) d kept n = run_part (suc (length p)) d kept n 0 p ps (omega arith) (λ d₁ kept₁ n₁. runs ps d₁ kept₁ n₁)
