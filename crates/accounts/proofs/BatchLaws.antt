-- Batches: the place after some lines, whether the answers fit, and a line more.
-- Assumes nothing.
use Prim.Native.Nat.{ℕ, zero, suc, ◌+◌, ◌-◌, ◌≤◌, ◌<◌, min}
use mathlib.Core.List.{List, [], ◌∷◌, ◌++◌, append_assoc}
use mathlib.Core.Logic.{◌⊎◌, inl, inr, ⊎_elim}
use mathlib.Core.Path.{◌≡◌, refl, sym, ap, ◌∙◌}
use native.Mathlib.Decide.{dec_le}
use native.Mathlib.Omega.{arith}
use lib.Dec.{leb}
use lib.ListN.{length, take, drop, set, length-append, length-drop, length-take, length-set}
use lib.Seq.{take-nil, take_all}
use Rattle.std.proofs.lemmas.List.{take-append-drop, drop-append-le, length-take-le, length-map}
use borrow.Author.Tests.{le-leb, lt-leb}
use Rattle.text.specs.Text.{line_feed, next_at}
use Rattle.text.specs.Place.{over}
use Rattle.text.proofs.Scanning.{find_from_le}
use Rattle.text.proofs.Prefixes.{drop_min}
use Rattle.text.proofs.Over.{over-nil, over-over, over-set}
use Rattle.accounts.specs.Lines.{lines, lines_left, lines_text, line_answer}
use Rattle.accounts.specs.Batches.{numbers_of, batch_count, place_after, BatchAnswer, BatchOutcome, batch_outcome, judged, not_judged, batched}
use Rattle.accounts.proofs.TextLines.{none_left, line_and_left, some_left}

-- ---- the place after some lines

pub place_inside : (s : List ℕ) (from n : ℕ) → place_after s from n ≤ length s
unfolding place_after
place_inside s from n = omega arith

pub place_none : (s : List ℕ) (from : ℕ) → place_after s from 0 ≡ min from (length s)
unfolding place_after
place_none s from = omega arith

place-past : (s : List ℕ) (from n : ℕ) → length s ≤ from → place_after s from n ≡ length s
unfolding place_after
place-past s from n h =
    let q : length (lines_text (take n (lines_left s from))) ≡ 0 = ap (λ (ls : List (List ℕ)). length (lines_text (take n ls))) (none_left s from h) ∙ ap (λ (ls : List (List ℕ)). length (lines_text ls)) (take-nil n) in
    omega arith

-- past one line more
place_step : (s : List ℕ) (place e : ℕ) → place < length s → e ≡ next_at line_feed s place → (n : ℕ) → place_after s place (suc n) ≡ place_after s (e + 1) n
unfolding place_after
place_step s place e h f n =
    let l = take (e - place) (drop place s) in
    let rest = lines_text (take n (lines_left s (e + 1))) in
    let k : length l ≡ e - place = omega (arith, length-take (e - place) (drop place s), length-drop place s, find_from_le line_feed s place (omega arith)) in
    let q : length (lines_text (take (suc n) (lines_left s place))) ≡ length l + suc (length rest) = ap (λ (ls : List (List ℕ)). length (lines_text (take (suc n) ls))) (line_and_left s place e h f) ∙ length-append l (line_feed ∷ rest) in
    omega arith

-- the lines from there on are those after the lines passed
pub lines_after : (s : List ℕ) (n from : ℕ) → lines_left s (place_after s from n) ≡ drop n (lines_left s from)
lines_after s zero from = ap (lines_left s) (place_none s from) ∙ ap lines (drop_min s from)
lines_after s (suc n) from =
    elim (dec_le (length s) from) [
      | yes h ↦ ap (lines_left s) (place-past s from (suc n) h) ∙ none_left s (length s) (omega arith) ∙ ap (drop (suc n)) (sym (none_left s from h))
      | no h ↦
          let l : from < length s = omega arith in
          let e = next_at line_feed s from in
          ap (lines_left s) (place_step s from e l refl n) ∙ lines_after s n (e + 1) ∙ ap (drop (suc n)) (sym (line_and_left s from e l refl))
    ]

-- a line follows exactly where the place is not the end
more_left : (s : List ℕ) (from n : ℕ) → place_after s from n < length s → n < length (lines_left s from)
more_left s from n h = omega (arith, some_left s (place_after s from n) h, ap length (lines_after s n from), length-drop n (lines_left s from))

no_more : (s : List ℕ) (from n : ℕ) → length s ≤ place_after s from n → length (lines_left s from) ≤ n
no_more s from n h = omega (arith, ap length (none_left s (place_after s from n) h), ap length (lines_after s n from), length-drop n (lines_left s from))

-- after all lines it is the end
pub place_end : (s : List ℕ) (from n : ℕ) → length (lines_left s from) ≤ n → place_after s from n ≡ length s
place_end s from n h =
    elim (dec_le (length s) (place_after s from n)) [
      | yes k ↦ omega (arith, place_inside s from n)
      | no k ↦ absurd (omega (arith, more_left s from n (omega arith)))
    ]

-- the same, by how many are left
pub place-next : (s : List ℕ) (place e left fewer : ℕ) → place < length s → e ≡ next_at line_feed s place → left ≡ suc fewer → place_after s (e + 1) fewer ≡ place_after s place left
place-next s place e left fewer h f l = sym (place_step s place e h f fewer) ∙ ap (place_after s place) (sym l)

-- no line more is wanted, or none is there
pub place_stopped : (s : List ℕ) (place left : ℕ) → (left ≤ 0) ⊎ (length s ≤ place) → min place (length s) ≡ place_after s place left
place_stopped s place left =
    ⊎_elim
    (λ (z : left ≤ 0). sym (place_none s place) ∙ (let q : 0 ≡ left = omega arith in ap (place_after s place) q))
    (λ (h : length s ≤ place). let q : min place (length s) ≡ length s = omega arith in q ∙ sym (place-past s place left h))

-- ---- whether the answers fit

-- the slice has room for fewer lines than the limit: so the place after as many tells
pub fit_lines : (s : List ℕ) (from limit room place : ℕ) → room < limit → place ≡ place_after s from room → leb (length s) place ≡ leb (batch_count s from limit) room
fit_lines s from limit room place h e =
    elim (dec_le (length s) place) [
      | yes k ↦ le-leb (length s) place k ∙ sym (le-leb (batch_count s from limit) room (omega (arith, no_more s from room (omega arith))))
      | no k ↦ lt-leb (length s) place (omega arith) ∙ sym (lt-leb (batch_count s from limit) room (omega (arith, more_left s from room (omega arith))))
    ]

-- ---- the outcomes

pub batch_full : (s : List ℕ) (from limit : ℕ) (d : List ℕ) → length d < batch_count s from limit → not_judged d ≡ batched s from limit d
unfolding batched
batch_full s from limit d h = rw (lt-leb (batch_count s from limit) (length d) h)

pub batch_done : (s : List ℕ) (from limit : ℕ) (d : List ℕ) → batch_count s from limit ≤ length d
    → judged (place_after s from limit) (batch_count s from limit) (over d 0 (numbers_of (take limit (lines_left s from)))) ≡ batched s from limit d
unfolding batched
batch_done s from limit d h = rw (le-leb (batch_count s from limit) (length d) h)

-- ---- a slice that holds no more answers than the limit

-- the numbers of no more lines than there are answers, put into the first m of them
over_part : (d u : List ℕ) (m : ℕ) → length u ≤ length (take m d) → over (take m d) 0 u ++ drop m d ≡ over d 0 u
over_part d u m h =
    append_assoc u (drop (0 + length u) (take m d)) (drop m d)
    ∙ ap (λ (v : List ℕ). u ++ v) (sym (drop-append-le (0 + length u) (take m d) (drop m d) (omega arith)) ∙ ap (drop (0 + length u)) (take-append-drop m d))

module _ (s : List ℕ) (from limit : ℕ) (d : List ℕ) (most : ℕ) (q : most ≡ min limit (length d)) (h : batch_count s from limit ≤ length d) where
  part_size : length (take most d) ≡ most
  part_size = length-take-le most d (omega arith)

  -- the limit, or more than the lines there
  enough : (most ≡ limit) ⊎ ((length (lines_left s from) ≤ most) × (most ≤ limit))
  enough =
      elim (dec_le limit most) [
        | yes k ↦ inl (omega arith)
        | no k ↦ inr (omega arith, omega arith)
      ]

  part_place : place_after s from most ≡ place_after s from limit
  part_place =
      ⊎_elim
      (λ (e : most ≡ limit). ap (place_after s from) e)
      (λ (e : (length (lines_left s from) ≤ most) × (most ≤ limit)). place_end s from most e.0 ∙ sym (place_end s from limit (omega (arith, e.0, e.1))))
      enough

  part_lines : take most (lines_left s from) ≡ take limit (lines_left s from)
  part_lines =
      ⊎_elim
      (λ (e : most ≡ limit). ap (λ (n : ℕ). take n (lines_left s from)) e)
      (λ (e : (length (lines_left s from) ≤ most) × (most ≤ limit)).
      take_all most (lines_left s from) e.0 ∙ sym (take_all limit (lines_left s from) (omega (arith, e.0, e.1))))
      enough

  -- what is judged into so many answers is what the limit asks for
  pub batch_part : (b : BatchAnswer) (a : List ℕ) → batch_outcome b a ≡ batched s from (length (take most d)) (take most d) → batch_outcome b (a ++ drop most d) ≡ batched s from limit d
  batch_part b a e =
      let n = part_size in
      let u = numbers_of (take limit (lines_left s from)) in
      let done : batch_outcome b a ≡ judged (place_after s from most) (batch_count s from most) (over (take most d) 0 (numbers_of (take most (lines_left s from)))) =
      e ∙ sym (batch_done s from (length (take most d)) (take most d) (omega arith)) ∙ (λ i. judged (place_after s from (n i)) (batch_count s from (n i)) (over (take most d) 0 (numbers_of (take (n i) (lines_left s from))))) in
      let c : batch_count s from most ≡ batch_count s from limit = omega arith in
      let fits : length u ≤ length (take most d) = omega (arith, n, length-map (take limit (lines_left s from)) (λ (l : List ℕ). (line_answer l).number), length-take limit (lines_left s from)) in
      let batch : b ≡ record { number = 0; place = place_after s from limit; count = batch_count s from limit } =
      ap (λ (o : BatchOutcome). o.batch) done ∙ (λ i. record { number = 0; place = part_place i; count = c i }) in
      let answers : a ++ drop most d ≡ over d 0 u =
      ap (λ (o : BatchOutcome). o.answers ++ drop most d) done ∙ ap (λ (ls : List (List ℕ)). over (take most d) 0 (numbers_of ls) ++ drop most d) part_lines ∙ over_part d u most fits in
      (λ i. batch_outcome (batch i) (answers i)) ∙ batch_done s from limit d h

-- ---- line by line

-- at a place, with so many lines judged and at most so many left: what the rest gives is what the whole does
pub record Judging (s : List ℕ) (from limit : ℕ) (d a : List ℕ) (place count left : ℕ) : Type 0 where
  pub falls : count + left ≡ limit
  pub same_size : length a ≡ length d
  pub place_is : place_after s place left ≡ place_after s from limit
  pub count_is : count + min left (length (lines_left s place)) ≡ batch_count s from limit
  pub answers_are : over a count (numbers_of (take left (lines_left s place))) ≡ over d 0 (numbers_of (take limit (lines_left s from)))

module _ (s : List ℕ) (from limit : ℕ) (d : List ℕ) where
  module _ (a : List ℕ) (place count left : ℕ) (j : Judging s from limit d a place count left) where
    -- no line more is to be judged
    none-judged : (left ≤ 0) ⊎ (length s ≤ place) → take left (lines_left s place) ≡ []
    none-judged =
        ⊎_elim
        (λ (z : left ≤ 0). let q : left ≡ 0 = omega arith in ap (λ (n : ℕ). take n (lines_left s place)) q)
        (λ (h : length s ≤ place). ap (take left) (none_left s place h) ∙ take-nil left)

    pub judging_done : batch_count s from limit ≤ length d → (left ≤ 0) ⊎ (length s ≤ place) → (p : ℕ) → p ≡ min place (length s) → judged p count a ≡ batched s from limit d
    judging_done room h p e =
        let none = none-judged h in
        let c : count ≡ batch_count s from limit = omega (arith, j.count_is, ap length none, length-take left (lines_left s place)) in
        let w : a ≡ over d 0 (numbers_of (take limit (lines_left s from))) = sym (over-nil a count) ∙ ap (λ (ls : List (List ℕ)). over a count (numbers_of ls)) (sym none) ∙ j.answers_are in
        (λ i. judged ((e ∙ place_stopped s place left h ∙ j.place_is) i) (c i) (w i)) ∙ batch_done s from limit d room

    -- one line more
    module _ (e fewer : ℕ) (h : place < length s) (f : e ≡ next_at line_feed s place) (l : left ≡ suc fewer) where
      one_more : length (lines_left s place) ≡ suc (length (lines_left s (e + 1)))
      one_more = ap length (line_and_left s place e h f)

      pub judging_on : batch_count s from limit ≤ length d → (x : ℕ) → x ≡ (line_answer (take (e - place) (drop place s))).number → (index : ℕ) → index ≡ count
          → Judging s from limit d (set a index x) (e + 1) (count + 1) fewer
      judging_on room x q index i =
          let rest = numbers_of (take fewer (lines_left s (e + 1))) in
          let first : numbers_of (take left (lines_left s place)) ≡ x ∷ rest = (λ i. numbers_of (take (l i) (line_and_left s place e h f i))) ∙ ap (λ (y : ℕ). y ∷ rest) (sym q) in
          let at : count < length a = omega (arith, one_more, j.count_is, j.same_size) in
          let one : over (set a count x) (count + 1) rest ≡ over a count (x ∷ rest) = ap (λ (v : List ℕ). over v (count + 1) rest) (over-set a count x at) ∙ over-over a count (x ∷ []) rest (omega arith) in
          rw i
          (record {
            falls = omega (arith, j.falls);
            same_size = length-set a count x ∙ j.same_size;
            place_is = place-next s place e left fewer h f l ∙ j.place_is;
            count_is = omega (arith, one_more, j.count_is);
            answers_are = one ∙ ap (over a count) (sym first) ∙ j.answers_are;
          })
