-- What a call of a batch gave, and every run of calls.
-- Assumes nothing.
use Prim.Native.Nat.{ℕ, ◌≤◌, min}
use mathlib.Core.Bool.{Bool, true, false, cond}
use mathlib.Core.List.{List, ◌++◌, append-nil, append_assoc}
use mathlib.Core.Path.{◌≡◌, refl, sym, ap, ◌∙◌}
use native.Mathlib.Omega.{arith}
use lib.Dec.{leb}
use lib.ListN.{length, take, drop, length-map, length-take, length-drop}
use lib.Seq.{take_all, drop-append_seam}
use borrow.Author.Tests.{leb-true}
use Rattle.text.specs.Place.{over}
use Rattle.text.proofs.Over.{over-nil, over_start}
use Rattle.text.proofs.Prefixes.{take_min, drop_min, map-split}
use Rattle.text.proofs.Writing.{over_back}
use Rattle.accounts.specs.Lines.{lines_left, line_answer}
use Rattle.accounts.specs.Batches.{numbers_of, batch_count, place_after, BatchOutcome, judged, not_judged, batched, BatchCalls, none, call}
use Rattle.accounts.specs.Claims.{BatchGives}
use Rattle.accounts.proofs.TextLines.{none_left, some_left}
use Rattle.accounts.proofs.BatchLaws.{place_inside, place_none, place_end, lines_after, batch_full, batch_done}

-- ---- one call

-- what an accepted call gave
record Accepted (s : List ℕ) (from limit : ℕ) (d : List ℕ) (place count : ℕ) (a : List ℕ) : Type 0 where
  fits : batch_count s from limit ≤ length d
  place_is : place ≡ place_after s from limit
  count_is : count ≡ batch_count s from limit
  answers_are : a ≡ over d 0 (numbers_of (take limit (lines_left s from)))

when_accepted : (s : List ℕ) (from limit : ℕ) (d : List ℕ) (place count : ℕ) (a : List ℕ) → batched s from limit d ≡ judged place count a → Accepted s from limit d place count a
unfolding batched
when_accepted s from limit d place count a e = go (leb (batch_count s from limit) (length d)) refl e
  where
    go : (b : Bool) → leb (batch_count s from limit) (length d) ≡ b
        → cond b (judged (place_after s from limit) (batch_count s from limit) (over d 0 (numbers_of (take limit (lines_left s from))))) (not_judged d) ≡ judged place count a
        → Accepted s from limit d place count a
    go true t q =
        record {
          fits = leb-true (batch_count s from limit) (length d) t;
          place_is = sym (ap (λ (o : BatchOutcome). o.batch.place) q);
          count_is = sym (ap (λ (o : BatchOutcome). o.batch.count) q);
          answers_are = sym (ap (λ (o : BatchOutcome). o.answers) q);
        }
    go false t q = let z : ◌≡◌ {A = ℕ} 17 0 = ap (λ (o : BatchOutcome). o.batch.number) q in absurd (omega arith)

module _ (s : List ℕ) (from limit : ℕ) (d : List ℕ) (place count : ℕ) (a : List ℕ) (e : batched s from limit d ≡ judged place count a) where
  abbrev ls : List (List ℕ)
  ls = lines_left s from

  abbrev q : Accepted s from limit d place count a
  q = when_accepted s from limit d place count a e

  length_numbers : count ≡ length (numbers_of (take limit ls))
  length_numbers = q.count_is ∙ sym (length-map (take limit ls) (λ (l : List ℕ). (line_answer l).number) ∙ length-take limit ls)

  numbers_put : take count a ≡ numbers_of (take limit ls)
  numbers_put = (λ i. take (length_numbers i) (q.answers_are i)) ∙ over_back d (numbers_of (take limit ls)) 0 (omega arith)

  left_as_was : drop count a ≡ drop count d
  left_as_was =
      (λ i. drop (length_numbers i) (q.answers_are i))
      ∙ ap (drop (length (numbers_of (take limit ls)))) (over_start d (numbers_of (take limit ls)))
      ∙ drop-append_seam (numbers_of (take limit ls)) (drop (length (numbers_of (take limit ls))) d)
      ∙ ap (λ (n : ℕ). drop n d) (sym length_numbers)

  left_there : lines_left s place ≡ drop limit ls
  left_there = ap (lines_left s) q.place_is ∙ lines_after s limit from

  by_count : {A : Type 0} (F : ℕ → A) → F (min limit (length ls)) ≡ F limit → F count ≡ F limit
  by_count F f = ap F q.count_is ∙ f

none-judged : (s : List ℕ) (from : ℕ) (d : List ℕ) → batched s from 0 d ≡ judged (min from (length s)) 0 d
none-judged s from d =
    let z : 0 ≡ batch_count s from 0 = omega arith in
    sym (batch_done s from 0 d (omega arith)) ∙ (λ i. judged (place_none s from i) (sym z i) (over-nil d 0 i))

pub batch_gives : (s : List ℕ) (from limit : ℕ) (d : List ℕ) → BatchGives s from limit d
batch_gives s from limit d =
    record {
      refused = λ h. sym (batch_full s from limit d h);
      accepted = λ h. (place_after s from limit, over d 0 (numbers_of (take limit (lines_left s from))), sym (batch_done s from limit d h));
      gives = λ place count a e.
          record {
            smaller = (when_accepted s from limit d place count a e).count_is;
            numbers = numbers_put s from limit d place count a e ∙ sym (by_count s from limit d place count a e (λ (n : ℕ). numbers_of (take n (lines_left s from))) (ap numbers_of (take_min (lines_left s from) limit)));
            kept = left_as_was s from limit d place count a e;
            left = left_there s from limit d place count a e ∙ sym (by_count s from limit d place count a e (λ (n : ℕ). drop n (lines_left s from)) (drop_min (lines_left s from) limit));
            inside = omega (arith, (when_accepted s from limit d place count a e).place_is, place_inside s from limit);
          };
      none = none-judged s from d;
    }

-- ---- every run

-- what the calls gave, and what the lines that are left would give
so_far : {s : List ℕ} {from calls to : ℕ} {a : List ℕ} → BatchCalls s from calls to a → numbers_of (lines_left s from) ≡ a ++ numbers_of (lines_left s to)
so_far none = refl
so_far (call {text = s} {from} limit d {place} {count} {calls} {to} {answers = a} {rest} l h e r) =
    map-split (λ (x : List ℕ). (line_answer x).number) limit (lines_left s from)
    ∙ (λ i. sym (numbers_put s from limit d place count a e) i ++ numbers_of (sym (left_there s from limit d place count a e) i))
    ∙ ap (λ (t : List ℕ). take count a ++ t) (so_far r)
    ∙ sym (append_assoc (take count a) rest (numbers_of (lines_left s to)))

pub run_whole : {s : List ℕ} {from calls to : ℕ} {a : List ℕ} → BatchCalls s from calls to a → length s ≤ to → a ≡ numbers_of (lines_left s from)
run_whole {s} {from} {calls} {to} {a} r h = sym (so_far r ∙ ap (λ (ls : List (List ℕ)). a ++ numbers_of ls) (none_left s to h) ∙ append-nil a)

pub run_ends : {s : List ℕ} {from calls to : ℕ} {a : List ℕ} → BatchCalls s from calls to a → calls ≤ length (lines_left s from)
run_ends none = omega arith
run_ends (call {text = s} {from} limit d {place} {count} {calls} {to} {answers = a} {rest} l h e r) =
    omega (arith, run_ends r, l, some_left s from h, ap length (left_there s from limit d place count a e), length-drop limit (lines_left s from))

-- one call over all
pub whole_call : (s : List ℕ) (from limit : ℕ) (d : List ℕ) (place count : ℕ) (a : List ℕ) → length (lines_left s from) ≤ limit → batched s from limit d ≡ judged place count a
    → (take count a ≡ numbers_of (lines_left s from)) × (place ≡ length s)
whole_call s from limit d place count a h e =
    let q = when_accepted s from limit d place count a e in
    (numbers_put s from limit d place count a e ∙ ap numbers_of (take_all limit (lines_left s from) h), q.place_is ∙ place_end s from limit h)
