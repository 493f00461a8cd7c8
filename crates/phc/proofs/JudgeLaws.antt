-- Batches as a C program sees them: place and count in the result, or 17.
-- Assumes nothing.
use Prim.Native.Nat.{ℕ, ◌≤◌, ◌<◌}
use mathlib.Core.Bool.{Bool, true, false, not, cond}
use mathlib.Core.List.{List}
use mathlib.Core.Logic.{◌≢◌}
use mathlib.Core.Path.{◌≡◌, refl, sym, ap, ◌∙◌}
use native.Mathlib.Decide.{dec_le}
use native.Mathlib.Omega.{arith}
use lib.Dec.{eqb}
use lib.ListN.{length}
use borrow.Author.Tests.{eqb-false}
use Rattle.text.specs.Place.{Outcome, refused, over}
use Rattle.text.specs.Units.{largest_usize}
use Rattle.text.proofs.LittleEndian.{back64}
use Rattle.text.proofs.Over.{over_start}
use Rattle.text.proofs.Writing.{put_refused, put_clear, put_full, after_zero, after_number, after_done}
use Rattle.accounts.specs.Batches.{batch_count, BatchOutcome, batch_outcome, judged, not_judged, batched}
use Rattle.accounts.specs.Batches.{BatchAnswer}
use Rattle.accounts.proofs.Claims.{batch_claims}
use Rattle.phc.specs.Records.{is_refusal}
use Rattle.phc.specs.Batches.{number64, batch_bytes, batch_length, recorded_batch, JudgeOutcome, judge_outcome, given_batch, recorded_judging}
use Rattle.phc.proofs.CodeLaws.{number_tells}

module _ (text : List ℕ) (from limit : ℕ) (answers result : List ℕ) where
  -- the batch is refused with 17, or accepted
  full : length answers < batch_count text from limit → batched text from limit answers ≡ not_judged answers
  full = (batch_claims.one_call text from limit answers).refused

  fit : batch_count text from limit ≤ length answers → (batched text from limit answers).batch.number ≡ 0
  fit h = ap (λ (x : BatchOutcome). x.batch.number) ((batch_claims.one_call text from limit answers).accepted h).2

  abbrev b : BatchAnswer
  b = (batched text from limit answers).batch

  seventeen : recorded_batch b result ≡ refused 17 result → judge_outcome 17 answers result ≡ given_batch (batched text from limit answers) answers result
  seventeen e = sym (ap (λ (o : Outcome). judge_outcome o.number (cond (eqb o.number 0) (batched text from limit answers).answers answers) o.buffer) e)

  no_batch : length answers < batch_count text from limit → judge_outcome 17 answers result ≡ given_batch (batched text from limit answers) answers result
  no_batch h = seventeen (sym (put_refused result 0 (batch_bytes b) b.number 17 (ap (λ (x : BatchOutcome). x.batch.number) (full h)) (omega arith)))

  no_result : batch_count text from limit ≤ length answers → length result < batch_length → judge_outcome 17 answers result ≡ given_batch (batched text from limit answers) answers result
  no_result k h = seventeen (put_clear result 0 (batch_bytes b) b.number (fit k) ∙ sym (put_full result 0 (batch_bytes b) (omega arith)))

  pub judge_short : length result < batch_length → judge_outcome 17 answers result ≡ recorded_judging text from limit answers result
  unfolding recorded_judging
  judge_short h =
      elim (dec_le (batch_count text from limit) (length answers)) [
        | yes k ↦ no_result k h
        | no k ↦ no_batch (omega arith)
      ]

  pub judge_given : batch_length ≤ length result → (c : BatchAnswer) (left : List ℕ) → batch_outcome c left ≡ batched text from limit answers
      → (n : ℕ) (wrote : List ℕ) → (n ≡ (recorded_batch c result).number) × (wrote ≡ (recorded_batch c result).buffer)
      → judge_outcome n left wrote ≡ recorded_judging text from limit answers result
  unfolding recorded_judging
  judge_given h c left e n wrote p =
      (λ i. judge_outcome (p.0 i) (kept (eqb (recorded_batch c result).number 0) refl i) (p.1 i)) ∙ ap (λ (x : BatchOutcome). given_batch x answers result) e
    where
      kept : (q : Bool) → eqb (recorded_batch c result).number 0 ≡ q → left ≡ cond q left answers
      kept true t = refl
      kept false t =
          let m : (recorded_batch c result).number ≡ c.number = after_number c.number result (batch_bytes c) (λ z. omega arith) in
          elim (dec_le (batch_count text from limit) (length answers)) [
            | yes k ↦ absurd (eqb-false (recorded_batch c result).number 0 t (m ∙ ap (λ (x : BatchOutcome). x.batch.number) e ∙ fit k))
            | no k ↦ ap (λ (x : BatchOutcome). x.answers) (e ∙ full (omega arith))
          ]

  -- ---- what holds of it

  pub judge_enough : batch_length ≤ length result → (recorded_judging text from limit answers result).number ≡ b.number
  unfolding recorded_judging
  judge_enough h = after_number b.number result (batch_bytes b) (λ z. omega arith)

  pub judge_refuses : (recorded_judging text from limit answers result).number ≢ 0 → recorded_judging text from limit answers result ≡ judge_outcome 17 answers result
  unfolding recorded_judging
  judge_refuses z =
      elim (dec_le (batch_count text from limit) (length answers)) [
        | yes k ↦
            elim (dec_le batch_length (length result)) [
              | yes h ↦ absurd (z (judge_enough h ∙ fit k))
              | no h ↦ sym (no_result k (omega arith))
            ]
        | no k ↦ sym (no_batch (omega arith))
      ]

  pub judge_answer : is_refusal (recorded_judging text from limit answers result).number ≡ not (eqb (recorded_judging text from limit answers result).number 0)
  judge_answer =
      let number = (recorded_judging text from limit answers result).number in
      elim (dec_le number 99) [
        | yes h ↦ number_tells number h
        | no h ↦ absurd (omega (arith, ap (λ (o : JudgeOutcome). o.number) (judge_refuses (λ (z : number ≡ 0). absurd (omega arith)))))
      ]

  -- place and count as they stand in the result
  in_result : (place count : ℕ) → place ≤ largest_usize → count ≤ largest_usize → (t : List ℕ) → t ≡ over result 0 (batch_bytes (record { number = 0; place = place; count = count }))
      → (number64 t 0 ≡ place) × (number64 t 8 ≡ count)
  in_result place count p c t e =
      let w = e ∙ over_start result (batch_bytes (record { number = 0; place = place; count = count })) in
      (ap (λ (u : List ℕ). number64 u 0) w ∙ back64 place p, ap (λ (u : List ℕ). number64 u 8) w ∙ back64 count c)

  pub judge_gives : (recorded_judging text from limit answers result).number ≡ 0 → length text ≤ largest_usize → limit ≤ largest_usize
      → let o = recorded_judging text from limit answers result in
      judged (number64 o.result 0) (number64 o.result 8) o.answers ≡ batched text from limit answers
  unfolding recorded_judging
  judge_gives z k l =
      let q = after_zero b.number result 0 (batch_bytes b) z in
      let e : judged b.place b.count (batched text from limit answers).answers ≡ batched text from limit answers = λ i. batch_outcome (record { number = sym q.0 i; place = b.place; count = b.count }) (batched text from limit answers).answers in
      let g = (batch_claims.one_call text from limit answers).gives b.place b.count (batched text from limit answers).answers (sym e) in
      let w = in_result b.place b.count (omega (arith, g.inside)) (omega (arith, g.smaller)) (recorded_batch b result).buffer (ap (λ (x : Outcome). x.buffer) (after_done b.number result 0 (batch_bytes b) q.0 q.1)) in
      let a : cond (eqb (recorded_batch b result).number 0) (batched text from limit answers).answers answers ≡ (batched text from limit answers).answers = ap (λ (n : ℕ). cond (eqb n 0) (batched text from limit answers).answers answers) z in
      (λ i. judged (w.0 i) (w.1 i) (a i)) ∙ e
