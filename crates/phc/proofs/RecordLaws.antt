-- The record, put at the start of its buffer, alone or with the counts after it.
-- Assumes nothing.
use Prim.Native.Nat.{ℕ, ◌+◌, ◌≤◌, ◌<◌}
use mathlib.Core.List.{List, ◌++◌}
use mathlib.Core.Path.{◌≡◌, refl, sym, ap, ◌∙◌}
use native.Mathlib.Omega.{arith}
use lib.ListN.{length, take, drop}
use lib.Seq.{drop-drop}
use borrow.Rule.Slice.PartMut.{put_mid}
use Rattle.text.specs.Place.{Outcome, over, put, put_after}
use Rattle.text.proofs.Over.{over-over}
use Rattle.text.proofs.Writing.{put_refused, put_clear, put_full, put_done}
use Rattle.table.specs.Limits.{edition_two}
use Rattle.profile.specs.Entries.{reading}
use Rattle.profile.specs.Entries.{Reading}
use Rattle.phc.specs.Records.{record_bytes, record_length, recorded}

-- ---- bytes copied into a part of a buffer

pub copied_at : (d ys t : List ℕ) (at k : ℕ) → ys ≡ t → k ≡ length t → put_mid at k d ys ≡ over d at t
copied_at d ys t at k e q = (λ i. take at d ++ (e i ++ drop (q i) (drop at d))) ∙ ap (λ (v : List ℕ). take at d ++ (t ++ v)) (drop-drop (length t) at d)

-- after those that its start holds
pub copied_after : (d d₁ t u ys : List ℕ) (at k : ℕ) → d₁ ≡ over d 0 t → at ≡ length t → ys ≡ u → k ≡ length u → put_mid at k d₁ ys ≡ over d 0 (t ++ u)
copied_after d d₁ t u ys at k p q e l =
    let z : at ≡ 0 + length t = omega arith in
    copied_at d₁ ys u at k e l ∙ rw (p, z) (over-over d 0 t u (omega arith))

-- ---- the record alone

module _ (s buffer : List ℕ) (r : Reading) (e : r ≡ reading edition_two s) where
  number_is : r.number ≡ (reading edition_two s).number
  number_is = ap (λ (x : Reading). x.number) e

  pub record_refused : (r.number ≡ 0 → ⊥) → (r.number ≡ (recorded s buffer).number) × (buffer ≡ (recorded s buffer).buffer)
  unfolding recorded
  record_refused z =
      let q = put_refused buffer 0 (record_bytes (reading edition_two s)) (reading edition_two s).number r.number (sym number_is) (omega (arith, z)) in
      (ap (λ (o : Outcome). o.number) q, ap (λ (o : Outcome). o.buffer) q)

  module _ (z : r.number ≡ 0) where
    clear : put_after (reading edition_two s).number buffer 0 (record_bytes (reading edition_two s)) ≡ put buffer 0 (record_bytes (reading edition_two s))
    clear = put_clear buffer 0 (record_bytes (reading edition_two s)) (reading edition_two s).number (sym number_is ∙ z)

    pub record_full : length buffer < record_length → (17 ≡ (recorded s buffer).number) × (buffer ≡ (recorded s buffer).buffer)
    unfolding recorded
    record_full h =
        let q = put_full buffer 0 (record_bytes (reading edition_two s)) (omega arith) ∙ sym clear in
        (ap (λ (o : Outcome). o.number) q, ap (λ (o : Outcome). o.buffer) q)

    pub record_done : record_length ≤ length buffer → (left : List ℕ) → left ≡ over buffer 0 (record_bytes r)
        → (0 ≡ (recorded s buffer).number) × (left ≡ (recorded s buffer).buffer)
    unfolding recorded
    record_done h left w =
        let q = put_done buffer 0 (record_bytes (reading edition_two s)) (omega arith) record_length refl left (w ∙ ap (λ (x : Reading). over buffer 0 (record_bytes x)) e) ∙ sym clear in
        (ap (λ (o : Outcome). o.number) q, ap (λ (o : Outcome). o.buffer) q)
