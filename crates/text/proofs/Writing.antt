-- Writing from a place: a lent part that goes to the end of its buffer, the outcomes of `put` and `put_after`, and what is written read back.
-- Assumes nothing.
use Prim.Native.Nat.{ℕ, ◌+◌, ◌-◌, ◌<◌, ◌≤◌}
use mathlib.Core.Path.{◌≡◌, refl, sym, ap, ◌∙◌}
use mathlib.Core.Bool.{Bool, true, false, cond, true≢false}
use mathlib.Core.List.{List, ◌++◌, append-nil}
use native.Mathlib.Omega.{arith}
use native.Mathlib.Nat.{le_of_eq}
use native.Mathlib.Decide.{dec_le}
use lib.Dec.{leb, eqb}
use lib.ListN.{length, take, drop, length-drop}
use lib.Seq.{drop_at, drop-drop, length-take-le, drop-length, take_all, take-append_seam}
use borrow.Author.Tests.{eqb-true, eq-eqb, ne_eqb, le-leb, lt-leb, leb-true, eqb-false}
use borrow.Rule.Slice.PartMut.{put_mid, Post-is}
use Rattle.text.specs.Place.{Outcome, outcome, refused, over, put, put_after, Refuses}

-- n bytes fit what is left after a place that lies inside
pub leb-sub : (n at size : ℕ) → at ≤ size → leb n (size - at) ≡ leb (at + n) size
leb-sub n at size h =
    elim (dec_le (at + n) size) [
      | yes k ↦ le-leb n (size - at) (omega arith) ∙ sym (le-leb (at + n) size k)
      | no k ↦ lt-leb n (size - at) (omega arith) ∙ sym (lt-leb (at + n) size (omega arith))
    ]

-- ---- a part that goes to the end of a slice, and the slice once that part has come back

pub tail_part : (xs : List ℕ) (a : ℕ) → take (length xs - a) (drop a xs) ≡ drop a xs
tail_part xs a = take_all (length xs - a) (drop a xs) (le_of_eq (length-drop a xs))

tail_put : (xs ys : List ℕ) (a : ℕ) → a ≤ length xs → put_mid a (length xs - a) xs ys ≡ take a xs ++ ys
tail_put xs ys a h =
    ap (λ (z : List ℕ). take a xs ++ (ys ++ z)) (Post-is a (length xs) xs h ∙ drop-length xs)
    ∙ ap (λ (z : List ℕ). take a xs ++ z) (append-nil ys)

-- the bytes were written from the start of the part that goes from the place to the end
pub tail_over : (buffer bytes ys : List ℕ) (at : ℕ) → at + length bytes ≤ length buffer
    → ys ≡ bytes ++ drop (length bytes) (take (length buffer - at) (drop at buffer))
    → put_mid at (length buffer - at) buffer ys ≡ over buffer at bytes
tail_over buffer bytes ys at h e = rw (tail_put buffer ys at (omega arith), e, tail_part buffer at, drop-drop)

-- ---- the outcomes

module _ (buffer : List ℕ) (at : ℕ) (bytes : List ℕ) where
  pub put_done : at + length bytes ≤ length buffer → (count : ℕ) → count ≡ length bytes → (left : List ℕ) → left ≡ over buffer at bytes
      → outcome 0 count left ≡ put buffer at bytes
  unfolding put
  put_done h count k left e = rw (le-leb (at + length bytes) (length buffer) h, k, e)

  pub put_full : length buffer < at + length bytes → refused 17 buffer ≡ put buffer at bytes
  unfolding put
  put_full h = rw (lt-leb (at + length bytes) (length buffer) h)

  pub put_clear : (n : ℕ) → n ≡ 0 → put_after n buffer at bytes ≡ put buffer at bytes
  unfolding put_after
  put_clear n z = rw z

  pub put_refused : (n k : ℕ) → n ≡ k → 0 < k → refused k buffer ≡ put_after n buffer at bytes
  unfolding put_after
  put_refused n k e z = rw (e, ne_eqb k 0 (omega arith))

-- what the number 0 says: the bytes fit and were written
pub record Done (buffer : List ℕ) (at : ℕ) (bytes : List ℕ) (count : ℕ) (left : List ℕ) : Type 0 where
  pub fits : at + length bytes ≤ length buffer
  pub count_is : count ≡ length bytes
  pub left_is : left ≡ over buffer at bytes

pub put-zero : (buffer : List ℕ) (at : ℕ) (bytes : List ℕ) (count : ℕ) (left : List ℕ) → outcome 0 count left ≡ put buffer at bytes
    → Done buffer at bytes count left
unfolding put
put-zero buffer at bytes count left e = go (leb (at + length bytes) (length buffer)) refl e
  where
    go : (b : Bool) → leb (at + length bytes) (length buffer) ≡ b
        → outcome 0 count left ≡ cond b (outcome 0 (length bytes) (over buffer at bytes)) (refused 17 buffer)
        → Done buffer at bytes count left
    go true t q = record { fits = leb-true _ _ t; count_is = ap (λ (o : Outcome). o.count) q; left_is = ap (λ (o : Outcome). o.buffer) q }
    go false t q = let z : ◌≡◌ {A = ℕ} 0 17 = ap (λ (o : Outcome). o.number) q in absurd (omega arith)

-- bytes that fit are written
pub put-fits : (buffer : List ℕ) (at : ℕ) (bytes : List ℕ) (number count : ℕ) (left : List ℕ) → at + length bytes ≤ length buffer
    → outcome number count left ≡ put buffer at bytes → Done buffer at bytes count left
put-fits buffer at bytes number count left h e =
    let q = e ∙ sym (put_done buffer at bytes h (length bytes) refl (over buffer at bytes) refl) in
    record { fits = h; count_is = ap (λ (o : Outcome). o.count) q; left_is = ap (λ (o : Outcome). o.buffer) q }

-- what is written can be read back at its place
pub over_back : (buffer bytes : List ℕ) (at : ℕ) → at ≤ length buffer → take (length bytes) (drop at (over buffer at bytes)) ≡ bytes
over_back buffer bytes at h =
    rw (drop_at (take at buffer) (bytes ++ drop (at + length bytes) buffer) at (length-take-le at buffer h))
    (take-append_seam bytes (drop (at + length bytes) buffer))

-- ---- after a number that may already refuse

-- a number of 0 where bytes were to be written was a number of 0 before, and they fit
pub after_zero : (n : ℕ) (buffer : List ℕ) (at : ℕ) (bytes : List ℕ) → (put_after n buffer at bytes).number ≡ 0 → (n ≡ 0) × (at + length bytes ≤ length buffer)
unfolding put_after put
after_zero n buffer at bytes z = go (eqb n 0) refl (leb (at + length bytes) (length buffer)) refl z
  where
    go : (b : Bool) → eqb n 0 ≡ b → (r : Bool) → leb (at + length bytes) (length buffer) ≡ r
        → (cond b (cond r (outcome 0 (length bytes) (over buffer at bytes)) (refused 17 buffer)) (refused n buffer)).number ≡ 0
        → (n ≡ 0) × (at + length bytes ≤ length buffer)
    go true q true t z = (eqb-true n 0 q, leb-true (at + length bytes) (length buffer) t)
    go true q false t z = absurd (omega arith)
    go false q r t z = absurd (true≢false (sym (eq-eqb n 0 z) ∙ q))

-- bytes that fit are written where no number refuses
pub after_done : (n : ℕ) (buffer : List ℕ) (at : ℕ) (bytes : List ℕ) → n ≡ 0 → at + length bytes ≤ length buffer
    → put_after n buffer at bytes ≡ outcome 0 (length bytes) (over buffer at bytes)
after_done n buffer at bytes z h = put_clear buffer at bytes n z ∙ sym (put_done buffer at bytes h (length bytes) refl (over buffer at bytes) refl)

-- number and buffer apart, of an earlier refusal and of bytes that fit
module _ (n : ℕ) (buffer : List ℕ) (at : ℕ) (bytes : List ℕ) where
  pub parts-refused : (n ≡ 0 → ⊥) → (n ≡ (put_after n buffer at bytes).number) × (buffer ≡ (put_after n buffer at bytes).buffer)
  parts-refused z =
      let r = put_refused buffer at bytes n n refl (omega (arith, z)) in
      (ap (λ (o : Outcome). o.number) r, ap (λ (o : Outcome). o.buffer) r)

  pub parts_done : n ≡ 0 → at + length bytes ≤ length buffer → (left : List ℕ) → left ≡ over buffer at bytes
      → (0 ≡ (put_after n buffer at bytes).number) × (left ≡ (put_after n buffer at bytes).buffer)
  parts_done z h left e =
      let r = after_done n buffer at bytes z h in
      (sym (ap (λ (o : Outcome). o.number) r), e ∙ sym (ap (λ (o : Outcome). o.buffer) r))

-- what was written at one place of one buffer tells the bytes
pub over-same : (buffer : List ℕ) (at : ℕ) (x y : List ℕ) → at ≤ length buffer
    → outcome 0 (length x) (over buffer at x) ≡ outcome 0 (length y) (over buffer at y) → x ≡ y
over-same buffer at x y h q =
    let c : length x ≡ length y = ap (λ (o : Outcome). o.count) q in
    let b : over buffer at x ≡ over buffer at y = ap (λ (o : Outcome). o.buffer) q in
    sym (over_back buffer x at h) ∙ (λ i. take (c i) (drop at (b i))) ∙ over_back buffer y at h

-- what a number of 0 says of a number before it, and of the count
pub after_counted : (n : ℕ) (buffer bytes : List ℕ) (number count : ℕ) (left : List ℕ) → outcome number count left ≡ put_after n buffer 0 bytes → number ≡ 0
    → (n ≡ 0) × (count ≡ length bytes)
after_counted n buffer bytes number count left e z =
    let q = after_zero n buffer 0 bytes (sym (ap (λ (o : Outcome). o.number) e) ∙ z) in
    (q.0, ap (λ (o : Outcome). o.count) (e ∙ after_done n buffer 0 bytes q.0 q.1))

-- the number, where the bytes fit
pub after_number : (n : ℕ) (buffer bytes : List ℕ) → (n ≡ 0 → length bytes ≤ length buffer) → (put_after n buffer 0 bytes).number ≡ n
after_number n buffer bytes h = go (eqb n 0) refl
  where
    go : (b : Bool) → eqb n 0 ≡ b → (put_after n buffer 0 bytes).number ≡ n
    go true t =
        let z = eqb-true n 0 t in
        ap (λ (o : Outcome). o.number) (after_done n buffer 0 bytes z (omega (arith, h z))) ∙ sym z
    go false t = sym (ap (λ (o : Outcome). o.number) (put_refused buffer 0 bytes n n refl (omega (arith, eqb-false n 0 t))))

-- a refusal is the earlier number's, or 17
pub after_refuses : (own : ℕ → Bool) (n : ℕ) (buffer : List ℕ) (at : ℕ) (bytes : List ℕ) → ((n ≡ 0 → ⊥) → own n ≡ true) → own 17 ≡ true
    → Refuses own buffer (put_after n buffer at bytes)
unfolding put_after put
after_refuses own n buffer at bytes f k = go (eqb n 0) refl (leb (at + length bytes) (length buffer))
  where
    go : (b : Bool) → eqb n 0 ≡ b → (r : Bool)
        → Refuses own buffer (cond b (cond r (outcome 0 (length bytes) (over buffer at bytes)) (refused 17 buffer)) (refused n buffer))
    go true q true z = absurd (z refl)
    go true q false z = (k, refl)
    go false q r z = (f z, refl)
