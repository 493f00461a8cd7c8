-- The B64 characters at a place, decoded: one group more, the end of a run, and all of a canonical text.
-- Assumes nothing.
use Prim.Native.Nat.{ℕ, ◌+◌, ◌-◌, ◌*◌, ◌/◌, ◌%◌, ◌≤◌, ◌<◌, min}
use mathlib.Core.Path.{◌≡◌, refl, sym, ap, ◌∙◌}
use mathlib.Core.Bool.{Bool, true, false, cond, ◌&&◌, and-false}
use mathlib.Core.List.{List, [], ◌∷◌, ◌++◌, append_assoc, append-nil}
use native.Mathlib.Omega.{arith}
use native.Mathlib.Decide.{dec_lt}
use lib.Dec.{eqb}
use lib.ListN.{length, take, drop, get_or, length-append, length-drop, take-append-drop, get_or-eq_default}
use lib.Seq.{take_at, length-take-le}
use borrow.Author.Tests.{lt-ltb, le-ltb, le-leb, lt-leb, leb-true, leb-false, eq-eqb, ne_eqb}
use Rattle.text.specs.Text.{within, starts_with}
use Rattle.text.specs.Place.{has_room, over, outcome, refused, put, put_after}
use Rattle.text.proofs.Tests.{both, and-true, from_within}
use Rattle.text.proofs.Over.{over-nil, over_start, over_after, length_over}
use Rattle.text.proofs.Starts.{starts_own}
use Rattle.text.proofs.Runs.{run_go, run_stop, run_past, run_on, run_length}
use Rattle.b64.specs.B64.{sextet, in_alphabet, canonical, decode, decoding, group_of}
use Rattle.b64.specs.B64Steps.{group_at, three, two, one}
use Rattle.b64.specs.Runs.{run_at, is_complete, decoded_of, RunGives}
use Rattle.b64.specs.RunSteps.{Reached, Stopped}
use Rattle.b64.specs.declared.decoder.Run.{Run}
use Rattle.b64.proofs.B64Laws.{grouped, canonical-grouped, canonical_alphabet, length_decode}
use Rattle.b64.proofs.B64Code.{sextet_at, group_past, group_bits}

-- ---- sextets

-- past the end stands 0, which is no character
sextet-none : sextet 0 ≡ 255
unfolding sextet
sextet-none = refl

pub sextet-past : (s : List ℕ) (i : ℕ) → length s ≤ i → 255 ≡ sextet (get_or s i 0)
sextet-past s i h = rw (get_or-eq_default s 0 h, sextet-none)

no_character : in_alphabet 0 ≡ false
no_character = rw sextet-none

-- a sextet is below 64, or it is 255
sextet_known : (c : ℕ) → sextet c < 255 → sextet c < 64
unfolding sextet
sextet_known c k = go (within 65 90 c) (within 97 122 c) (within 48 57 c) (eqb c 43) (eqb c 47) refl refl refl k
  where
    go : (b₁ b₂ b₃ b₄ b₅ : Bool) → within 65 90 c ≡ b₁ → within 97 122 c ≡ b₂ → within 48 57 c ≡ b₃
        → cond b₁ (c - 65) (cond b₂ (c - 71) (cond b₃ (c + 4) (cond b₄ 62 (cond b₅ 63 255)))) < 255
        → cond b₁ (c - 65) (cond b₂ (c - 71) (cond b₃ (c + 4) (cond b₄ 62 (cond b₅ 63 255)))) < 64
    go true b₂ b₃ b₄ b₅ e₁ e₂ e₃ k = let w = from_within 65 90 c e₁ in omega arith
    go false true b₃ b₄ b₅ e₁ e₂ e₃ k = let w = from_within 97 122 c e₂ in omega arith
    go false false true b₄ b₅ e₁ e₂ e₃ k = let w = from_within 48 57 c e₃ in omega arith
    go false false false true b₅ e₁ e₂ e₃ k = omega arith
    go false false false false true e₁ e₂ e₃ k = omega arith
    go false false false false false e₁ e₂ e₃ k = absurd (omega arith)

-- ---- the characters at a place, one by one

module _ (s : List ℕ) (i : ℕ) where
  text_go : sextet (get_or s i 0) < 64 → (j : ℕ) → j ≡ i + 1 → run_at s i ≡ get_or s i 0 ∷ run_at s j
  text_go h j e = rw e (run_go in_alphabet no_character s i (lt-ltb (sextet (get_or s i 0)) 64 h))

  text_stop : 63 < sextet (get_or s i 0) → run_at s i ≡ []
  text_stop h = run_stop in_alphabet no_character s i (le-ltb (sextet (get_or s i 0)) 64 h)

  text_inside : i ≤ length s → i + length (run_at s i) ≤ length s
  text_inside h = omega (arith, run_length in_alphabet (drop i s), length-drop i s)

-- ---- one group

-- the sum tells whether all four are sextets
group_sum : (a b c d : ℕ) → group_of a b c d < 16777216 → a + b + c + d ≤ 252
group_sum a b c d h = elim (dec_lt 252 (a + b + c + d)) [ yes l ↦ absurd (omega (arith, group_past a b c d l)) | no n ↦ omega arith ]

-- four characters of the alphabet, their 24 bits, and a text after them
module _ (w x y z n : ℕ) (t : List ℕ) (e : n ≡ group_of (sextet w) (sextet x) (sextet y) (sextet z)) (h : n < 16777216) where
  small : sextet w + sextet x + sextet y + sextet z ≤ 252
  small = group_sum (sextet w) (sextet x) (sextet y) (sextet z) (omega arith)

  in_group : (sextet w < 64) × (sextet x < 64) × (sextet y < 64) × (sextet z < 64)
  in_group =
      let l = small in
      (sextet_known w (omega arith), sextet_known x (omega arith), sextet_known y (omega arith), sextet_known z (omega arith))

  decode_group : decode (w ∷ x ∷ y ∷ z ∷ t) ≡ three n ++ decode t
  unfolding decode
  decode_group =
      let l = in_group in
      let g = e ∙ sym (group_bits (sextet w) (sextet x) (sextet y) (sextet z) small) in
      let p : sextet w * 4 + sextet x / 16 ≡ n / 65536 = omega arith in
      let q : sextet x % 16 * 16 + sextet y / 4 ≡ n / 256 % 256 = omega arith in
      let r : sextet y % 4 * 64 + sextet z ≡ n % 256 = omega arith in
      cc

  canonical_group : canonical (w ∷ x ∷ y ∷ z ∷ t) ≡ canonical t
  unfolding grouped
  canonical_group =
      let l = in_group in
      canonical-grouped (w ∷ x ∷ y ∷ z ∷ t)
      ∙ rw (lt-ltb (sextet w) 64 l.0, lt-ltb (sextet x) 64 l.1, lt-ltb (sextet y) 64 l.2, lt-ltb (sextet z) 64 l.3, canonical-grouped t)

-- whole groups, and what is after them
pub decode-append : (a b : List ℕ) → length a % 4 ≡ 0 → decode (a ++ b) ≡ decode a ++ decode b
unfolding decode
decode-append [] b h = refl
decode-append (w ∷ []) b h = absurd (omega arith)
decode-append (w ∷ x ∷ []) b h = absurd (omega arith)
decode-append (w ∷ x ∷ y ∷ []) b h = absurd (omega arith)
decode-append (w ∷ x ∷ y ∷ z ∷ a) b h = rw (decode-append a b (omega arith))

-- nothing was decoded yet
pub reached_start : (s : List ℕ) (at : ℕ) (out : List ℕ) (from : ℕ) → at ≤ length s → from ≤ length out → Reached s at out from out at from
unfolding decode
reached_start s at out from h k =
    record {
      done = [];
      groups = 0;
      size = refl;
      text_is = refl;
      canonical_left = refl;
      next_is = omega arith;
      end_is = omega arith;
      inside = h;
      room = k;
      keeps = refl;
      stored = sym (over-nil out from);
    }

-- one group more
module _ (s : List ℕ) (i n : ℕ) (e : n ≡ group_at s i) (h : n < 16777216) where
  four : List ℕ
  four = get_or s i 0 ∷ get_or s (i + 1) 0 ∷ get_or s (i + 2) 0 ∷ get_or s (i + 3) 0 ∷ []

  group_text : run_at s i ≡ get_or s i 0 ∷ get_or s (i + 1) 0 ∷ get_or s (i + 2) 0 ∷ get_or s (i + 3) 0 ∷ run_at s (i + 4)
  group_text =
      let l = in_group (get_or s i 0) (get_or s (i + 1) 0) (get_or s (i + 2) 0) (get_or s (i + 3) 0) n [] e h in
      rw (
        text_go s i l.0 (i + 1) refl,
        text_go s (i + 1) l.1 (i + 2) (omega arith),
        text_go s (i + 2) l.2 (i + 3) (omega arith),
        text_go s (i + 3) l.3 (i + 4) (omega arith),
      )

  group_bytes : decode four ≡ three n
  unfolding four decode
  group_bytes = decode_group (get_or s i 0) (get_or s (i + 1) 0) (get_or s (i + 2) 0) (get_or s (i + 3) 0) n [] e h

  group_canonical : canonical (run_at s i) ≡ canonical (run_at s (i + 4))
  group_canonical =
      ap canonical group_text ∙ canonical_group (get_or s i 0) (get_or s (i + 1) 0) (get_or s (i + 2) 0) (get_or s (i + 3) 0) n (run_at s (i + 4)) e h

  pub reached_more : (at : ℕ) (out₀ : List ℕ) (from : ℕ) (out : List ℕ) (o : ℕ) → Reached s at out₀ from out i o → i + 4 ≤ length s → o + 3 ≤ length out
      → (out' : List ℕ) → out' ≡ over out o (three n) → Reached s at out₀ from out' (i + 4) (o + 3)
  unfolding four
  reached_more at out₀ from out o r hi ho out' w =
      let k : length out' ≡ length out = ap length w ∙ length_over out o (three n) ho in
      let m : length r.done % 4 ≡ 0 = omega (arith, r.size) in
      let b : decode (r.done ++ four) ≡ decode r.done ++ three n = decode-append r.done four m ∙ ap (λ (l : List ℕ). decode r.done ++ l) group_bytes in
      let f : from ≤ length out₀ = omega (arith, r.room, r.keeps, r.end_is) in
      let q : o ≡ from + length (decode r.done) = omega (arith, r.end_is, r.size, length_decode r.done) in
      record {
        done = r.done ++ four;
        groups = r.groups + 1;
        size = omega (arith, r.size, length-append r.done four);
        text_is = r.text_is ∙ ap (λ (l : List ℕ). r.done ++ l) group_text ∙ sym (append_assoc r.done four (run_at s (i + 4)));
        canonical_left = sym group_canonical ∙ r.canonical_left;
        next_is = omega (arith, r.next_is);
        end_is = omega (arith, r.end_is);
        inside = hi;
        room = omega (arith, k);
        keeps = k ∙ r.keeps;
        stored = over_after out₀ out out' from o (decode r.done) (three n) f r.stored q w ∙ ap (over out₀ from) (sym b);
      }

-- ---- no group more

pub stopped_end : (s : List ℕ) (at : ℕ) (out₀ : List ℕ) (from : ℕ) (out : List ℕ) (i o : ℕ) → Reached s at out₀ from out i o → length s < i + 4 → Stopped s out i o
stopped_end s at out₀ from out i o r l = λ (k : 4 ≤ length (run_at s i)). absurd (omega (arith, text_inside s i r.inside))

-- up to the bound for text and room a group stands there and fits; at the bound none does
pub bound_inside : (s : List ℕ) (at : ℕ) (out₀ : List ℕ) (from : ℕ) (out : List ℕ) (i o : ℕ) → Reached s at out₀ from out i o → at ≤ length s → from ≤ length out₀
    → i < at + min ((length s - at) / 4) ((length out₀ - from) / 3) * 4 → (i + 4 ≤ length s) × (o + 3 ≤ length out)
bound_inside s at out₀ from out i o r h k l = (omega (arith, r.next_is), omega (arith, r.next_is, r.end_is, r.keeps))

pub stopped_bound : (s : List ℕ) (at : ℕ) (out₀ : List ℕ) (from : ℕ) (out : List ℕ) (i o : ℕ) → Reached s at out₀ from out i o → at ≤ length s → from ≤ length out₀
    → at + min ((length s - at) / 4) ((length out₀ - from) / 3) * 4 ≤ i → Stopped s out i o
stopped_bound s at out₀ from out i o r h k l = λ (m : 4 ≤ length (run_at s i)).
    omega (arith, text_inside s i r.inside, r.next_is, r.end_is, r.keeps)

-- ---- what a run gives

-- what is decoded is known
module _ (s : List ℕ) (i : ℕ) (out : List ℕ) (o : ℕ) (u : List ℕ) (d : decoded_of (length out) o (run_at s i) ≡ u) where
  gives : (b : Bool) → is_complete (length out) o (run_at s i) ≡ b → (out' : List ℕ) (next end : ℕ) → next ≡ i + length u → end ≡ o + length (decode u)
      → out' ≡ over out o (decode u) → RunGives s i out o out' (record { next = next; end = end; complete = b })
  gives b q out' next end n m w =
      record {
        next_is = n ∙ ap (λ (l : List ℕ). i + length l) (sym d);
        end_is = m ∙ ap (λ (l : List ℕ). o + length (decode l)) (sym d);
        complete_is = sym q;
        buffer_is = w ∙ ap (λ (l : List ℕ). over out o (decode l)) (sym d);
      }

pub decoded_whole : (size from : ℕ) (t : List ℕ) → is_complete size from t ≡ true → decoded_of size from t ≡ t
unfolding decoded_of
decoded_whole size from t c = rw c

decoded_part : (size from : ℕ) (t : List ℕ) → is_complete size from t ≡ false → (n : ℕ) → min (length t / 4) ((size - from) / 3) * 4 ≡ n → decoded_of size from t ≡ take n t
unfolding decoded_of
decoded_part size from t c n e = rw (c, e)

-- so many characters of a text, whole groups of them
part_length : (size from : ℕ) (t : List ℕ) → let n = min (length t / 4) ((size - from) / 3) * 4 in length (take n t) ≡ n
part_length size from t = length-take-le (min (length t / 4) ((size - from) / 3) * 4) t (omega arith)

pub decoded_groups : (size from : ℕ) (t : List ℕ) → is_complete size from t ≡ false → length (decoded_of size from t) % 4 ≡ 0
decoded_groups size from t c = omega (arith, ap length (decoded_part size from t c _ refl), part_length size from t)

pub decoded-most : (size from : ℕ) (t : List ℕ) → is_complete size from t ≡ false → from + length (decode (decoded_of size from t)) + 3 ≤ size
    → length t < length (decoded_of size from t) + 4
decoded-most size from t c h =
    omega (arith, length_decode (decoded_of size from t), ap length (decoded_part size from t c _ refl), part_length size from t)

pub decoding_complete : (t buffer : List ℕ) (at : ℕ)
    → decoding t buffer at
    ≡ cond (is_complete (length buffer) at t) (outcome 0 (length (decode t)) (over buffer at (decode t))) (refused (cond (canonical t) 17 12) buffer)
unfolding is_complete put put_after
decoding_complete t buffer at = go (canonical t) (has_room (length buffer) at (length (decode t)))
  where
    go : (c r : Bool)
        → cond (eqb (cond c 0 12) 0) (cond r (outcome 0 (length (decode t)) (over buffer at (decode t))) (refused 17 buffer)) (refused (cond c 0 12) buffer)
        ≡ cond (c && r) (outcome 0 (length (decode t)) (over buffer at (decode t))) (refused (cond c 17 12) buffer)
    go true true = refl
    go true false = refl
    go false r = refl

pub decoded_begins : (size from : ℕ) (t : List ℕ) → starts_with (decoded_of size from t) t ≡ true
unfolding decoded_of
decoded_begins size from t = go (is_complete size from t)
  where
    begin : (n : ℕ) → starts_with (take n t) t ≡ true
    begin n = ap (starts_with (take n t)) (sym (take-append-drop n t)) ∙ starts_own (take n t) (drop n t)

    go : (b : Bool) → starts_with (cond b t (take (min (length t / 4) ((size - from) / 3) * 4) t)) t ≡ true
    go true = ap (starts_with t) (sym (append-nil t)) ∙ starts_own t []
    go false = begin (min (length t / 4) ((size - from) / 3) * 4)

pub decoded-fits : (size from : ℕ) (t : List ℕ) → from ≤ size → from + length (decode (decoded_of size from t)) ≤ size
unfolding is_complete
decoded-fits size from t h = go (is_complete size from t) refl
  where
    go : (b : Bool) → is_complete size from t ≡ b → from + length (decode (decoded_of size from t)) ≤ size
    go true c =
        let l = leb-true (from + length (decode t)) size (both (canonical t) (has_room size from (length (decode t))) c).1 in
        omega (arith, ap (λ (u : List ℕ). length (decode u)) (decoded_whole size from t c))
    go false c =
        omega (arith, length_decode (decoded_of size from t), ap length (decoded_part size from t c _ refl), part_length size from t)

-- a canonical text that fits is whole, another isn't
is_whole : (size from : ℕ) (t : List ℕ) → canonical t ≡ true → from + length (decode t) ≤ size → is_complete size from t ≡ true
unfolding is_complete
is_whole size from t c h = and-true c (le-leb (from + length (decode t)) size h)

not-canonical : (size from : ℕ) (t : List ℕ) → canonical t ≡ false → is_complete size from t ≡ false
unfolding is_complete
not-canonical size from t c = rw c

no_room : (size from : ℕ) (t : List ℕ) → size < from + length (decode t) → is_complete size from t ≡ false
unfolding is_complete
no_room size from t h = rw (lt-leb (from + length (decode t)) size h) (and-false (canonical t))

-- ---- the end of a run

module _ (s : List ℕ) (i : ℕ) (out : List ℕ) (o : ℕ) where
  -- the text at the place is known, canonical, and fits
  gives_all : (t : List ℕ) → run_at s i ≡ t → canonical t ≡ true → o + length (decode t) ≤ length out → (out' : List ℕ) (next end : ℕ) → next ≡ i + length t
      → end ≡ o + length (decode t) → out' ≡ over out o (decode t) → RunGives s i out o out' (record { next = next; end = end; complete = true })
  gives_all t e c h out' next end n m w =
      let q : is_complete (length out) o (run_at s i) ≡ true = ap (is_complete (length out) o) e ∙ is_whole (length out) o t c h in
      gives s i out o t (decoded_whole (length out) o (run_at s i) q ∙ e) true q out' next end n m w

  -- nothing more is decoded
  gives_none : Stopped s out i o → is_complete (length out) o (run_at s i) ≡ false → RunGives s i out o out (record { next = i; end = o; complete = false })
  unfolding decode
  gives_none st q =
      gives s i out o [] (decoded_part (length out) o (run_at s i) q 0 none) false q out i o (omega arith) (omega arith) (sym (over-nil out o))
    where
      none : min (length (run_at s i) / 4) ((length out - o) / 3) * 4 ≡ 0
      none = elim (dec_lt 3 (length (run_at s i))) [ yes l ↦ omega (arith, st l) | no n ↦ omega arith ]

-- no character, one, two, three, or a whole group that had no room; the sextets are as the code has them
module _ (s : List ℕ) (i : ℕ) (out : List ℕ) (o : ℕ) where
  pub ends_none : o ≤ length out → 63 < sextet (get_or s i 0) → RunGives s i out o out (record { next = i; end = o; complete = true })
  unfolding decode grouped
  ends_none h a =
      gives_all s i out o [] (text_stop s i a) (canonical-grouped []) (omega arith) out i o (omega arith) (omega arith) (sym (over-nil out o))

  module _ (st : Stopped s out i o) (a b : ℕ) (ea : a ≡ sextet (get_or s i 0)) (eb : b ≡ sextet (get_or s (i + 1) 0)) (ha : a < 64) where
    abbrev Stays : Type 0
    Stays = RunGives s i out o out (record { next = i; end = o; complete = false })

    first : run_at s i ≡ get_or s i 0 ∷ run_at s (i + 1)
    first = text_go s i (omega arith) (i + 1) refl

    pub stays_one : 63 < b → Stays
    unfolding grouped
    stays_one hb =
        let e : run_at s i ≡ get_or s i 0 ∷ [] = first ∙ ap {B = List ℕ} (λ l. get_or s i 0 ∷ l) (text_stop s (i + 1) (omega arith)) in
        gives_none s i out o st (not-canonical (length out) o (run_at s i) (ap canonical e ∙ canonical-grouped (get_or s i 0 ∷ [])))

    module _ (c : ℕ) (ec : c ≡ sextet (get_or s (i + 2) 0)) (hb : b < 64) where
      second : run_at s i ≡ get_or s i 0 ∷ get_or s (i + 1) 0 ∷ run_at s (i + 2)
      second = rw (first, text_go s (i + 1) (omega arith) (i + 2) (omega arith))

      text-two : 63 < c → run_at s i ≡ get_or s i 0 ∷ get_or s (i + 1) 0 ∷ []
      text-two hc = rw (second, text_stop s (i + 2) (omega arith))

      pub full_two : 63 < c → length out - o < 1 → Stays
      full_two hc h =
          gives_none s i out o st (no_room (length out) o (run_at s i) (omega (arith, length_decode (run_at s i), ap length (text-two hc))))

      pub ends_two : (out' : List ℕ) → 63 < c → b % 16 ≡ 0 → o + 1 ≤ length out → out' ≡ over out o (one a b)
          → RunGives s i out o out' (record { next = i + 2; end = o + 1; complete = true })
      unfolding decode grouped
      ends_two out' hc z h w =
          gives_all s i out o (get_or s i 0 ∷ get_or s (i + 1) 0 ∷ []) (text-two hc)
          (canonical-grouped (get_or s i 0 ∷ get_or s (i + 1) 0 ∷ [])
          ∙ rw (lt-ltb (sextet (get_or s i 0)) 64 (omega arith), lt-ltb (sextet (get_or s (i + 1) 0)) 64 (omega arith), eq-eqb (sextet (get_or s (i + 1) 0) % 16) 0 (omega arith)))
          h out' (i + 2) (o + 1) refl refl (rw (← ea, ← eb) w)

      pub stays_two : 63 < c → (b % 16 ≡ 0 → ⊥) → Stays
      unfolding grouped
      stays_two hc z =
          gives_none s i out o st
          (not-canonical (length out) o (run_at s i)
          (ap canonical (text-two hc) ∙ canonical-grouped (get_or s i 0 ∷ get_or s (i + 1) 0 ∷ [])
          ∙ rw (ne_eqb (sextet (get_or s (i + 1) 0) % 16) 0 (λ (q : sextet (get_or s (i + 1) 0) % 16 ≡ 0). z (omega arith)))
          (simp and-false)))

      module _ (hc : c < 64) where
        third : run_at s i ≡ get_or s i 0 ∷ get_or s (i + 1) 0 ∷ get_or s (i + 2) 0 ∷ run_at s (i + 3)
        third = rw (second, text_go s (i + 2) (omega arith) (i + 3) (omega arith))

        pub full_three : length out - o < 2 → Stays
        full_three h =
            gives_none s i out o st (no_room (length out) o (run_at s i) (omega (arith, length_decode (run_at s i), ap length third)))

        module _ (d : ℕ) (ed : d ≡ sextet (get_or s (i + 3) 0)) where
          text-three : 63 < d → run_at s i ≡ get_or s i 0 ∷ get_or s (i + 1) 0 ∷ get_or s (i + 2) 0 ∷ []
          text-three hd = rw (third, text_stop s (i + 3) (omega arith))

          -- a whole group stands there: it had no room
          pub full_group : d < 64 → Stays
          full_group hd =
              let l = ap length (rw (text_go s (i + 3) (omega arith) (i + 4) (omega arith)) at third) in
              let m = st (omega arith) in
              gives_none s i out o st (no_room (length out) o (run_at s i) (omega (arith, length_decode (run_at s i))))

          pub ends_three : (out' : List ℕ) → 63 < d → c % 4 ≡ 0 → o + 2 ≤ length out → out' ≡ over out o (two a b c)
              → RunGives s i out o out' (record { next = i + 3; end = o + 2; complete = true })
          unfolding decode grouped
          ends_three out' hd z h w =
              gives_all s i out o (get_or s i 0 ∷ get_or s (i + 1) 0 ∷ get_or s (i + 2) 0 ∷ []) (text-three hd)
              (canonical-grouped (get_or s i 0 ∷ get_or s (i + 1) 0 ∷ get_or s (i + 2) 0 ∷ [])
              ∙ rw (
                lt-ltb (sextet (get_or s i 0)) 64 (omega arith),
                lt-ltb (sextet (get_or s (i + 1) 0)) 64 (omega arith),
                lt-ltb (sextet (get_or s (i + 2) 0)) 64 (omega arith),
                eq-eqb (sextet (get_or s (i + 2) 0) % 4) 0 (omega arith),
              ))
              h out' (i + 3) (o + 2) refl refl (rw (← ea, ← eb, ← ec) w)

          pub stays_three : 63 < d → (c % 4 ≡ 0 → ⊥) → Stays
          unfolding grouped
          stays_three hd z =
              gives_none s i out o st
              (not-canonical (length out) o (run_at s i)
              (ap canonical (text-three hd) ∙ canonical-grouped (get_or s i 0 ∷ get_or s (i + 1) 0 ∷ get_or s (i + 2) 0 ∷ [])
              ∙ rw (ne_eqb (sextet (get_or s (i + 2) 0) % 4) 0 (λ (q : sextet (get_or s (i + 2) 0) % 4 ≡ 0). z (omega arith)))
              (simp and-false)))

-- no room at all, and no text at all
pub gives_outside : (s : List ℕ) (at : ℕ) (out : List ℕ) (from : ℕ) → length out < from → RunGives s at out from out (record { next = at; end = from; complete = false })
gives_outside s at out from h =
    gives_none s at out from (λ (k : 4 ≤ length (run_at s at)). omega arith) (no_room (length out) from (run_at s at) (omega arith))

pub gives_past : (s : List ℕ) (at : ℕ) (out : List ℕ) (from : ℕ) → from ≤ length out → length s < at → RunGives s at out from out (record { next = at; end = from; complete = true })
unfolding decode grouped
gives_past s at out from k h =
    gives_all s at out from [] (run_past in_alphabet s at (omega arith)) (canonical-grouped []) (omega arith) out at from (omega arith) (omega arith) (sym (over-nil out from))

-- ---- the whole run: the groups, and then what is left

module _ (s : List ℕ) (at : ℕ) (out₀ : List ℕ) (from : ℕ) (out : List ℕ) (i o : ℕ) (p : Reached s at out₀ from out i o) where
  rest : List ℕ
  rest = run_at s i

  bytes_are : decode (run_at s at) ≡ decode p.done ++ decode rest
  unfolding rest
  bytes_are = ap decode p.text_is ∙ decode-append p.done (run_at s i) (omega (arith, p.size))

  counted : o ≡ from + length (decode p.done)
  counted = omega (arith, p.end_is, p.size, length_decode p.done)

  same_whole : is_complete (length out) o rest ≡ is_complete (length out₀) from (run_at s at)
  unfolding is_complete rest
  same_whole =
      let n : o + length (decode (run_at s i)) ≡ from + length (decode (run_at s at)) =
      omega (arith, counted, ap length bytes_are, length-append (decode p.done) (decode (run_at s i))) in
      rw (p.canonical_left, p.keeps, n)

  join : (u : List ℕ) → decode (p.done ++ u) ≡ decode p.done ++ decode u
  join u = decode-append p.done u (omega (arith, p.size))

  -- what is decoded of the rest, after the groups
  onward : (u : List ℕ) → decoded_of (length out) o rest ≡ u → decoded_of (length out₀) from (run_at s at) ≡ p.done ++ u → (out' : List ℕ) (r : Run)
      → RunGives s i out o out' r → RunGives s at out₀ from out' r
  unfolding rest
  onward u d e out' r q =
      let l = length-append p.done u in
      let m = ap length (join u) ∙ length-append (decode p.done) (decode u) in
      let n : r.next ≡ i + length u = q.next_is ∙ ap (λ (v : List ℕ). i + length v) d in
      let k : r.end ≡ o + length (decode u) = q.end_is ∙ ap (λ (v : List ℕ). o + length (decode v)) d in
      let w : out' ≡ over out o (decode u) = q.buffer_is ∙ ap (λ (v : List ℕ). over out o (decode v)) d in
      let f : from ≤ length out₀ = omega (arith, p.room, p.keeps, p.end_is) in
      gives s at out₀ from (p.done ++ u) e r.complete (sym (q.complete_is ∙ same_whole)) out' r.next r.end (omega (arith, n, l, p.size, p.next_is))
      (omega (arith, k, m, counted)) (over_after out₀ out out' from o (decode p.done) (decode u) f p.stored counted w ∙ ap (over out₀ from) (sym (join u)))

  pub reached_run : Stopped s out i o → (out' : List ℕ) (r : Run) → RunGives s i out o out' r → RunGives s at out₀ from out' r
  unfolding rest
  reached_run st out' r q = go (is_complete (length out) o (run_at s i)) refl
    where
      l : length (run_at s at) ≡ p.groups * 4 + length (run_at s i)
      l = ap length p.text_is ∙ length-append p.done (run_at s i) ∙ ap (λ (k : ℕ). k + length (run_at s i)) p.size

      none : min (length (run_at s i) / 4) ((length out - o) / 3) * 4 ≡ 0
      none = elim (dec_lt 3 (length (run_at s i))) [ yes k ↦ omega (arith, st k) | no k ↦ omega arith ]

      all : min (length (run_at s at) / 4) ((length out₀ - from) / 3) * 4 ≡ length p.done
      all =
          elim (dec_lt 3 (length (run_at s i))) [
            | yes k ↦ omega (arith, st k, l, p.size, p.end_is, p.keeps, p.room)
            | no k ↦ omega (arith, l, p.size, p.end_is, p.keeps, p.room)
          ]

      go : (b : Bool) → is_complete (length out) o (run_at s i) ≡ b → RunGives s at out₀ from out' r
      go true e =
          onward (run_at s i) (decoded_whole (length out) o (run_at s i) e)
          (decoded_whole (length out₀) from (run_at s at) (sym same_whole ∙ e) ∙ p.text_is) out' r q
      go false e =
          onward [] (decoded_part (length out) o (run_at s i) e 0 none)
          (decoded_part (length out₀) from (run_at s at) (sym same_whole ∙ e) (length p.done) all
          ∙ ap (take (length p.done)) p.text_is ∙ take_at p.done (run_at s i) (length p.done) refl ∙ sym (append-nil p.done))
          out' r q

-- ---- for callers: a run that is whole, and one that isn't

-- the characters are a canonical text, and their bytes stand in the buffer
pub record Ran (s : List ℕ) (at : ℕ) (out₀ : List ℕ) (from : ℕ) (out : List ℕ) (next end : ℕ) : Type 0 where
  pub canonical_is : canonical (run_at s at) ≡ true
  pub next_is : next ≡ at + length (run_at s at)
  pub end_is : end ≡ from + length (decode (run_at s at))
  pub stored : out ≡ over out₀ from (decode (run_at s at))

pub ran : (s : List ℕ) (at : ℕ) (out₀ : List ℕ) (from : ℕ) (out : List ℕ) (r : Run) → RunGives s at out₀ from out r → r.complete ≡ true
    → Ran s at out₀ from out r.next r.end
unfolding is_complete
ran s at out₀ from out r q w =
    let e : is_complete (length out₀) from (run_at s at) ≡ true = sym q.complete_is ∙ w in
    let d = decoded_whole (length out₀) from (run_at s at) e in
    record {
      canonical_is = (both (canonical (run_at s at)) (has_room (length out₀) from (length (decode (run_at s at)))) e).0;
      next_is = q.next_is ∙ ap (λ (l : List ℕ). at + length l) d;
      end_is = q.end_is ∙ ap (λ (l : List ℕ). from + length (decode l)) d;
      stored = q.buffer_is ∙ ap (λ (l : List ℕ). over out₀ from (decode l)) d;
    }

pub not_whole : (size from : ℕ) (t : List ℕ) → is_complete size from t ≡ false → canonical t ≡ true → size < from + length (decode t)
unfolding is_complete
not_whole size from t e c = leb-false (from + length (decode t)) size (rw c at e)

-- ---- a canonical text, whole

-- its groups are of the alphabet
pub group_in : (t : List ℕ) → canonical t ≡ true → (i : ℕ) → i + 4 ≤ length t → group_at t i < 16777216
group_in t e i h =
    let a = sextet_at t e i (omega arith) in
    let b = sextet_at t e (i + 1) (omega arith) in
    let c = sextet_at t e (i + 2) (omega arith) in
    let d = sextet_at t e (i + 3) (omega arith) in
    omega (arith, group_bits (sextet (get_or t i 0)) (sextet (get_or t (i + 1) 0)) (sextet (get_or t (i + 2) 0)) (sextet (get_or t (i + 3) 0)) (omega arith))

-- a group more of it, and two
module _ (t : List ℕ) (c : canonical t ≡ true) (out₀ : List ℕ) (fit : length (decode t) ≤ length out₀) where
  pub group_room : (out : List ℕ) (i o : ℕ) → Reached t 0 out₀ 0 out i o → i + 4 ≤ length t → o + 3 ≤ length out
  group_room out i o r h = omega (arith, r.next_is, r.end_is, r.keeps, length_decode t)

  pub group_reached : (out : List ℕ) (i o : ℕ) → Reached t 0 out₀ 0 out i o → i + 4 ≤ length t → (out' : List ℕ) → out' ≡ over out o (three (group_at t i))
      → Reached t 0 out₀ 0 out' (i + 4) (o + 3)
  group_reached out i o r h out' w = reached_more t i (group_at t i) refl (group_in t c i h) 0 out₀ 0 out o r h (group_room out i o r h) out' w

  pub pair_reached : (out : List ℕ) (i o : ℕ) → Reached t 0 out₀ 0 out i o → i + 8 ≤ length t → (out₁ out₂ : List ℕ) → out₁ ≡ over out o (three (group_at t i))
      → out₂ ≡ over out₁ (o + 3) (three (group_at t (i + 4))) → Reached t 0 out₀ 0 out₂ (i + 8) (o + 6)
  pair_reached out i o r h out₁ out₂ w₁ w₂ =
      let ei : i + 4 + 4 ≡ i + 8 = omega arith in
      let eo : o + 3 + 3 ≡ o + 6 = omega arith in
      rw (ei, eo) at (group_reached out₁ (i + 4) (o + 3) (group_reached out i o r (omega arith) out₁ w₁) (omega arith) out₂ w₂)

pub all-decoded : (t : List ℕ) → canonical t ≡ true → (out out' : List ℕ) → length (decode t) ≤ length out → (r : Run) → RunGives t 0 out 0 out' r
    → out' ≡ decode t ++ drop (length (decode t)) out
all-decoded t c out out' h r q =
    let e : run_at t 0 ≡ t = ap (λ (l : List ℕ). run_at l 0) (sym (append-nil t)) ∙ run_on in_alphabet t [] (canonical_alphabet t c) refl in
    let d : decoded_of (length out) 0 (run_at t 0) ≡ t = ap (decoded_of (length out) 0) e ∙ decoded_whole (length out) 0 t (is_whole (length out) 0 t c (omega arith)) in
    q.buffer_is ∙ ap (λ (l : List ℕ). over out 0 (decode l)) d ∙ over_start out (decode t)
