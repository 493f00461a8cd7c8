-- The steps of the listing: the bytes that a state stands for, what it keeps, and the row of the last line.
-- Assumes nothing.
use Prim.Native.Nat.{ℕ, suc, ◌+◌, ◌-◌, ◌≤◌, ◌<◌, min}
use mathlib.Core.Bool.{Bool, true, false, cond}
use mathlib.Core.List.{List, [], ◌∷◌, ◌++◌, append-nil}
use mathlib.Core.Path.{◌≡◌, refl, sym, ap, ◌∙◌}
use native.Mathlib.Omega.{arith}
use borrow.Author.Tests.{le-leb, lt-leb}
use lib.ListN.{length, take, drop, length-take, length-drop}
use lib.Seq.{take-take, drop-drop}
use borrow.Rule.Slice.PartMut.{put_mid}
use Rattle.std.proofs.Common.{rules, Result, Ok, Err}
use Rattle.std.proofs.lemmas.Slice.{overwrites}
use Rattle.refusals.specs.Numbers.{number_of}
use Rattle.refusals.specs.declared.Refusal.{Refusal}
use Rattle.refusals.specs.declared.Refusal.TheVariants.{NoRoom}
use Rattle.refusals.proofs.Numbers.{number_pos}
use Rattle.text.specs.Text.{line_feed, has, find, cut, next_at}
use Rattle.text.specs.declared.units.Chars.{Chars}
use Rattle.text.specs.Place.{Outcome, outcome, refused, chars_answered, has_room, over, put}
use Rattle.text.proofs.Scanning.{find-le}
use Rattle.text.proofs.Splitting.{cut_before, found, unfound, cut_to}
use Rattle.text.proofs.Prefixes.{take_min, kept_count, kept_over}
use Rattle.accounts.specs.Lines.{last_line, line_answer}
use Rattle.accounts.specs.Listing.{row_text, rows_from, next_line}
use Rattle.accounts.specs.Feeding.{most_kept, held_of, fed, row_fed, next_fed}
use Rattle.accounts.specs.FeedingSteps.{Held}
use Rattle.accounts.specs.declared.line.Answer.{Answer}
use Rattle.accounts.specs.declared.listing.Listed.{Listed}
use Rattle.accounts.specs.declared.listing.Listed.TheVariants.{Row, UsedUp}

-- ---- the bytes that a state stands for

pub held_by : (d : List ℕ) (kept n e : ℕ) → n ≡ min kept (length d) → e ≡ next_at line_feed (take n d) 0 → Held d kept e
unfolding held_of
held_by d kept n e q r =
    let t : take n d ≡ take kept d = ap (λ (k : ℕ). take k d) q ∙ take_min d kept in
    let f : e ≡ find line_feed (take kept d) = r ∙ (let z : next_at line_feed (take n d) 0 ≡ find line_feed (take n d) = omega arith in z) ∙ ap (find line_feed) t in
    let l : length (take kept d) ≡ min kept (length d) = length-take kept d in
    let b : e ≤ length (take kept d) = omega (arith, find-le line_feed (take kept d)) in
    record {
      bytes = sym (cut_before line_feed (take kept d) ∙ ap (λ (k : ℕ). take k (take kept d)) (sym f) ∙ take-take e kept d (omega arith));
      inside = omega arith;
    }

-- ---- bytes copied

-- two texts, one after the other, read back
pub joined : (out begun more y₁ y₂ : List ℕ) → y₁ ≡ begun → y₂ ≡ more → length begun + length more ≤ length out
    → take (length begun + length more) (put_mid (length begun) (length begun + length more - length begun) (put_mid 0 (length begun) out y₁) y₂) ≡ begun ++ more
joined out begun more y₁ y₂ e₁ e₂ h = rw (e₁, e₂) (search (rules, overwrites))

-- as many bytes more, after the first `held`, as there is room for
pub kept_copied : (d ys more : List ℕ) (held count : ℕ) → length d ≡ most_kept → held ≤ most_kept → count ≡ min (length more) (most_kept - held) → ys ≡ take count more
    → (held + count ≡ held + length (take (most_kept - held) more)) × (put_mid held (held + count - held) d ys ≡ over d held (take (most_kept - held) more))
kept_copied d ys more held count l h q e =
    let t = take (most_kept - held) more in
    let k : count ≡ min (most_kept - held) (length more) = omega arith in
    let w : ys ≡ t = e ∙ ap (λ (n : ℕ). take n more) k ∙ take_min more (most_kept - held) in
    let n : held + count - held ≡ length t = omega (arith, length-take (most_kept - held) more) in
    (omega (arith, n), (λ i. take held d ++ (w i ++ drop (n i) (drop held d))) ∙ ap (λ (v : List ℕ). take held d ++ (t ++ v)) (drop-drop (length t) held d))

-- ---- the end of the input

last_row : (n : ℕ) (u : List ℕ) → (length u ≡ 0 → ⊥) → rows_from n (last_line u) ≡ row_text n (line_answer u)
last_row n [] z = absurd (z refl)
last_row n (a ∷ u) z = append-nil (row_text n (line_answer (a ∷ u)))

pub end_nothing : (d : List ℕ) (kept count n : ℕ) → Held d kept count → count ≡ 0 → rows_from n (last_line (held_of d kept)) ≡ []
end_nothing d kept count n h z = ap (λ (u : List ℕ). rows_from n (last_line u)) (sym h.bytes ∙ ap (λ (k : ℕ). take k d) z)

pub end_row : (d : List ℕ) (kept count n : ℕ) → Held d kept count → (count ≡ 0 → ⊥) → (a : Answer) → a ≡ line_answer (take count d)
    → rows_from n (last_line (held_of d kept)) ≡ row_text n a
end_row d kept count n h z a e =
    let l : length (held_of d kept) ≡ count = ap length (sym h.bytes) ∙ length-take count d ∙ (let q : min count (length d) ≡ count = omega (arith, h.inside) in q) in
    last_row n (held_of d kept) (λ (k : length (held_of d kept) ≡ 0). z (sym l ∙ k)) ∙ ap (row_text n) (sym (e ∙ ap line_answer h.bytes))

-- ---- a row, by the room

-- only no room has its number
no_room : (r : Refusal) → number_of r ≡ 17 → r ≡ NoRoom
no_room r e = search rules

module _ (d buf left t : List ℕ) (n place at : ℕ) where
  pub row_full : (r : Refusal) → chars_answered (Err r) left ≡ put buf at t → fed (Err r) d left ≡ row_fed n t place d buf at
  unfolding put
  row_full r e = go (has_room (length buf) at (length t)) e
    where
      go : (b : Bool) → chars_answered (Err r) left ≡ cond b (outcome 0 (length t) (over buf at t)) (refused 17 buf)
          → fed (Err r) d left ≡ cond b (fed (Ok (Row place (record { 0 = length t }) (next_line n))) d (over buf at t)) (fed (Err NoRoom) d buf)
      go true e = let z : number_of r ≡ 0 = ap (λ (o : Outcome). o.number) e in absurd (omega (arith, number_pos r))
      go false e =
          let q : r ≡ NoRoom = no_room r (ap (λ (o : Outcome). o.number) e) in
          let l : left ≡ buf = ap (λ (o : Outcome). o.buffer) e in
          λ i. fed (Err (q i)) d (l i)

  pub row_done : (count : Chars) → chars_answered (Ok count) left ≡ put buf at t → (next : ℕ) → next ≡ next_line n
      → fed (Ok (Row place count next)) d left ≡ row_fed n t place d buf at
  unfolding put
  row_done count e next q = go (has_room (length buf) at (length t)) e
    where
      go : (b : Bool) → chars_answered (Ok count) left ≡ cond b (outcome 0 (length t) (over buf at t)) (refused 17 buf)
          → fed (Ok (Row place count next)) d left ≡ cond b (fed (Ok (Row place (record { 0 = length t }) (next_line n))) d (over buf at t)) (fed (Err NoRoom) d buf)
      go true e =
          let c : count.0 ≡ length t = ap (λ (o : Outcome). o.count) e in
          let l : left ≡ over buf at t = ap (λ (o : Outcome). o.buffer) e in
          λ i. fed (Ok (Row place (record { 0 = c i }) (q i))) d (l i)
      go false e = let k : ◌≡◌ {A = ℕ} 0 17 = ap (λ (o : Outcome). o.number) e in absurd (omega arith)

-- ---- the next line of a part

module _ (d : List ℕ) (kept held n : ℕ) (part : List ℕ) (from e : ℕ) (buf : List ℕ) where
  pub next_row : (left : List ℕ) (at : ℕ) (r : Result Listed Refusal) (a : Answer) → Held d kept held → e ≡ next_at line_feed part from → e < length part
      → a ≡ line_answer (take held d ++ take (e - from) (drop from part))
      → fed r d left ≡ row_fed n (row_text n a) (e + 1) d buf at → fed r d left ≡ next_fed d kept n part from buf at
  unfolding next_fed
  next_row left at r a h q l b f =
      let s = drop from part in
      let there : has line_feed s ≡ true = found line_feed s (omega (arith, length-drop from part)) in
      let line : take (e - from) s ≡ (cut line_feed s).0 = cut_to line_feed part from e q in
      let answer : a ≡ line_answer (held_of d kept ++ (cut line_feed s).0) = b ∙ (λ i. line_answer (h.bytes i ++ line i)) in
      let place : e + 1 ≡ suc (from + find line_feed s) = omega arith in
      rw there (f ∙ (λ i. row_fed n (row_text n (answer i)) (place i) d buf at))

  pub next_used : (d₁ : List ℕ) (at more : ℕ) (rest : List ℕ) → at ≤ length buf → length d ≡ most_kept → Held d kept held → e ≡ next_at line_feed part from → length part ≤ e → rest ≡ drop from part
      → more ≡ held + length (take (most_kept - held) rest) → d₁ ≡ over d held (take (most_kept - held) rest)
      → fed (Ok (UsedUp more)) d₁ buf ≡ next_fed d kept n part from buf at
  unfolding next_fed
  next_used d₁ at more rest inside l h q g r m o =
      let s = drop from part in
      let none : has line_feed s ≡ false = unfound line_feed s (omega (arith, length-drop from part)) in
      let u : take most_kept (take held d ++ s) ≡ take most_kept (held_of d kept ++ s) = ap (λ (v : List ℕ). take most_kept (v ++ s)) h.bytes in
      let i = h.inside in
      let count : more ≡ length (take most_kept (held_of d kept ++ s)) = m ∙ ap (λ (v : List ℕ). held + length (take (most_kept - held) v)) r ∙ kept_count most_kept d s held (omega arith) i ∙ ap length u in
      let array : d₁ ≡ over d 0 (take most_kept (held_of d kept ++ s)) = o ∙ ap (λ (v : List ℕ). over d held (take (most_kept - held) v)) r ∙ kept_over most_kept d s held (omega arith) i ∙ ap (over d 0) u in
      rw (none, le-leb (at + 0) (length buf) (omega arith)) (λ i. fed (Ok (UsedUp (count i))) (array i) buf)

  pub next_past : (at : ℕ) → e ≡ next_at line_feed part from → length part ≤ e → length buf < at → fed (Err NoRoom) d buf ≡ next_fed d kept n part from buf at
  unfolding next_fed
  next_past at q g outside =
      rw (unfound line_feed (drop from part) (omega (arith, length-drop from part)), lt-leb (at + 0) (length buf) (omega arith))
