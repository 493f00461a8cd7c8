-- What the writer's steps need: texts put one after the other, byte strings by their lengths, and the whole string.
-- Assumes nothing.
use Prim.Native.Nat.{ℕ, ◌+◌, ◌-◌, ◌^◌, ◌<◌, ◌≤◌}
use mathlib.Core.Bool.{true, false, Bool}
use mathlib.Core.List.{List, [], ◌∷◌, ◌++◌}
use mathlib.Core.Option.{some}
use mathlib.Core.Path.{◌≡◌, refl, sym, ◌∙◌, ap}
use native.Mathlib.Omega.{arith}
use lib.ListN.{length, take, drop}
use borrow.Rule.Slice.PartMut.{put_mid}
use Rattle.std.specs.Prelude.{◌==◌}
use Rattle.std.specs.Prelude.{Result}
use Rattle.std.specs.Result.{IsOk}
use Rattle.refusals.specs.declared.Refusal.{Refusal}
use Rattle.text.specs.Place.{has_room, Wrote, put, over, outcome, answered, refused}
use Rattle.text.specs.Rows.{first_number}
use Rattle.text.proofs.Writing.{put_clear, put_refused}
use Rattle.text.proofs.Writers.{Asked, writer_full, writer_room, writer_over}
use Rattle.text.proofs.Wrote.{AllFit, Chain, first_wrote, next_wrote, next_put, next_counted}
use Rattle.refusals.specs.Numbers.{number_of}
use Rattle.refusals.specs.declared.Refusal.{Refusal}
use Rattle.b64.specs.B64.{encode}
use Rattle.table.specs.Limits.{Profile, edition_two, longest_permitted}
use Rattle.profile.specs.Fields.{FieldSet, write_bytes}
use Rattle.profile.specs.Writer.{column_rows, writer_number, formatted}
use Rattle.profile.specs.Entries.{writing}
use Rattle.profile.specs.PieceTexts.{pieces_text, pieces_length}
use Rattle.profile.proofs.JudgeLaws.{never_zero}
use Rattle.profile.proofs.Allows.{here, allowed}
use Rattle.profile.proofs.Texts.{formatted_is, formatted-length}
use Rattle.profile.proofs.Lengths.{most_room}

-- ---- texts, each put after the one before it

-- from its place on
pub two_put : {d d₁ d₂ t : List ℕ} {n number count : ℕ} (u : List ℕ) → length d < 2 ^ 64 → length (t ++ u) ≤ length d
    → Wrote t d d₁ n → outcome number count d₂ ≡ put d₁ n u → Chain d (t ++ u) [] d₂ (n + count)
two_put {d} {d₁} {d₂} {t} u s r first second =
    let fits : AllFit d t (u ∷ []) = record { room = r; small = s } in
    next_put (first_wrote fits first) second

-- where they fit, the second writer counts
pub two_counted : {A : Type 0} (size : A → ℕ) {d d₁ t : List ℕ} {n : ℕ} (d₂ u : List ℕ) → length d < 2 ^ 64 → length (t ++ u) ≤ length d → Wrote t d d₁ n
    → (w : Result A Refusal) → answered size w d₂ ≡ put d₁ n u → IsOk w
two_counted size {d} {d₁} {t} d₂ u s r first w second =
    let fits : AllFit d t (u ∷ []) = record { room = r; small = s } in
    next_counted (first_wrote fits first) size w d₂ second

-- at the start of what is left
pub three_wrote : {d d₁ d₂ d₃ t u v : List ℕ} {n m k : ℕ} → length d < 2 ^ 64 → length ((t ++ u) ++ v) ≤ length d → Wrote t d d₁ n
    → Wrote u (take (length d₁ - n) (drop n d₁)) d₂ m
    → (let x = put_mid n (length d₁ - n) d₁ d₂ in Wrote v (take (length x - (n + m)) (drop (n + m) x)) d₃ k)
    → (let x = put_mid n (length d₁ - n) d₁ d₂ in Wrote ((t ++ u) ++ v) d (put_mid (n + m) (length x - (n + m)) x d₃) (n + m + k))
three_wrote {d} {d₁} {d₂} {d₃} {t} {u} {v} s r first second third =
    let fits : AllFit d t (u ∷ v ∷ []) = record { room = r; small = s } in
    (next_wrote (next_wrote (first_wrote fits first) second) third).wrote

-- ---- byte strings by their lengths

-- a byte string that is not empty is written
pub some_bytes : (bs : List ℕ) → false ≡ (length bs == 0) → write_bytes bs ≡ some (encode bs)
some_bytes [] n = cc
some_bytes (b ∷ bs) n = refl

-- ---- the whole string, by the column r of its id

module _ (f : FieldSet) (r : Profile) (q : r ≡ here edition_two f) where
  number_by : writer_number edition_two f ≡ first_number (column_rows r f)
  unfolding writer_number
  number_by = ap (λ (k : Profile). first_number (column_rows k f)) (sym q)

  text_by : formatted edition_two f ≡ pieces_text r f
  text_by = formatted_is edition_two f ∙ ap (λ (k : Profile). pieces_text k f) (sym q)

  length_by : length (formatted edition_two f) ≡ pieces_length r f
  length_by = formatted-length edition_two f ∙ ap (λ (k : Profile). pieces_length k f) (sym q)

  -- a row applies
  pub write_refused : (e : Refusal) → number_of e ≡ first_number (column_rows r f) → (buf : List ℕ) (at : ℕ)
      → refused (number_of e) buf ≡ writing edition_two f buf at
  unfolding writing
  write_refused e h buf at =
      put_refused buf at (formatted edition_two f) (writer_number edition_two f) (number_of e) (number_by ∙ sym h) (omega (arith, never_zero e))

  -- none does
  module _ (z : 0 ≡ first_number (column_rows r f)) where
    clear_by : writer_number edition_two f ≡ 0
    clear_by = number_by ∙ sym z

    pub fits_room : pieces_length r f ≤ longest_permitted
    fits_room = omega (arith, length_by, most_room f (allowed edition_two f clear_by))

    module _ (buf : List ℕ) (at count : ℕ) (k : count ≡ pieces_length r f) (b : Bool) (e : b ≡ has_room (length buf) at count) where
      -- the room is asked for by the length that the column says
      asked : Asked buf at (formatted edition_two f) count b
      asked = record { counted = k ∙ sym length_by; answered = e }

      writing_clear : put buf at (formatted edition_two f) ≡ writing edition_two f buf at
      unfolding writing
      writing_clear = sym (put_clear buf at (formatted edition_two f) (writer_number edition_two f) clear_by)

      pub write_full : b ≡ false → refused 17 buf ≡ writing edition_two f buf at
      write_full h = writer_full asked h ∙ writing_clear

      pub write_room : b ≡ true → length (pieces_text r f) ≤ length (take (length buf - at) (drop at buf))
      write_room h = rw text_by at (writer_room asked h)

      pub write_done : b ≡ true → (ys : List ℕ) (n : ℕ) → Wrote (pieces_text r f) (take (length buf - at) (drop at buf)) ys n
          → outcome 0 count (put_mid at (length buf - at) buf ys) ≡ writing edition_two f buf at
      write_done h ys n w = writer_over asked h ys (w.left ∙ ap (over (take (length buf - at) (drop at buf)) 0) (sym text_by)) ∙ writing_clear
