-- The writer of braced texts: its number row by row, and the text that it makes in an array of its own.
-- Assumes nothing.
use Prim.Native.Nat.{ℕ, ◌≤◌, ◌<◌}
use mathlib.Core.Bool.{Bool, true, false, cond}
use mathlib.Core.List.{List, [], ◌∷◌, ◌++◌}
use mathlib.Core.Option.{some}
use mathlib.Core.Path.{◌≡◌, refl, sym, ◌∙◌, ap}
use native.Mathlib.Omega.{arith}
use lib.Dec.{eqb}
use lib.ListN.{length, take, drop, set}
use lib.Seq.{take-append_seam}
use borrow.Author.Tests.{eqb-true, eqb-false}
use Rattle.refusals.specs.Numbers.{number_of}
use Rattle.refusals.specs.declared.Refusal.{Refusal}
use Rattle.refusals.proofs.Numbers.{number_pos}
use Rattle.text.specs.Text.{maybe}
use Rattle.text.specs.Place.{Outcome, outcome, refused, put}
use Rattle.text.specs.Rows.{row}
use Rattle.text.proofs.Over.{over_start}
use Rattle.text.proofs.Rows.{rows_stop, rows_next}
use Rattle.text.proofs.Writing.{after_number, after_counted, after_done, put_refused, put_clear}
use Rattle.table.specs.Limits.{Profile, edition_two}
use Rattle.profile.specs.Fields.{FieldSet}
use Rattle.profile.specs.Writer.{writer_rows, writer_number, formatted}
use Rattle.profile.specs.Entries.{writing}
use Rattle.profile.proofs.JudgeLaws.{never_zero}
use Rattle.directory.specs.Braced.{braced_text, longest_braced}
use Rattle.directory.specs.BracedSteps.{prefix_length}
use Rattle.directory.specs.Entries.{is_directory_id, is_id_alone, directory_writer_number, directory_formatted, directory_writing}
use Rattle.directory.proofs.Prefixes.{dollar-length, braced_dollar, braced_marked}
use Rattle.directory.proofs.Texts.{alone_length, more_length, name-length, spelled, at_most}

-- ---- the number

module _ (e : List Profile) (f : FieldSet) where
  pub number_other : is_directory_id f.numbers.id ≡ false → directory_writer_number e f ≡ 24
  unfolding directory_writer_number
  number_other h = rw h

  module _ (h : is_directory_id f.numbers.id ≡ true) where
    pub number_row_lem : (n : ℕ) → n ≡ writer_number e f → (n ≡ 0 → ⊥) → directory_writer_number e f ≡ n
    unfolding directory_writer_number writer_number
    number_row_lem n q z = rw h (rows_stop (writer_rows e f) (row 24 (is_id_alone e f) ∷ []) n q z)

    pub number_clear : writer_number e f ≡ 0 → directory_writer_number e f ≡ cond (is_id_alone e f) 24 0
    unfolding directory_writer_number writer_number
    number_clear z = rw h (rows_next (writer_rows e f) (row 24 (is_id_alone e f) ∷ []) (writer_number e f) refl refl z)

-- the text of fields whose string has one
pub formatted_is : (e : List Profile) (f : FieldSet) (t : List ℕ) → braced_text (formatted e f) ≡ some t → directory_formatted e f ≡ t
unfolding directory_formatted
formatted_is e f t q = ap (maybe [] (λ (u : List ℕ). u)) q

-- fields whose number is 0: of one of the two ids, clear for the writer, and not written as the id alone
pub record NotRefused (f : FieldSet) : Type 0 where
  pub id : is_directory_id f.numbers.id ≡ true
  pub row : writer_number edition_two f ≡ 0
  pub more : is_id_alone edition_two f ≡ false

pub number_zero : (f : FieldSet) → directory_writer_number edition_two f ≡ 0 → NotRefused f
number_zero f z = by_id (is_directory_id f.numbers.id) refl
  where
    by_text : is_directory_id f.numbers.id ≡ true → writer_number edition_two f ≡ 0 → (b : Bool) → is_id_alone edition_two f ≡ b → NotRefused f
    by_text h r true a = absurd (omega (arith, number_clear edition_two f h r ∙ ap (λ (b : Bool). cond b 24 0) a))
    by_text h r false a = record { id = h; row = r; more = a }

    by_row : is_directory_id f.numbers.id ≡ true → (b : Bool) → eqb (writer_number edition_two f) 0 ≡ b → NotRefused f
    by_row h true q = by_text h (eqb-true (writer_number edition_two f) 0 q) (is_id_alone edition_two f) refl
    by_row h false q =
        let n = eqb-false (writer_number edition_two f) 0 q in
        absurd (n (sym (number_row_lem edition_two f h (writer_number edition_two f) refl n) ∙ z))

    by_id : (b : Bool) → is_directory_id f.numbers.id ≡ b → NotRefused f
    by_id true h = by_row h (eqb (writer_number edition_two f) 0) refl
    by_id false h = absurd (omega (arith, number_other edition_two f h))

-- then its text is that of the string, and as long
pub text_is : (f : FieldSet) → NotRefused f → braced_text (formatted edition_two f) ≡ some (directory_formatted edition_two f)
text_is f h = let (t, q) = spelled f h.id h.more in q ∙ ap some (sym (formatted_is edition_two f t q))

pub text-length : (f : FieldSet) → NotRefused f → length (directory_formatted edition_two f) ≡ length (formatted edition_two f)
text-length f h =
    let t = directory_formatted edition_two f in
    (dollar-length t (formatted edition_two f) (braced_dollar (formatted edition_two f) t (text_is f h))).0

pub braced_most : (f : FieldSet) → directory_writer_number edition_two f ≡ 0 → length (directory_formatted edition_two f) ≤ longest_braced
braced_most f z = let h = number_zero f z in omega (arith, text-length f h, at_most f h.id h.row)

-- ---- as the code has it: the string in an array, whose length is that of the longest

module _ (f : FieldSet) where
  -- refused with a number
  stopped : (buffer : List ℕ) (at n : ℕ) → directory_writer_number edition_two f ≡ n → 0 < n → refused n buffer ≡ directory_writing edition_two f buffer at
  unfolding directory_writing
  stopped buffer at n q z = put_refused buffer at (directory_formatted edition_two f) (directory_writer_number edition_two f) n q z

  pub write_other : (buffer : List ℕ) (at : ℕ) → is_directory_id f.numbers.id ≡ false → refused 24 buffer ≡ directory_writing edition_two f buffer at
  write_other buffer at h = stopped buffer at 24 (number_other edition_two f h) (omega arith)

  module _ (h : is_directory_id f.numbers.id ≡ true) (s s₁ : List ℕ) (l : length s ≡ longest_braced) where
    -- the array has the room, so the number is the writer's own
    number_is : (number count : ℕ) → outcome number count s₁ ≡ writing edition_two f s 0 → number ≡ writer_number edition_two f
    unfolding writing
    number_is number count w = ap (λ (o : Outcome). o.number) w ∙ after_number (writer_number edition_two f) s (formatted edition_two f) (λ z. omega (arith, at_most f h z))

    -- a refusal of the profile's writer is this one's
    pub write_refused : (buffer : List ℕ) (at : ℕ) (r : Refusal) → refused (number_of r) s₁ ≡ writing edition_two f s 0
        → refused (number_of r) buffer ≡ directory_writing edition_two f buffer at
    write_refused buffer at r w = stopped buffer at (number_of r) (number_row_lem edition_two f h (number_of r) (number_is (number_of r) 0 w) (never_zero r)) (number_pos r)

    module _ (count : ℕ) (w : outcome 0 count s₁ ≡ writing edition_two f s 0) where
      clear : writer_number edition_two f ≡ 0
      clear = sym (number_is 0 count w)

      count_is : count ≡ length (formatted edition_two f)
      unfolding writing
      count_is = (after_counted (writer_number edition_two f) s (formatted edition_two f) 0 count s₁ w refl).1

      pub count_most : count ≤ longest_braced
      count_most = omega (arith, count_is, at_most f h clear)

      string_is : s₁ ≡ formatted edition_two f ++ drop (length (formatted edition_two f)) s
      unfolding writing
      string_is =
          let m = at_most f h clear in
          ap (λ (o : Outcome). o.buffer) (w ∙ after_done (writer_number edition_two f) s 0 (formatted edition_two f) clear (omega arith)) ∙ over_start s (formatted edition_two f)

      -- the id alone has fewer bytes than a prefix, any other string more
      pub write_alone : (buffer : List ℕ) (at : ℕ) → count < prefix_length → refused 24 buffer ≡ directory_writing edition_two f buffer at
      write_alone buffer at k = go (is_id_alone edition_two f) refl
        where
          go : (b : Bool) → is_id_alone edition_two f ≡ b → refused 24 buffer ≡ directory_writing edition_two f buffer at
          go true a = stopped buffer at 24 (number_clear edition_two f h clear ∙ ap (λ (b : Bool). cond b 24 0) a) (omega arith)
          go false a = absurd (omega (arith, count_is, name-length f h, more_length edition_two f a))

      pub write_done : (buffer : List ℕ) (at : ℕ) → prefix_length ≤ count → put buffer at (take count (set (set s₁ 0 123) 9 125)) ≡ directory_writing edition_two f buffer at
      unfolding directory_writing
      write_done buffer at k = go (is_id_alone edition_two f) refl
        where
          go : (b : Bool) → is_id_alone edition_two f ≡ b → put buffer at (take count (set (set s₁ 0 123) 9 125)) ≡ directory_writing edition_two f buffer at
          go true a = absurd (omega (arith, count_is, name-length f h, alone_length edition_two f a))
          go false a =
              let (t, q) = spelled f h a in
              let x = drop (length (formatted edition_two f)) s in
              let d = (dollar-length t (formatted edition_two f) (braced_dollar (formatted edition_two f) t q)).0 in
              let c : count ≡ length t = omega (arith, count_is) in
              let m = ap (λ (y : List ℕ). set (set y 0 123) 9 125) string_is ∙ braced_marked (formatted edition_two f) t q x in
              let u : take count (set (set s₁ 0 123) 9 125) ≡ directory_formatted edition_two f =
              (λ i. take (c i) (m i)) ∙ take-append_seam t x ∙ sym (formatted_is edition_two f t q)
              in
              let n : directory_writer_number edition_two f ≡ 0 = number_clear edition_two f h clear ∙ ap (λ (b : Bool). cond b 24 0) a in
              ap (put buffer at) u ∙ sym (put_clear buffer at (directory_formatted edition_two f) (directory_writer_number edition_two f) n)
