-- The record with its counts, and the byte strings: both are written, or neither.
-- Assumes nothing.
use Prim.Native.Nat.{ℕ, ◌≤◌, ◌<◌}
use mathlib.Core.Bool.{Bool, true, false, cond}
use mathlib.Core.List.{List, ◌++◌}
use mathlib.Core.Option.{none, some}
use mathlib.Core.Path.{◌≡◌, refl, sym, ap, ◌∙◌}
use native.Mathlib.Omega.{arith}
use lib.Dec.{eqb}
use lib.ListN.{length}
use borrow.Author.Tests.{eqb-true, eqb-false, eq-eqb}
use Rattle.text.specs.Text.{maybe}
use Rattle.text.specs.Place.{Outcome, refused, over, put_after}
use Rattle.text.proofs.Writing.{put_refused, put_clear, put_full, put_done, after_zero, after_done, after_number}
use Rattle.grammar.specs.Pieces.{OptionalText}
use Rattle.table.specs.Limits.{edition_two}
use Rattle.profile.specs.Reader.{reader_number, fields_of}
use Rattle.profile.specs.Entries.{refused_reading, reading}
use Rattle.profile.proofs.ReadLaws.{reading_number}
use Rattle.refusals.specs.Numbers.{number}
use Rattle.refusals.specs.declared.Refusal.{Refusal}
use Rattle.std.specs.Prelude.{Result, Ok, Err}
use Rattle.profile.specs.Entries.{read_answer}
use Rattle.profile.specs.declared.fields.Record.{Record}
use Rattle.fast_path.specs.Contents.{joined_bytes, counted, refused_contents, all_decoded, contents}
use Rattle.fast_path.specs.Contents.{ContentsAnswer}
use Rattle.directory.specs.Braced.{dollar_string}
use Rattle.directory.specs.Entries.{directory_reading, directory_all_decoded, directory_contents}
use Rattle.phc.specs.Records.{record_bytes, count_bytes, record_all_length, recorded_contents, all_outcome, recorded_all, directory_recorded_all}

-- the number of the reader's answer
pub read-number : (r : Result Record Refusal) → number r ≡ (read_answer r).number
read-number (Ok r) = refl
read-number (Err e) = refl

-- the number of the contents is that of the bytes
contents_number : (s buffer : List ℕ) → (contents edition_two s buffer 0).reading.number ≡ (all_decoded edition_two s buffer 0).number
unfolding contents all_decoded
contents_number s buffer = go (all_decoded edition_two s buffer 0).number refl (eqb (all_decoded edition_two s buffer 0).number 0) refl
  where
    go : (n : ℕ) → (all_decoded edition_two s buffer 0).number ≡ n → (b : Bool) → eqb n 0 ≡ b
        → (cond b (counted (reading edition_two s) (fields_of edition_two s)) (refused_contents n)).reading.number ≡ n
    go n e true t =
        let z = eqb-true n 0 t in
        let q = after_zero (reader_number edition_two s) buffer 0 (joined_bytes (fields_of edition_two s)) (e ∙ z) in
        reading_number edition_two s ∙ q.0 ∙ sym z
    go n e false t = refl

module _ (s «record» buffer : List ℕ) where
  abbrev all : ContentsAnswer
  all = counted (reading edition_two s) (fields_of edition_two s)

  abbrev told : List ℕ
  told = record_bytes (reading edition_two s) ++ count_bytes all

  abbrev fits : Outcome
  fits = put_after (reading edition_two s).number «record» 0 told

  -- refused before the bytes are looked at
  stopped : (k : ℕ) → 0 < k → fits.number ≡ k → all_outcome k «record» buffer ≡ recorded_all s «record» buffer
  unfolding recorded_all
  stopped k h e =
      let b = put_refused buffer 0 (joined_bytes (fields_of edition_two s)) fits.number k e h in
      let r = put_refused «record» 0 told k k refl h in
      rw (← b, ← r)

  pub record_all_short : length «record» < record_all_length → (n : ℕ) → n ≡ cond (eqb (reading edition_two s).number 0) 17 (reading edition_two s).number
      → all_outcome n «record» buffer ≡ recorded_all s «record» buffer
  record_all_short h n e = go (eqb (reading edition_two s).number 0) refl e
    where
      go : (b : Bool) → eqb (reading edition_two s).number 0 ≡ b → n ≡ cond b 17 (reading edition_two s).number
          → all_outcome n «record» buffer ≡ recorded_all s «record» buffer
      go true t e =
          let z = eqb-true (reading edition_two s).number 0 t in
          let q = put_full «record» 0 told (omega arith) ∙ sym (put_clear «record» 0 told (reading edition_two s).number z) in
          rw e (stopped 17 (omega arith) (sym (ap (λ (o : Outcome). o.number) q)))
      go false t e =
          let z = eqb-false (reading edition_two s).number 0 t in
          let q = put_refused «record» 0 told (reading edition_two s).number (reading edition_two s).number refl (omega (arith, z)) in
          rw e (stopped (reading edition_two s).number (omega (arith, z)) (sym (ap (λ (o : Outcome). o.number) q)))

  -- the record fits: the number is the reader's
  pub fits_number : record_all_length ≤ length «record» → fits.number ≡ reader_number edition_two s
  fits_number h = after_number (reading edition_two s).number «record» told (λ z. omega arith) ∙ reading_number edition_two s

  module _ (h : record_all_length ≤ length «record») (c : ContentsAnswer) (e : c ≡ contents edition_two s buffer 0) (left : List ℕ) (w : left ≡ (all_decoded edition_two s buffer 0).buffer) where
    bytes_are : put_after fits.number buffer 0 (joined_bytes (fields_of edition_two s)) ≡ all_decoded edition_two s buffer 0
    unfolding all_decoded
    bytes_are = ap (λ (n : ℕ). put_after n buffer 0 (joined_bytes (fields_of edition_two s))) (fits_number h)

    number_is : c.reading.number ≡ (all_decoded edition_two s buffer 0).number
    number_is = ap (λ (x : ContentsAnswer). x.reading.number) e ∙ contents_number s buffer

    record_all_refused : (c.reading.number ≡ 0 → ⊥) → all_outcome c.reading.number «record» left ≡ recorded_all s «record» buffer
    unfolding recorded_all
    record_all_refused z =
        let r = put_refused «record» 0 told (all_decoded edition_two s buffer 0).number c.reading.number (sym number_is) (omega (arith, z)) in
        rw (bytes_are, ← r, number_is, w)

    all_is : c.reading.number ≡ 0 → c ≡ all
    unfolding contents
    all_is z = e ∙ rw (eq-eqb (all_decoded edition_two s buffer 0).number 0 (sym number_is ∙ z))

    record_all_done : c.reading.number ≡ 0 → (wrote : List ℕ) → wrote ≡ over «record» 0 (record_bytes c.reading ++ count_bytes c)
        → all_outcome 0 wrote left ≡ recorded_all s «record» buffer
    unfolding recorded_all
    record_all_done z wrote q =
        let n : (all_decoded edition_two s buffer 0).number ≡ 0 = sym number_is ∙ z in
        let r = put_done «record» 0 told (omega arith) record_all_length refl wrote (q ∙ ap (λ (x : ContentsAnswer). over «record» 0 (record_bytes x.reading ++ count_bytes x)) (all_is z)) in
        rw (bytes_are, put_clear «record» 0 told (all_decoded edition_two s buffer 0).number n, ← r, n, w)

    -- what was read, given back
    given_all : all_outcome (recorded_contents c «record»).number (recorded_contents c «record»).buffer left ≡ recorded_all s «record» buffer
    given_all = go (eqb c.reading.number 0) refl
      where
        go : (b : Bool) → eqb c.reading.number 0 ≡ b
            → all_outcome (recorded_contents c «record»).number (recorded_contents c «record»).buffer left ≡ recorded_all s «record» buffer
        go true t =
            let z = eqb-true c.reading.number 0 t in
            let r = after_done c.reading.number «record» 0 (record_bytes c.reading ++ count_bytes c) z (omega arith) in
            (λ i. all_outcome (r i).number (r i).buffer left) ∙ record_all_done z (over «record» 0 (record_bytes c.reading ++ count_bytes c)) refl
        go false t =
            let z = eqb-false c.reading.number 0 t in
            let r = put_refused «record» 0 (record_bytes c.reading ++ count_bytes c) c.reading.number c.reading.number refl (omega (arith, z)) in
            (λ i. all_outcome (sym r i).number (sym r i).buffer left) ∙ record_all_refused z

    pub record_all_given : (n : ℕ) → n ≡ (recorded_contents c «record»).number → (wrote : List ℕ) → wrote ≡ (recorded_contents c «record»).buffer
        → all_outcome n wrote left ≡ recorded_all s «record» buffer
    record_all_given n p wrote q = (λ i. all_outcome (p i) (q i) left) ∙ given_all

-- ---- of a braced text

module _ (t «record» buffer : List ℕ) where
  pub directory_all_short : length «record» < record_all_length
      → (n : ℕ) → n ≡ cond (eqb (directory_reading edition_two t).number 0) 17 (directory_reading edition_two t).number
      → all_outcome n «record» buffer ≡ directory_recorded_all t «record» buffer
  unfolding directory_reading directory_recorded_all
  directory_all_short h n = go (dollar_string t)
    where
      go : (o : OptionalText)
          → let r = maybe (refused_reading 24) (reading edition_two) o in
          n ≡ cond (eqb r.number 0) 17 r.number
          → all_outcome n «record» buffer ≡ maybe (all_outcome 24 «record» buffer) (λ (s : List ℕ). recorded_all s «record» buffer) o
      go none e = ap (λ (k : ℕ). all_outcome k «record» buffer) e
      go (some s) e = record_all_short s «record» buffer h n e

  pub directory_all_given : record_all_length ≤ length «record» → (c : ContentsAnswer) → c ≡ directory_contents edition_two t buffer 0
      → (left : List ℕ) → left ≡ (directory_all_decoded edition_two t buffer 0).buffer
      → (n : ℕ) → n ≡ (recorded_contents c «record»).number → (wrote : List ℕ) → wrote ≡ (recorded_contents c «record»).buffer
      → all_outcome n wrote left ≡ directory_recorded_all t «record» buffer
  unfolding directory_contents directory_all_decoded directory_recorded_all put_after
  directory_all_given h c e left w n p wrote q = go (dollar_string t) e w
    where
      go : (o : OptionalText) → c ≡ maybe (refused_contents 24) (λ (s : List ℕ). contents edition_two s buffer 0) o
          → left ≡ (maybe (refused 24 buffer) (λ (s : List ℕ). all_decoded edition_two s buffer 0) o).buffer
          → all_outcome n wrote left ≡ maybe (all_outcome 24 «record» buffer) (λ (s : List ℕ). recorded_all s «record» buffer) o
      go none e w =
          (λ i. all_outcome (p i) (q i) left) ∙ (λ i. all_outcome (recorded_contents (e i) «record»).number (recorded_contents (e i) «record»).buffer (w i))
      go (some s) e w = record_all_given s «record» buffer h c e left w n p wrote q
