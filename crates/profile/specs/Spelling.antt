-- Demand 3, which document 01 names and does not repeat, stated once over a spelling: 'two different accepted strings never carry the same fields;
-- two different permitted sets of fields are never written to the same string; a string is refused exactly when no permitted set of fields is
-- written to it; the fields of an accepted string are written back to exactly that string.' Then the two ways to have a spelling: by rules, and by
-- the entries that read and write it.
-- Assumes nothing.
use Rattle.std.specs.Prelude.{ℕ, ◌+◌, ◌≤◌, ◌≡◌, List, ◌↔◌, length}
use Rattle.text.specs.Place.{Outcome, outcome, over}
use Rattle.table.specs.Limits.{longest_permitted}
use Rattle.profile.specs.Fields.{FieldSet, chosen, write_bytes}
use Rattle.profile.specs.Writer.{OfBytes}
use Rattle.profile.specs.Entries.{kind_of}
use Rattle.profile.specs.declared.fields.ByteString.{ByteString}
use Rattle.profile.specs.Entries.{Reading}

-- a way to write fields as texts: which texts are accepted, the fields that each carries, which fields are permitted, and the text that they
-- are written to
pub record Spelling : Type 1 where
  pub Accepted : List ℕ → Type 0
  pub Carries : List ℕ → FieldSet → Type 0
  pub Permitted : FieldSet → Type 0
  pub WrittenTo : FieldSet → List ℕ → Type 0

pub record Demand3 (w : Spelling) : Type 0 where
  pub same_string : (s u : List ℕ) (f : FieldSet) → w.Carries s f → w.Carries u f → s ≡ u
  pub same_fields : (f g : FieldSet) (s : List ℕ) → w.Permitted f → w.Permitted g → w.WrittenTo f s → w.WrittenTo g s → f ≡ g
  pub refused_exactly : (s : List ℕ) → (w.Accepted s → ⊥) ↔ ((f : FieldSet) → w.Permitted f → w.WrittenTo f s → ⊥)
  pub written_back : (s : List ℕ) (f : FieldSet) → w.Carries s f → w.Permitted f × w.WrittenTo f s
  -- every accepted string, and no other, carries fields; and every permitted set of fields is written to a string
  pub carries : (s : List ℕ) → w.Accepted s ↔ ((f : FieldSet) × w.Carries s f)
  pub writes : (f : FieldSet) → w.Permitted f → (s : List ℕ) × w.WrittenTo f s

-- ---- by rules

-- the reader's number of a text, the fields that it carries where that is 0, the fields that are permitted, and the text that they are written to
pub record SpellingRules : Type 1 where
  pub number : List ℕ → ℕ
  pub fields : List ℕ → FieldSet
  pub Permitted : FieldSet → Type 0
  pub formatted : FieldSet → List ℕ

abbrev pub rule_spelling : SpellingRules → Spelling
rule_spelling r =
    record {
      Accepted = λ (s : List ℕ). r.number s ≡ 0;
      Carries = λ (s : List ℕ) (f : FieldSet). (r.number s ≡ 0) × (r.fields s ≡ f);
      Permitted = r.Permitted;
      WrittenTo = λ (f : FieldSet) (s : List ℕ). r.formatted f ≡ s;
    }

-- ---- by entries: a profile reader, a byte-string entry and a writer, by the outcomes that their contracts name

pub record SpellingEntries : Type 0 where
  pub reading : List ℕ → Reading
  pub decoded : ByteString → List ℕ → List ℕ → ℕ → Outcome
  pub writing : FieldSet → List ℕ → ℕ → Outcome

-- fields are written to a string (01) by a call of the writer: it answers 0 and the bytes it wrote are that string
abbrev pub WrittenAt : SpellingEntries → FieldSet → List ℕ → List ℕ → ℕ → Type 0
WrittenAt n f s buffer at = n.writing f buffer at ≡ outcome 0 (length s) (over buffer at s)

-- by a call with at least 265 bytes of room, as demand 3 has it; 'its room counts from its place'
pub record WrittenTo (n : SpellingEntries) (f : FieldSet) (s : List ℕ) : Type 0 where
  pub buffer : List ℕ
  pub place : ℕ
  pub has_room : place + longest_permitted ≤ length buffer
  pub written : WrittenAt n f s buffer place

-- a string carries fields (01): the profile reader gives the number fields, the byte-string entry each byte string where it fits
pub record Carries (n : SpellingEntries) (s : List ℕ) (f : FieldSet) : Type 0 where
  pub fields : (n.reading s).fields ≡ f.numbers
  pub strings : (c : ByteString) (buffer : List ℕ) (at : ℕ) → at + length (chosen c f) ≤ length buffer
      → n.decoded c s buffer at ≡ outcome 0 (length (chosen c f)) (over buffer at (chosen c f))

abbrev pub entry_spelling : SpellingEntries → (FieldSet → Type 0) → Spelling
entry_spelling n Permitted =
    record { Accepted = λ (s : List ℕ). (n.reading s).number ≡ 0; Carries = Carries n; Permitted = Permitted; WrittenTo = WrittenTo n }

pub record EntriesDemand3 (n : SpellingEntries) (Permitted : FieldSet → Type 0) : Type 0 where
  pub demand_3 : Demand3 (entry_spelling n Permitted)
  -- what one call with the room writes, every such call does
  pub every_call : (f : FieldSet) (s : List ℕ) → Permitted f → WrittenTo n f s
      → (buffer : List ℕ) (at : ℕ) → at + longest_permitted ≤ length buffer → WrittenAt n f s buffer at

-- ---- the entries by the rules: fields that are written are read back

pub record EntriesAgree (r : SpellingRules) (n : SpellingEntries) : Type 0 where
  -- the writer answers 0 exactly for permitted fields whose string fits, and what it wrote is that string; so with less room than demand 3 names too
  pub writes : (f : FieldSet) → r.Permitted f → (buffer : List ℕ) (at : ℕ) → at + length (r.formatted f) ≤ length buffer
      → WrittenAt n f (r.formatted f) buffer at
  pub writes_only : (f : FieldSet) → OfBytes f → (buffer : List ℕ) (at : ℕ) → (n.writing f buffer at).number ≡ 0
      → r.Permitted f × (at + length (r.formatted f) ≤ length buffer)
  -- the reader and the byte-string entry give those nine fields back
  pub reads : (f : FieldSet) → r.Permitted f
      → n.reading (r.formatted f) ≡ record { number = 0; kind = kind_of (write_bytes f.salt) (write_bytes f.output); fields = f.numbers }
  pub carries : (f : FieldSet) → r.Permitted f → Carries n (r.formatted f) f
