-- What the private steps of the profile reader promise each other. Nothing here is a rule: no public contract cites it.
-- Assumes nothing.
use Rattle.std.specs.Prelude.{ℕ, ◌≡◌, true, not, cond, List, [], ◌∷◌, eqb, Result, IfOk}
use Rattle.std.proofs.Math.Option.{none, some}
use Rattle.text.specs.Text.{empty, head_if, tail_if}
use Rattle.text.specs.Rows.{Row, first_number}
use Rattle.refusals.specs.Numbers.{number}
use Rattle.refusals.specs.declared.Refusal.{Refusal}
use Rattle.b64.specs.B64.{canonical, decode}
use Rattle.grammar.specs.Pieces.{OptionalText}
use Rattle.grammar.specs.Items.{Item, items_from}
use Rattle.grammar.specs.Parts.{part_at, text_of}
use Rattle.grammar.specs.declared.places.Span.{Span}
use Rattle.table.specs.Limits.{Profile, edition_two}
use Rattle.profile.specs.Fields.{chosen, read_number}
use Rattle.profile.specs.Reader.{parameter_names, named, item_value, named_values, unmatched_items, value_at, reader_number, fields_of}
use Rattle.profile.specs.Entries.{kind_number, reading}
use Rattle.profile.specs.declared.judge.Costs.{Costs}
use Rattle.profile.specs.declared.fields.ByteString.{ByteString}
use Rattle.profile.specs.Entries.{Reading}
use Rattle.profile.specs.declared.fields.ByteString.TheVariants.{Keyid, Data, Salt, Output}
use Rattle.profile.specs.declared.parsed.ParsedString.{ParsedString}
use Rattle.profile.specs.declared.values.Values.{Values}

-- the text of a span that may not be there
abbrev pub span_text : List ℕ → Span → OptionalText
span_text s w = cond (eqb w.at 0) none (some (part_at s w))

-- the first row that applies is the answer's number; and where none does, it has the value
pub record Answers {A : Type 0} (rows : List Row) (value : A) (answer : Result A Refusal) : Type 0 where
  pub number_is : number answer ≡ first_number rows
  pub value_is : IfOk answer (λ (a : A). a ≡ value)

-- a step of the walk over the items: the value of the name, if the next item has it, and where the items left begin
pub record ValueStep (params name : List ℕ) (at : ℕ) (span : Span) (next : ℕ) : Type 0 where
  pub found : span_text params span ≡ item_value (head_if (named name) (items_from params at))
  pub left : items_from params next ≡ tail_if (named name) (items_from params at)

abbrev pub span_texts : List ℕ → Values → List OptionalText
span_texts s v = span_text s v.m ∷ span_text s v.t ∷ span_text s v.p ∷ span_text s v.keyid ∷ span_text s v.«data» ∷ []

-- the whole walk
pub record ValuesAre (params : List ℕ) (is : List Item) (v : Values) : Type 0 where
  pub found : span_texts params v ≡ named_values parameter_names is
  pub unmatched_is : v.unmatched ≡ not (empty (unmatched_items parameter_names is))

-- ---- the judge

-- the numbers read
abbrev pub costs_read : Profile → List OptionalText → Costs
costs_read r vs =
    record { m = read_number r.m (value_at vs 0); t = read_number r.t (value_at vs 1); p = read_number r.p (value_at vs 2) }

-- ---- one reading

-- the text of a byte string in what was read
abbrev pub chosen_text : List ℕ → ParsedString → ByteString → List ℕ
chosen_text s w Keyid = text_of (span_text (part_at s w.places.params) w.values.keyid)
chosen_text s w Data = text_of (span_text (part_at s w.places.params) w.values.«data»)
chosen_text s w Salt = text_of (span_text s w.places.salt)
chosen_text s w Output = text_of (span_text s w.places.output)

-- an accepted string: the reader's answer, and the texts of the four byte strings
pub record AcceptedIs (s : List ℕ) (w : ParsedString) : Type 0 where
  pub reading_is : ◌≡◌ {A = Reading} (record { number = 0; kind = kind_number w.reading.kind; fields = w.reading.fields }) (reading edition_two s)
  pub texts : (c : ByteString)
      → (canonical (chosen_text s w c) ≡ true) × (decode (chosen_text s w c) ≡ chosen c (fields_of edition_two s))

-- the reader's number; and what an accepted string was found to be
pub record ParsedIs (s : List ℕ) (w : Result ParsedString Refusal) : Type 0 where
  pub number_is : number w ≡ reader_number edition_two s
  pub accepted : IfOk w (AcceptedIs s)
