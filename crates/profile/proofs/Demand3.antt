-- Demand 3 of any spelling in which carrying and being written to are one; of one by rules, in which the accepted texts and the permitted fields
-- correspond; and of the entries that follow such rules.
-- Assumes nothing.
use Prim.Native.Nat.{ℕ, ◌+◌, ◌≤◌}
use mathlib.Core.List.{List, ◌++◌}
use mathlib.Core.Path.{◌≡◌, refl, sym, ◌∙◌, ap, subst}
use native.Mathlib.Omega.{arith}
use lib.ListN.{length, replicate, length-append}
use Rattle.text.specs.Place.{Outcome, outcome, over, put_after}
use Rattle.text.proofs.Writing.{after_zero, after_done, over-same}
use Rattle.table.specs.Limits.{longest_permitted}
use Rattle.profile.specs.Fields.{FieldSet, chosen}
use Rattle.profile.specs.Spelling.{Spelling, Demand3, SpellingRules, rule_spelling, SpellingEntries, WrittenAt, WrittenTo, Carries, entry_spelling, EntriesDemand3}
use Rattle.profile.specs.declared.fields.ByteString.{ByteString}
use Rattle.profile.specs.declared.fields.ByteString.TheVariants.{Keyid, Data, Salt, Output}

-- ---- a spelling

-- an accepted string carries fields, one set of them; a string carries the fields that are written to it, and no others; permitted fields are
-- written to a string, and to one
pub record OneToOne (w : Spelling) : Type 0 where
  pub some : (s : List ℕ) → w.Accepted s → (f : FieldSet) × w.Carries s f
  pub accepted : (s : List ℕ) (f : FieldSet) → w.Carries s f → w.Accepted s
  pub one : (s : List ℕ) (f g : FieldSet) → w.Carries s f → w.Carries s g → f ≡ g
  pub back : (s : List ℕ) (f : FieldSet) → w.Carries s f → w.Permitted f × w.WrittenTo f s
  pub carried : (f : FieldSet) (s : List ℕ) → w.Permitted f → w.WrittenTo f s → w.Carries s f
  pub writes : (f : FieldSet) → w.Permitted f → (s : List ℕ) × w.WrittenTo f s
  pub one_string : (f : FieldSet) (s u : List ℕ) → w.Permitted f → w.WrittenTo f s → w.WrittenTo f u → s ≡ u

demand_3_of : (w : Spelling) → OneToOne w → Demand3 w
demand_3_of w h =
    record {
      same_string = λ s u f a b. h.one_string f s u (h.back s f a).0 (h.back s f a).1 (h.back u f b).1;
      same_fields = λ f g s a b v x. h.one s f g (h.carried f s a v) (h.carried g s b x);
      refused_exactly = λ s. (
        (λ refused f a v. refused (h.accepted s f (h.carried f s a v))),
        (λ none a. let (f, c) = h.some s a in none f (h.back s f c).0 (h.back s f c).1),
      );
      written_back = h.back;
      carries = λ s. (h.some s, λ q. h.accepted s q.0 q.1);
      writes = h.writes;
    }

-- ---- by rules

-- the fields of an accepted text are permitted and are written to it; permitted fields are written to an accepted text that carries them
pub record Inverse (r : SpellingRules) : Type 0 where
  pub accepted : (s : List ℕ) → r.number s ≡ 0 → r.Permitted (r.fields s) × (r.formatted (r.fields s) ≡ s)
  pub written : (f : FieldSet) → r.Permitted f → (r.number (r.formatted f) ≡ 0) × (r.fields (r.formatted f) ≡ f)

pub demand_3_rules : (r : SpellingRules) → Inverse r → Demand3 (rule_spelling r)
demand_3_rules r h =
    demand_3_of (rule_spelling r)
    (record {
      some = λ s a. (r.fields s, (a, refl));
      accepted = λ s f c. c.0;
      one = λ s f g c d. sym c.1 ∙ d.1;
      back = λ s f c. subst (λ (g : FieldSet). r.Permitted g × (r.formatted g ≡ s)) c.1 (h.accepted s c.0);
      carried = λ f s p q. subst (λ (u : List ℕ). (r.number u ≡ 0) × (r.fields u ≡ f)) q (h.written f p);
      writes = λ f p. (r.formatted f, refl);
      one_string = λ f s u p q v. sym q ∙ v;
    })

-- ---- by entries

-- entries that give what rules say, with a refusal's number for each set of fields
pub record Follows (r : SpellingRules) (n : SpellingEntries) (refusal : FieldSet → ℕ) : Type 0 where
  pub reading_number : (s : List ℕ) → (n.reading s).number ≡ r.number s
  pub reading_fields : (s : List ℕ) → r.number s ≡ 0 → (n.reading s).fields ≡ (r.fields s).numbers
  pub decoded_is : (c : ByteString) (s buffer : List ℕ) (at : ℕ) → n.decoded c s buffer at ≡ put_after (r.number s) buffer at (chosen c (r.fields s))
  pub writing_is : (f : FieldSet) (buffer : List ℕ) (at : ℕ) → n.writing f buffer at ≡ put_after (refusal f) buffer at (r.formatted f)
  pub not_refused : (f : FieldSet) → r.Permitted f → refusal f ≡ 0
  pub short : (f : FieldSet) → r.Permitted f → length (r.formatted f) ≤ longest_permitted

-- a buffer with the room
abbrev wide : List ℕ
wide = replicate longest_permitted 0

module _ (r : SpellingRules) (n : SpellingEntries) (refusal : FieldSet → ℕ) (w : Follows r n refusal) where
  decodes : (c : ByteString) (s buffer : List ℕ) (at : ℕ) → r.number s ≡ 0 → at + length (chosen c (r.fields s)) ≤ length buffer
      → n.decoded c s buffer at ≡ outcome 0 (length (chosen c (r.fields s))) (over buffer at (chosen c (r.fields s)))
  decodes c s buffer at z l = w.decoded_is c s buffer at ∙ after_done (r.number s) buffer at (chosen c (r.fields s)) z l

  -- an accepted string carries its fields
  pub carries_own : (s : List ℕ) → r.number s ≡ 0 → Carries n s (r.fields s)
  carries_own s z = record { fields = w.reading_fields s z; strings = λ c buffer at l. decodes c s buffer at z l }

  module _ (s : List ℕ) (f : FieldSet) (h : Carries n s f) where
    -- the byte-string entry answers 0 where there is room
    carrying : r.number s ≡ 0
    carrying =
        let x = f.keyid in
        (after_zero (r.number s) x 0 (r.fields s).keyid (ap (λ (o : Outcome). o.number) (sym (w.decoded_is Keyid s x 0) ∙ h.strings Keyid x 0 (omega arith)))).0

    -- each byte string, decoded into a buffer with room for both
    same_bytes : (c : ByteString) → chosen c (r.fields s) ≡ chosen c f
    same_bytes c =
        let x = chosen c (r.fields s) in
        let y = chosen c f in
        let buffer = x ++ y in
        let l = length-append x y in
        over-same buffer 0 x y (omega arith) (sym (decodes c s buffer 0 carrying (omega arith)) ∙ h.strings c buffer 0 (omega arith))

    same_carried : r.fields s ≡ f
    same_carried =
        let n = sym (w.reading_fields s carrying) ∙ h.fields in
        let keyid = same_bytes Keyid in
        let «data» = same_bytes Data in
        let salt = same_bytes Salt in
        let output = same_bytes Output in
        λ i. record { numbers = n i; keyid = keyid i; «data» = «data» i; salt = salt i; output = output i }

  -- permitted fields are written where their string fits
  pub writes_own : (f : FieldSet) → r.Permitted f → (buffer : List ℕ) (at : ℕ) → at + length (r.formatted f) ≤ length buffer → WrittenAt n f (r.formatted f) buffer at
  writes_own f p buffer at l = w.writing_is f buffer at ∙ after_done (refusal f) buffer at (r.formatted f) (w.not_refused f p) l

  -- so a call with the room writes them
  calls : (f : FieldSet) → r.Permitted f → (buffer : List ℕ) (at : ℕ) → at + longest_permitted ≤ length buffer → WrittenAt n f (r.formatted f) buffer at
  calls f p buffer at l = let k = w.short f p in writes_own f p buffer at (omega arith)

  wrote : (f : FieldSet) (s : List ℕ) → r.Permitted f → WrittenTo n f s → r.formatted f ≡ s
  wrote f s p v =
      let l = v.has_room in
      over-same v.buffer v.place (r.formatted f) s (omega arith) (sym (calls f p v.buffer v.place l) ∙ v.written)

  written_wide : (f : FieldSet) (s : List ℕ) → r.formatted f ≡ s → r.Permitted f → WrittenTo n f s
  written_wide f s q p =
      record { buffer = wide; place = 0; has_room = omega arith; written = subst (λ (u : List ℕ). WrittenAt n f u wide 0) q (calls f p wide 0 (omega arith)) }

  module _ (h : Inverse r) where
    back : (s : List ℕ) (f : FieldSet) → Carries n s f → r.Permitted f × WrittenTo n f s
    back s f c =
        let a = h.accepted s (carrying s f c) in
        let p = subst r.Permitted (same_carried s f c) a.0 in
        (p, written_wide f s (ap r.formatted (sym (same_carried s f c)) ∙ a.1) p)

    pub carries_written : (f : FieldSet) → r.Permitted f → Carries n (r.formatted f) f
    carries_written f p = let q = h.written f p in subst (Carries n (r.formatted f)) q.1 (carries_own (r.formatted f) q.0)

    pub demand_3_entries : EntriesDemand3 n r.Permitted
    demand_3_entries =
        record {
          demand_3 =
              demand_3_of (entry_spelling n r.Permitted)
              (record {
                some = λ s z. (r.fields s, carries_own s (sym (w.reading_number s) ∙ z));
                accepted = λ s f c. w.reading_number s ∙ carrying s f c;
                one = λ s f g c d. sym (same_carried s f c) ∙ same_carried s g d;
                back = back;
                carried = λ f s p v. subst (λ (u : List ℕ). Carries n u f) (wrote f s p v) (carries_written f p);
                writes = λ f p. (r.formatted f, written_wide f (r.formatted f) refl p);
                one_string = λ f s u p v x. sym (wrote f s p v) ∙ wrote f u p x;
              });
          every_call = λ f s p v buffer at l. subst (λ (u : List ℕ). WrittenAt n f u buffer at) (wrote f s p v) (calls f p buffer at l);
        }
