-- What the walk finds in a string is permitted, and is written to exactly that string, in every edition that passes the test `sound`.
-- Assumes nothing.
use Rattle.std.proofs.Common.{◌≡◌, ℕ, true, false, not, ◌&&◌, List, [], ◌∷◌, ◌++◌, take, drop, sym, refl, ap, ◌∙◌, subst, take-append-drop}
use mathlib.Core.Option.{some}
use Rattle.text.specs.Text.{text, all, empty, find, is_byte, starts_with}
use Rattle.text.proofs.Starts.{starts_is}
use Rattle.text.proofs.Options.{Holds, holds_then, holds-map, holds_if}
use Rattle.text.proofs.Lists.{empty-nil}
use Rattle.table.specs.Limits.{Profile, memory_too_little, in_range, version_allowed, id_of, profile_of}
use Rattle.table.specs.declared.version.Version.{Version}
use Rattle.profile.specs.Fields.{FieldSet, field_set, write_bytes, write_version}
use Rattle.profile.specs.Sound.{sound_number, sound}
use Rattle.profile.specs.Writer.{bytes_allowed, OfBytes, Allows, Permitted, formatted}
use Rattle.profile.specs.PieceTexts.{tagged, pieces_text}
use Rattle.profile.specs.declared.fields.NumberFields.{NumberFields}
use Rattle.profile.proofs.Texts.{formatted_is}
use Rattle.profile.proofs.Allows.{here}
use Rattle.profile.proofs.SoundLaws.{SoundColumn, sound-column_at, name_of}
use Rattle.fast_path.specs.Walk.{Taken, version_in, numbers_in, Pair, pair_in, keys_in, hashes_in, head_in, fields_after_id, walked}
use Rattle.fast_path.proofs.ItemTexts.{items, Stands, stands_append, cost_items, key_items, five_items, hashes_text, rest_text, pieces-row}
use Rattle.fast_path.proofs.Stands.{number_then, bytes_then, VersionStands, version_stands}

-- ---- the numbers, and the byte strings two by two

record NumbersStand (r : Profile) (k : ℕ) (v : Version) (s : List ℕ) (x : Taken NumberFields) : Type 0 where
  id : x.found.id ≡ k
  version : x.found.version ≡ v
  m : in_range r.m x.found.m ≡ true
  t : in_range r.t x.found.t ≡ true
  p : in_range r.p x.found.p ≡ true
  lanes : memory_too_little x.found.m x.found.p ≡ false
  stands : Stands 36 (cost_items r x.found) s x.separator x.rest

numbers_stand : (r : Profile) (k : ℕ) (v : Version) (s : List ℕ) → sound_number r.m ≡ true → sound_number r.t ≡ true → sound_number r.p ≡ true
    → Holds (NumbersStand r k v s) (numbers_in r k v s)
unfolding numbers_in
numbers_stand r k v s sm st sp =
    let Q = NumbersStand r k v s in
    number_then Q r.m sm (text "m=") 36 s _ (λ m hm.
    number_then Q r.t st (text "t=") m.separator m.rest _ (λ t ht.
    number_then Q r.p sp (text "p=") t.separator t.rest _ (λ p hp.
    holds_if Q (memory_too_little m.found p.found) _ _ (λ e. tt)
    (λ e. record {
      id = refl;
      version = refl;
      m = hm.0;
      t = ht.0;
      p = hp.0;
      lanes = e;
      stands = stands_append hm.1 (stands_append ht.1 hp.1);
    }))))

record KeysStand (r : Profile) (separator : ℕ) (s : List ℕ) (x : Taken Pair) : Type 0 where
  keyid : bytes_allowed r.keyid x.found.first ≡ true
  «data» : bytes_allowed r.«data» x.found.second ≡ true
  keyid_bytes : all is_byte x.found.first ≡ true
  data_bytes : all is_byte x.found.second ≡ true
  stands : Stands separator (key_items x.found.first x.found.second) s x.separator x.rest

keys_stand : (r : Profile) (separator : ℕ) (s : List ℕ) → Holds (KeysStand r separator s) (keys_in r separator s)
unfolding pair_in
keys_stand r separator s =
    let Q = KeysStand r separator s in
    bytes_then Q r.keyid (text "keyid=") separator s _ (λ k hk.
    bytes_then Q r.«data» (text "data=") k.separator k.rest _ (λ d hd.
    record {
      keyid = hk.permitted;
      «data» = hd.permitted;
      keyid_bytes = hk.bytes;
      data_bytes = hd.bytes;
      stands = stands_append hk.stands hd.stands;
    }))

record HashesStand (r : Profile) (s : List ℕ) (x : Taken Pair) : Type 0 where
  salt : bytes_allowed r.salt x.found.first ≡ true
  output : bytes_allowed r.output x.found.second ≡ true
  salt_bytes : all is_byte x.found.first ≡ true
  output_bytes : all is_byte x.found.second ≡ true
  order : (empty x.found.first && not (empty x.found.second)) ≡ false
  stands : empty x.rest ≡ true → s ≡ hashes_text x.found.first x.found.second

-- where there is no salt there is no `$`, so no output
ordered : (salt output s rest : List ℕ) → s ≡ tagged (text "$") (write_bytes salt) ++ rest
    → empty salt ≡ not (starts_with (text "$") s) → empty output ≡ not (starts_with (text "$") rest) → (empty salt && not (empty output)) ≡ false
ordered [] output s rest e p q = rw (q, ← e, ← p)
ordered (b ∷ salt) output s rest e p q = refl

hashes_stand : (r : Profile) (s : List ℕ) → Holds (HashesStand r s) (hashes_in r s)
unfolding pair_in
hashes_stand r s =
    let Q = HashesStand r s in
    bytes_then Q r.salt [] 36 s _ (λ a ha.
    bytes_then Q r.output [] 36 a.rest _ (λ o ho.
    record {
      salt = ha.permitted;
      output = ho.permitted;
      salt_bytes = ha.bytes;
      output_bytes = ho.bytes;
      order = ordered a.found o.found s a.rest ha.stands.here ha.nothing ho.nothing;
      stands = λ e.
          ha.stands.here ∙ ap (λ (x : List ℕ). tagged (text "$") (write_bytes a.found) ++ x)
          (ho.stands.here ∙ ap (λ (x : List ℕ). tagged (text "$") (write_bytes o.found) ++ x) (empty-nil o.rest e));
    }))

-- ---- the whole

-- the version and the numbers, of the column r
record HeadStands (r : Profile) (k : ℕ) (s : List ℕ) (x : Taken NumberFields) : Type 0 where
  version : version_allowed r.versions x.found.version ≡ true
  middle : List ℕ
  here : s ≡ tagged (text "$") (write_version x.found.version) ++ middle
  numbers : NumbersStand r k x.found.version middle x

head_stands : (e : List Profile) (r : Profile) (k : ℕ) (s : List ℕ) → SoundColumn e k r → Holds (HeadStands r k s) (head_in r k s)
unfolding head_in
head_stands e r k s E =
    holds_then (VersionStands r.versions s) (HeadStands r k s) (version_in r.versions s) _ (version_stands r.versions s) (λ v hv.
    holds-map (NumbersStand r k v.found v.rest) (HeadStands r k s) (numbers_in r k v.found v.rest)
    (numbers_stand r k v.found v.rest E.m E.t E.p) (λ x h.
    let q = sym h.version in
    record {
      version = subst (λ (w : Version). version_allowed r.versions w ≡ true) q hv.0;
      middle = v.rest;
      here = subst (λ (w : Version). s ≡ tagged (text "$") (write_version w) ++ v.rest) q hv.1;
      numbers = subst (λ (w : Version). NumbersStand r k w v.rest x) q h;
    }))

-- the fields f are permitted, and written to s
abbrev Found : List Profile → List ℕ → FieldSet → Type 0
Found e s f = Permitted e f × (formatted e f ≡ s)

-- from the column of their id
found : (e : List Profile) (s : List ℕ) (f : FieldSet) (r : Profile) → here e f ≡ r → Allows r f → OfBytes f → pieces_text r f ≡ s → Found e s f
found e s f r q k b t =
    (record { column = subst (λ (r : Profile). Allows r f) (sym q) k; bytes = b }, formatted_is e f ∙ ap (λ (r : Profile). pieces_text r f) q ∙ t)

module _ (e : List Profile) (ok : sound e ≡ true) where
  -- what is found behind the name of an id
  after_id_stands : (s name u : List ℕ) → s ≡ (36 ∷ name) ++ u → Holds (Found e s) (fields_after_id (profile_of e (id_of e name)) (id_of e name) u)
  after_id_stands s name u q =
      let k = id_of e name in
      let r = profile_of e k in
      holds_if (Found e s) r.known _ _ (λ known.
      holds_then (HeadStands r k u) (Found e s) (head_in r k u) _ (head_stands e r k u (sound-column_at e ok k known)) (λ n hn.
      holds_then (KeysStand r n.separator n.rest) (Found e s) (keys_in r n.separator n.rest) _ (keys_stand r n.separator n.rest) (λ y hy.
      holds_then (HashesStand r y.rest) (Found e s) (hashes_in r y.rest) _ (hashes_stand r y.rest) (λ h hh.
      holds_if (Found e s) (empty h.rest) _ _ (λ z.
      let c = hn.numbers in
      let f = field_set n.found y.found.first y.found.second h.found.first h.found.second in
      let row = stands_append c.stands hy.stands in
      let same_rest : u ≡ rest_text r f =
      hn.here ∙ ap (λ (x : List ℕ). tagged (text "$") (write_version n.found.version) ++ x)
      (row.here ∙ ap (items 36 (five_items r n.found y.found.first y.found.second)) (hh.stands z)) in
      found e s f r (ap (profile_of e) c.id) (
      record {
        id = known;
        version = hn.version;
        m = c.m;
        t = c.t;
        p = c.p;
        lanes = c.lanes;
        keyid = hy.keyid;
        «data» = hy.«data»;
        salt = hh.salt;
        output = hh.output;
        output_with_salt = hh.order;
      }
      ) (hy.keyid_bytes, hy.data_bytes, hh.salt_bytes, hh.output_bytes)
      (pieces-row r f ∙ ap (λ (x : List ℕ). 36 ∷ (x ++ rest_text r f)) (name_of e name known) ∙ ap (λ (x : List ℕ). 36 ∷ (name ++ x)) (sym same_rest) ∙ sym q)) (λ z. tt))))) (λ z. tt)

  walked_stands : (s : List ℕ) → Holds (Found e s) (walked e s)
  unfolding walked
  walked_stands s =
      let t = drop 1 s in
      holds_if (Found e s) (starts_with (text "$") s) _ _
      (λ h. after_id_stands s (take (find 36 t) t) (drop (find 36 t) t)
      (starts_is (text "$") s h ∙ ap (λ (x : List ℕ). 36 ∷ x) (sym (take-append-drop (find 36 t) t))))
      (λ h. tt)

  pub walk_sound : (s : List ℕ) (f : FieldSet) → walked e s ≡ some f → Permitted e f × (formatted e f ≡ s)
  walk_sound s f q = subst (Holds (Found e s)) q (walked_stands s)
