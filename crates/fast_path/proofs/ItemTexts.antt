-- Named texts one after the other, each behind its separator, as the walk meets them; and the writer's string as such a row.
-- Assumes nothing.
use Rattle.std.proofs.Common.{◌≡◌, ℕ, Bool, true, false, ◌&&◌, eqb, List, [], ◌∷◌, ◌++◌, refl, ap, ◌∙◌, append_assoc, append-nil}
use mathlib.Core.Bool.{and-false, or-true}
use mathlib.Core.Option.{none, some}
use Rattle.text.specs.Text.{text, all, has, starts_with}
use Rattle.text.proofs.Tests.{both}
use Rattle.text.proofs.Starts.{starts_without, Begins, differ, starts_differ}
use Rattle.grammar.specs.Pieces.{OptionalText}
use Rattle.table.specs.Limits.{Profile}
use Rattle.profile.specs.Fields.{FieldSet, write_number, write_bytes, write_version}
use Rattle.profile.specs.PieceTexts.{tagged, items_text, dollared, pieces_text}
use Rattle.profile.specs.declared.fields.NumberFields.{NumberFields}
use Rattle.fast_path.proofs.Closed.{Separator, Closed}

-- a name with its equals sign, and the text that stands behind it
abbrev pub Named : Type 0
Named = List ℕ × OptionalText

-- the separator of the next item
abbrev pub separator_after : ℕ → OptionalText → ℕ
separator_after separator none = separator
separator_after separator (some t) = 44

-- the items, then the rest of the text
abbrev pub items : ℕ → List Named → List ℕ → List ℕ
items separator [] rest = rest
items separator (i ∷ l) rest = tagged (separator ∷ i.0) i.1 ++ items (separator_after separator i.1) l rest

-- the separator behind the last of them
abbrev pub separators : ℕ → List Named → ℕ
separators separator [] = separator
separators separator (i ∷ l) = separators (separator_after separator i.1) l

-- ---- a text that is such a row

-- t is the items and then the rest, and the next separator is the one behind them
pub record Stands (separator : ℕ) (l : List Named) (t : List ℕ) (next : ℕ) (rest : List ℕ) : Type 0 where
  pub here : t ≡ items separator l rest
  pub after : next ≡ separators separator l

items-append : (separator : ℕ) (a b : List Named) (rest : List ℕ) → items separator a (items (separators separator a) b rest) ≡ items separator (a ++ b) rest
items-append separator [] b rest = refl
items-append separator (i ∷ a) b rest = ap (λ (x : List ℕ). tagged (separator ∷ i.0) i.1 ++ x) (items-append (separator_after separator i.1) a b rest)

separators-append : (separator : ℕ) (a b : List Named) → separators (separators separator a) b ≡ separators separator (a ++ b)
separators-append separator [] b = refl
separators-append separator (i ∷ a) b = separators-append (separator_after separator i.1) a b

pub stands_append : {separator m n : ℕ} {a b : List Named} {t u rest : List ℕ} → Stands separator a t m u → Stands m b u n rest → Stands separator (a ++ b) t n rest
stands_append {separator} {m} {n} {a} {b} {t} {u} {rest} h k =
    record {
      here = h.here ∙ ap (items separator a) (k.here ∙ ap (λ (x : ℕ). items x b rest) h.after) ∙ items-append separator a b rest;
      after = k.after ∙ ap (λ (x : ℕ). separators x b) h.after ∙ separators-append separator a b;
    }

-- ---- a comma before each, or a `$` before the first

comma : (s : OptionalText) → separator_after 44 s ≡ 44
comma none = refl
comma (some t) = refl

items-rest : (separator : ℕ) (l : List Named) (rest : List ℕ) → items separator l [] ++ rest ≡ items separator l rest
items-rest separator [] rest = refl
items-rest separator (i ∷ l) rest = rw (append_assoc (tagged (separator ∷ i.0) i.1), items-rest (separator_after separator i.1) l rest)

dollared-items : (l : List Named) (rest : List ℕ) → dollared (items 44 l []) ++ rest ≡ items 36 l rest
dollared-items [] rest = refl
dollared-items (i ∷ l) rest = go i.1 (dollared-items l rest)
  where
    go : (s : OptionalText) → dollared (items 44 l []) ++ rest ≡ items 36 l rest
        → dollared (tagged (44 ∷ i.0) s ++ items (separator_after 44 s) l []) ++ rest ≡ tagged (36 ∷ i.0) s ++ items (separator_after 36 s) l rest
    go none h = h
    go (some t) h = ap {B = List ℕ} (λ x. 36 ∷ x) (append_assoc (i.0 ++ t) (items 44 l []) rest ∙ ap (λ (x : List ℕ). (i.0 ++ t) ++ x) (items-rest 44 l rest))

-- ---- how a row of items begins

pub begins_tagged : (P : ℕ → Type 0) (separator : ℕ) (n : List ℕ) (s : OptionalText) (rest : List ℕ) → P separator → Begins P rest → Begins P (tagged (separator ∷ n) s ++ rest)
begins_tagged P separator n none rest p h = h
begins_tagged P separator n (some t) rest p h = p

pub begins_items : (P : ℕ → Type 0) (separator : ℕ) (l : List Named) (rest : List ℕ) → P separator → Begins P rest → Begins P (items separator l rest)
begins_items P separator [] rest p h = h
begins_items P separator (i ∷ l) rest p h = go i.1 (begins_items P separator l rest p h)
  where
    go : (s : OptionalText) → Begins P (items separator l rest) → Begins P (tagged (separator ∷ i.0) s ++ items (separator_after separator s) l rest)
    go none k = k
    go (some t) k = p

pub separator_after_lem : (separator : ℕ) (s : OptionalText) → Separator separator → Separator (separator_after separator s)
separator_after_lem separator none h = h
separator_after_lem separator (some t) h = λ f p q. q

pub separators_separator : (separator : ℕ) (l : List Named) → Separator separator → Separator (separators separator l)
separators_separator separator [] h = h
separators_separator separator (i ∷ l) h = separators_separator (separator_after separator i.1) l (separator_after_lem separator i.1 h)

-- a name with its equals sign that none of the items has
abbrev pub fresh : List ℕ → List Named → Bool
fresh name l = has 61 name && all (λ (i : Named). differ name i.0) l

-- what stands behind the items: it begins with a separator, and has no equals sign
pub record Behind (rest : List ℕ) : Type 0 where
  pub closed : Closed rest
  pub plain : has 61 rest ≡ false

pub closed_items : (separator : ℕ) (l : List Named) (rest : List ℕ) → Separator separator → Behind rest → Closed (items separator l rest)
closed_items separator l rest m h = begins_items Separator separator l rest m h.closed

-- the items and such a text begin with no separator and fresh name
pub starts_fresh : (a b : ℕ) (name : List ℕ) (l : List Named) (rest : List ℕ) → Behind rest → fresh name l ≡ true → starts_with (a ∷ name) (items b l rest) ≡ false
starts_fresh a b name l rest h e = go l q.1
  where
    q : (has 61 name ≡ true) × (all (λ (i : Named). differ name i.0) l ≡ true)
    q = both (has 61 name) (all (λ (i : Named). differ name i.0) l) e

    one : (n : List ℕ) (s : OptionalText) (l : List Named) → differ name n ≡ true → starts_with (a ∷ name) (items b l rest) ≡ false
        → starts_with (a ∷ name) (tagged (b ∷ n) s ++ items (separator_after b s) l rest) ≡ false
    one n none l d k = k
    one n (some t) l d k = rw (append_assoc n t (items 44 l rest), starts_differ name n (t ++ items 44 l rest) d) (and-false (eqb b a))

    go : (l : List Named) → all (λ (i : Named). differ name i.0) l ≡ true → starts_with (a ∷ name) (items b l rest) ≡ false
    go [] d = starts_without 61 (a ∷ name) rest (rw (q.0, or-true)) h.plain
    go (i ∷ l) d = let p = both (differ name i.0) (all (λ (i : Named). differ name i.0) l) d in one i.0 i.1 l p.0 (go l p.1)

-- ---- the writer's string

abbrev pub cost_items : Profile → NumberFields → List Named
cost_items r n =
    (text "m=", write_number r.m n.m)
    ∷ (text "t=", write_number r.t n.t)
    ∷ (text "p=", write_number r.p n.p)
    ∷ []

abbrev pub key_items : List ℕ → List ℕ → List Named
key_items keyid «data» = (text "keyid=", write_bytes keyid) ∷ (text "data=", write_bytes «data») ∷ []

abbrev pub five_items : Profile → NumberFields → List ℕ → List ℕ → List Named
five_items r n keyid «data» = cost_items r n ++ key_items keyid «data»

abbrev pub hashes_text : List ℕ → List ℕ → List ℕ
hashes_text salt output = tagged (text "$") (write_bytes salt) ++ (tagged (text "$") (write_bytes output) ++ [])

-- what stands behind the id
abbrev pub rest_text : Profile → FieldSet → List ℕ
rest_text r f =
    tagged (text "$") (write_version f.numbers.version)
    ++ items 36 (five_items r f.numbers f.keyid f.«data») (hashes_text f.salt f.output)

five : (r : Profile) (n : NumberFields) (keyid «data» : List ℕ) → items_text r n keyid «data» ≡ items 44 (five_items r n keyid «data») []
five r n keyid «data» = simp (comma, append_assoc, append-nil)

row : (a b c d e : List ℕ) → a ++ b ++ c ++ d ++ e ≡ a ++ (b ++ (c ++ (d ++ (e ++ []))))
row a b c d e = simp (append_assoc, append-nil)

pub pieces-row : (r : Profile) (f : FieldSet) → pieces_text r f ≡ (36 ∷ r.name) ++ rest_text r f
pieces-row r f =
    let v = tagged (text "$") (write_version f.numbers.version) in
    let h = hashes_text f.salt f.output in
    row (36 ∷ r.name) v (dollared (items_text r f.numbers f.keyid f.«data»)) (tagged (text "$") (write_bytes f.salt)) (tagged (text "$") (write_bytes f.output))
    ∙ ap (λ (x : List ℕ). (36 ∷ r.name) ++ (v ++ x))
    (ap (λ (x : List ℕ). dollared x ++ h) (five r f.numbers f.keyid f.«data») ∙ dollared-items (five_items r f.numbers f.keyid f.«data») h)
