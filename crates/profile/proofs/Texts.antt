-- The string that fields are written to, piece by piece as the writer puts it, and its length.
-- Assumes nothing.
use Prim.Native.Nat.{ℕ}
use mathlib.Core.List.{List, [], ◌∷◌, ◌++◌, map, append-nil, append_assoc}
use mathlib.Core.Option.{none, some}
use mathlib.Core.Path.{◌≡◌, refl, sym, ◌∙◌, ap}
use native.Mathlib.Omega.{arith}
use lib.ListN.{length, length-append}
use Rattle.text.specs.Text.{text, list_of}
use Rattle.text.proofs.Joining.{marked, join-marked, append-five, length-five}
use Rattle.grammar.specs.Pieces.{OptionalText}
use Rattle.grammar.specs.Items.{Item, item_text, params_text}
use Rattle.table.specs.Limits.{Profile, profile_of}
use Rattle.profile.specs.Fields.{FieldSet, write_number, write_bytes, write_version}
use Rattle.profile.specs.Reader.{parameter_names}
use Rattle.profile.specs.Writer.{item, item_list, field_values, field_pieces, formatted}
use Rattle.profile.specs.PieceTexts.{tagged, tagged_length, items_text, dollared, pieces_text, pieces_length}

-- ---- tagged texts, each with a separator before it

optional_marked : (s : OptionalText) (l : List (List ℕ)) → marked 36 (list_of s ++ l) ≡ tagged (text "$") s ++ marked 36 l
optional_marked none l = refl
optional_marked (some t) l = refl

item-marked : (n : List ℕ) (s : OptionalText) (is : List Item)
    → marked 44 (map item_text (item n s ++ is)) ≡ tagged (44 ∷ (n ++ 61 ∷ [])) s ++ marked 44 (map item_text is)
item-marked n none is = refl
item-marked n (some t) is =
    ap (λ (l : List ℕ). 44 ∷ (l ++ marked 44 (map item_text is))) (sym (append_assoc n (61 ∷ []) t))

params_marked : (is : List Item) → tagged (text "$") (params_text is) ≡ dollared (marked 44 (map item_text is))
params_marked [] = refl
params_marked (i ∷ is) = ap (λ (l : List ℕ). 36 ∷ l) (join-marked 44 (item_text i) (map item_text is))

-- ---- the items and the pieces

items_are : (r : Profile) (f : FieldSet) → marked 44 (map item_text (item_list parameter_names (field_values r f))) ≡ items_text r f.numbers f.keyid f.«data»
items_are r f =
    let n = f.numbers in
    let «data» = item (text "data") (write_bytes f.«data») ++ [] in
    let keyid = item (text "keyid") (write_bytes f.keyid) ++ «data» in
    let p = item (text "p") (write_number r.p n.p) ++ keyid in
    let t = item (text "t") (write_number r.t n.t) ++ p in
    rw (
      item-marked (text "m") (write_number r.m n.m) t,
      item-marked (text "t") (write_number r.t n.t) p,
      item-marked (text "p") (write_number r.p n.p) keyid,
      item-marked (text "keyid") (write_bytes f.keyid) «data»,
      item-marked (text "data") (write_bytes f.«data») [],
      append-nil,
    ) (append-five (tagged (text ",m=") (write_number r.m n.m)) (tagged (text ",t=") (write_number r.t n.t)) (tagged (text ",p=") (write_number r.p n.p)) (tagged (text ",keyid=") (write_bytes f.keyid)) (tagged (text ",data=") (write_bytes f.«data»)))

pub formatted_is : (e : List Profile) (f : FieldSet) → formatted e f ≡ pieces_text (profile_of e f.numbers.id) f
unfolding formatted field_pieces
formatted_is e f =
    let r = profile_of e f.numbers.id in
    let params = params_text (item_list parameter_names (field_values r f)) in
    let output = list_of (write_bytes f.output) ++ [] in
    let salt = list_of (write_bytes f.salt) ++ output in
    let rest = list_of params ++ salt in
    rw (
      join-marked 36 r.name (list_of (write_version f.numbers.version) ++ rest),
      optional_marked (write_version f.numbers.version) rest,
      optional_marked params salt,
      optional_marked (write_bytes f.salt) output,
      optional_marked (write_bytes f.output) [],
      params_marked (item_list parameter_names (field_values r f)),
      items_are r f,
      append-nil (tagged (text "$") (write_bytes f.output)),
    ) (append-five (36 ∷ r.name) (tagged (text "$") (write_version f.numbers.version)) (dollared (items_text r f.numbers f.keyid f.«data»)) (tagged (text "$") (write_bytes f.salt)) (tagged (text "$") (write_bytes f.output)))

-- ---- lengths

pub tagged-length : (tag : List ℕ) (s : OptionalText) → length (tagged tag s) ≡ tagged_length (length tag) s
tagged-length tag none = refl
tagged-length tag (some t) = length-append tag t

pub dollared-length : (s : List ℕ) → length (dollared s) ≡ length s
dollared-length [] = refl
dollared-length (c ∷ s) = refl

pub pieces-length : (r : Profile) (f : FieldSet) → length (pieces_text r f) ≡ pieces_length r f
pieces-length r f =
    let n = f.numbers in
    let m = write_number r.m n.m in
    let t = write_number r.t n.t in
    let p = write_number r.p n.p in
    let keyid = write_bytes f.keyid in
    let «data» = write_bytes f.«data» in
    let version = write_version n.version in
    let salt = write_bytes f.salt in
    let output = write_bytes f.output in
    let items = items_text r n f.keyid f.«data» in
    omega (
      arith,
      length-five (36 ∷ r.name) (tagged (text "$") version) (dollared items) (tagged (text "$") salt) (tagged (text "$") output),
      length-five (tagged (text ",m=") m) (tagged (text ",t=") t) (tagged (text ",p=") p) (tagged (text ",keyid=") keyid) (tagged (text ",data=") «data»),
      dollared-length items,
      tagged-length (text ",m=") m,
      tagged-length (text ",t=") t,
      tagged-length (text ",p=") p,
      tagged-length (text ",keyid=") keyid,
      tagged-length (text ",data=") «data»,
      tagged-length (text "$") version,
      tagged-length (text "$") salt,
      tagged-length (text "$") output,
    )

pub formatted-length : (e : List Profile) (f : FieldSet)
    → length (formatted e f) ≡ pieces_length (profile_of e f.numbers.id) f
formatted-length e f =
    ap length (formatted_is e f) ∙ pieces-length (profile_of e f.numbers.id) f
