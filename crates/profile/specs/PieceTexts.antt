-- The string that fields are written to as texts one after the other, each behind its tag, with their lengths: the writer's steps cite it, and
-- the readers above. It is `formatted` (proofs/Texts.antt), so it is no rule of its own.
-- Assumes nothing.
use Rattle.std.specs.Prelude.{ℕ, ◌+◌, List, [], ◌∷◌, ◌++◌, length}
use Rattle.std.proofs.Math.Option.{none, some}
use Rattle.text.specs.Text.{text}
use Rattle.grammar.specs.Bytes.{dollar}
use Rattle.grammar.specs.Pieces.{OptionalText}
use Rattle.table.specs.Limits.{Profile}
use Rattle.profile.specs.Fields.{FieldSet, write_number, write_bytes, write_version}
use Rattle.profile.specs.declared.fields.NumberFields.{NumberFields}

-- a text that may not be there, with its tag before it
abbrev pub tagged : List ℕ → OptionalText → List ℕ
tagged tag none = []
tagged tag (some t) = tag ++ t

-- its length, where the tag has so many bytes
abbrev pub tagged_length : ℕ → OptionalText → ℕ
tagged_length tag none = 0
tagged_length tag (some t) = tag + length t

-- the numbers as items, each with a comma before it
abbrev pub costs_text : Profile → NumberFields → List ℕ
costs_text r n =
    tagged (text ",m=") (write_number r.m n.m)
    ++ tagged (text ",t=") (write_number r.t n.t)
    ++ tagged (text ",p=") (write_number r.p n.p)

-- and keyid and data
abbrev pub items_text : Profile → NumberFields → List ℕ → List ℕ → List ℕ
items_text r n keyid «data» =
    costs_text r n
    ++ tagged (text ",keyid=") (write_bytes keyid)
    ++ tagged (text ",data=") (write_bytes «data»)

-- a `$` in place of the first comma
abbrev pub dollared : List ℕ → List ℕ
dollared [] = []
dollared (c ∷ s) = dollar ∷ s

-- the pieces before the salt
abbrev pub head_text : Profile → NumberFields → List ℕ → List ℕ → List ℕ
head_text r n keyid «data» =
    (dollar ∷ r.name)
    ++ tagged (text "$") (write_version n.version)
    ++ dollared (items_text r n keyid «data»)

-- the whole string
abbrev pub pieces_text : Profile → FieldSet → List ℕ
pieces_text r f =
    head_text r f.numbers f.keyid f.«data»
    ++ tagged (text "$") (write_bytes f.salt)
    ++ tagged (text "$") (write_bytes f.output)

-- ---- lengths

abbrev pub costs_length : Profile → NumberFields → ℕ
costs_length r n =
    tagged_length 3 (write_number r.m n.m)
    + tagged_length 3 (write_number r.t n.t)
    + tagged_length 3 (write_number r.p n.p)

abbrev pub pieces_length : Profile → FieldSet → ℕ
pieces_length r f =
    1 + length r.name
    + tagged_length 1 (write_version f.numbers.version)
    + costs_length r f.numbers
    + tagged_length 7 (write_bytes f.keyid)
    + tagged_length 6 (write_bytes f.«data»)
    + tagged_length 1 (write_bytes f.salt)
    + tagged_length 1 (write_bytes f.output)
