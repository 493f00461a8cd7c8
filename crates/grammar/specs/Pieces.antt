-- 'A string is `$` and then pieces parted by `$`. A piece is the bytes after its `$`': the pieces of a string, sorted.
-- Assumes nothing.
use Rattle.std.specs.Prelude.{ℕ, Bool, true, false, ◌&&◌, List, [], ◌∷◌, ◌++◌, eqb}
use Rattle.std.proofs.Math.Option.{Option, some}
use Rattle.text.specs.Text.{has, Parts, split, join, head_if, tail_if, list_of}
use Rattle.grammar.specs.Bytes.{dollar, equals}
use Rattle.grammar.specs.declared.places.Piece.{Piece}
use Rattle.grammar.specs.declared.places.Piece.TheVariants.{Id, Version, Params, Salt, Output}

-- a text that may not be there
abbrev pub OptionalText : Type 0
OptionalText = Option (List ℕ)

-- 01's pieces, sorted; the first is its id. `more` are the pieces past the output
pub record Pieces : Type 0 where
  pub id : List ℕ
  pub version : OptionalText
  pub params : OptionalText
  pub salt : OptionalText
  pub output : OptionalText
  pub more : List (List ℕ)

-- begins with `v=`
abbrev pub is_version_piece : List ℕ → Bool
is_version_piece [] = false
is_version_piece (c ∷ []) = false
is_version_piece (c ∷ d ∷ s) = eqb c 118 && eqb d equals

-- contains `=`
abbrev pub is_params_piece : List ℕ → Bool
is_params_piece s = has equals s

-- whether the next piece is the one asked for
abbrev pub belongs : Piece → List ℕ → Bool
belongs Id s = true
belongs Version s = is_version_piece s
belongs Params s = is_params_piece s
belongs Salt s = true
belongs Output s = true

-- 'The first piece is the id. If the next piece begins with `v=` it's the version piece. If the piece after those contains `=` it's the parameter
-- piece. What remains is the salt, then the output.'
abbrev pub sort : Parts → Pieces
sort p =
    let after_version = tail_if (belongs Version) p.1 in
    let after_params = tail_if (belongs Params) after_version in
    let after_salt = tail_if (belongs Salt) after_params in
    record {
      id = p.0;
      version = head_if (belongs Version) p.1;
      params = head_if (belongs Params) after_version;
      salt = head_if (belongs Salt) after_params;
      output = head_if (belongs Output) after_salt;
      more = tail_if (belongs Output) after_salt;
    }

-- the bytes after the first, which row 1 wants to be `$`
abbrev pub after_first : List ℕ → List ℕ
after_first [] = []
after_first (c ∷ s) = s

unfoldable pub pieces : List ℕ → Pieces
pieces s = sort (split dollar (after_first s))

abbrev pub piece_in : Pieces → Piece → OptionalText
piece_in p Id = some p.id
piece_in p Version = p.version
piece_in p Params = p.params
piece_in p Salt = p.salt
piece_in p Output = p.output

-- the pieces after the id, in order
abbrev pub after_id : Pieces → List (List ℕ)
after_id p = list_of p.version ++ (list_of p.params ++ (list_of p.salt ++ (list_of p.output ++ p.more)))

-- the string of pieces: a `$` before each
abbrev pub string : Pieces → List ℕ
string p = dollar ∷ join dollar p.id (after_id p)
