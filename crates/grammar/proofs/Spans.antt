-- The span of a piece holds that piece, and an absent piece has the span 0 and 0.
-- Assumes nothing.
use Prim.Native.Nat.{ℕ, ◌+◌, ◌≤◌, ◌<◌}
use mathlib.Core.Path.{◌≡◌, refl, sym, ap, ◌∙◌}
use mathlib.Core.List.{List, [], ◌∷◌, ◌++◌}
use mathlib.Core.Option.{none, some}
use mathlib.Core.Bool.{Bool, true, false, cond}
use native.Mathlib.Omega.{arith}
use borrow.Author.Tests.{le-leb, leb-true, leb-false}
use lib.Dec.{leb}
use lib.ListN.{length, take, drop, length-drop}
use lib.Seq.{length-take-le}
use Rattle.text.specs.Text.{find, split, head_if, tail_if, list_of, parts_from}
use Rattle.text.specs.Place.{has_room}
use Rattle.text.proofs.Lists.{head_tail}
use Rattle.text.proofs.Scanning.{find_from_le}
use Rattle.text.proofs.Splitting.{from_step, from_past}
use Rattle.grammar.specs.Bytes.{dollar}
use Rattle.grammar.specs.Pieces.{OptionalText, belongs, after_first, pieces, piece_in}
use Rattle.grammar.specs.Rules.{begins_with_dollar}
use Rattle.grammar.specs.Layout.{span, span_from, past, places_of, span_of}
use Rattle.grammar.specs.Parts.{part_at}
use Rattle.grammar.specs.declared.places.Piece.{Piece}
use Rattle.grammar.specs.declared.places.Piece.TheVariants.{Id, Version, Params, Salt, Output}
use Rattle.grammar.specs.declared.places.Span.{Span}
use Rattle.grammar.proofs.SortLaws.{parts_after_first}

-- a span and a piece that may not be there: the part is the piece, and the place is 0 exactly where it is absent
abbrev pub Holds : List ℕ → Span → OptionalText → Type 0
Holds s w none = w ≡ span 0 0
Holds s w (some t) = (0 < w.at) × (part_at s w ≡ t)

-- the part of a span that lies inside
module _ (s : List ℕ) (w : Span) where
  pub part_inside : has_room (length s) w.at w.len.0 ≡ true → part_at s w ≡ take w.len.0 (drop w.at s)
  unfolding part_at
  part_inside h = rw h

pub part_empty : (s : List ℕ) → part_at s (span 0 0) ≡ []
unfolding part_at
part_empty s = go (leb (0 + 0) (length s))
  where
    go : (b : Bool) → ◌≡◌ {A = List ℕ} (cond b [] []) []
    go true = refl
    go false = refl

inside : (s : List ℕ) (at : ℕ) (t : List ℕ) (l : List (List ℕ)) → parts_from dollar s at ≡ t ∷ l → at ≤ length s
    → (part_at s (span at (length t)) ≡ t) × (parts_from dollar s (at + length t + 1) ≡ l)
unfolding part_at
inside s at t l q h =
    let n = find dollar (drop at s) in
    let b = find_from_le dollar s at h in
    let e : take n (drop at s) ∷ parts_from dollar s (at + n + 1) ≡ t ∷ l = sym (from_step dollar s at h) ∙ q in
    let e₁ : take n (drop at s) ≡ t = cc in
    let e₂ : parts_from dollar s (at + n + 1) ≡ l = cc in
    let k : length t ≡ n = ap length (sym e₁) ∙ length-take-le n (drop at s) (omega (arith, length-drop at s)) in
    (rw (k, le-leb (at + n) (length s) b) e₁, rw k e₂)

-- the first part from a place on is what the span of its length holds
first_part : (s : List ℕ) (at : ℕ) (t : List ℕ) (l : List (List ℕ)) → parts_from dollar s at ≡ t ∷ l
    → (part_at s (span at (length t)) ≡ t) × (parts_from dollar s (at + length t + 1) ≡ l)
first_part s at t l q = go (leb at (length s)) refl
  where
    go : (b : Bool) → leb at (length s) ≡ b → (part_at s (span at (length t)) ≡ t) × (parts_from dollar s (at + length t + 1) ≡ l)
    go true b = inside s at t l q (leb-true at (length s) b)
    go false b = let e : ◌≡◌ {A = List (List ℕ)} [] (t ∷ l) = sym (from_past dollar s at (leb-false at (length s) b)) ∙ q in let z : ◌≡◌ {A = ℕ} 0 1 = cc in absurd (omega arith)

-- a piece that may not be there, at a place whose parts are known, and the place of the next
optional_part : (s : List ℕ) (at : ℕ) (o : OptionalText) (l : List (List ℕ)) → 0 < at → parts_from dollar s at ≡ list_of o ++ l
    → Holds s (span_from at o) o × (0 < past at o) × (parts_from dollar s (past at o) ≡ l)
optional_part s at none l z q = (refl, z, q)
optional_part s at (some t) l z q = let p = first_part s at t l q in ((z, p.0), omega arith, p.1)

-- each span of a string that begins with `$` holds its piece
pub spans : (s : List ℕ) → begins_with_dollar s ≡ true → (w : Piece) → Holds s (span_of (places_of (pieces s)) w) (piece_in (pieces s) w)
unfolding pieces
spans s h w = pick w
  where
    p : List ℕ × List (List ℕ)
    p = split dollar (after_first s)

    step : (f : Piece) (at : ℕ) (l : List (List ℕ)) → 0 < at → parts_from dollar s at ≡ l
        → Holds s (span_from at (head_if (belongs f) l)) (head_if (belongs f) l) × (0 < past at (head_if (belongs f) l)) × (parts_from dollar s (past at (head_if (belongs f) l)) ≡ tail_if (belongs f) l)
    step f at l z q = optional_part s at (head_if (belongs f) l) (tail_if (belongs f) l) z (q ∙ sym (head_tail (belongs f) l))

    id : Holds s (span_from 1 (some p.0)) (some p.0) × (0 < past 1 (some p.0)) × (parts_from dollar s (past 1 (some p.0)) ≡ p.1)
    id = optional_part s 1 (some p.0) p.1 (omega arith) (parts_after_first s h)

    pick : (w : Piece) → Holds s (span_of (places_of (pieces s)) w) (piece_in (pieces s) w)
    pick Id = id.0
    pick Version = (step Version _ _ id.1 id.2).0
    pick Params = let v = step Version _ _ id.1 id.2 in (step Params _ _ v.1 v.2).0
    pick Salt = let v = step Version _ _ id.1 id.2 in let p = step Params _ _ v.1 v.2 in (step Salt _ _ p.1 p.2).0
    pick Output =
        let v = step Version _ _ id.1 id.2 in
        let p = step Params _ _ v.1 v.2 in
        let t = step Salt _ _ p.1 p.2 in
        (step Output _ _ t.1 t.2).0
