-- A string is the string of its pieces, and pieces that sort as they stand are the pieces of their string.
-- Assumes nothing.
use Prim.Native.Nat.{ℕ}
use mathlib.Core.Bool.{true, false≢true}
use mathlib.Core.List.{List, [], ◌∷◌, ◌++◌}
use mathlib.Core.Path.{◌≡◌, sym, ◌∙◌, ap}
use borrow.Author.Tests.{eqb-true}
use Rattle.text.specs.Text.{Parts, split, join, head_if, tail_if, list_of}
use Rattle.text.proofs.Lists.{join-split, split_join, head_tail, head_of, tail_of}
use Rattle.grammar.specs.Bytes.{dollar}
use Rattle.grammar.specs.Pieces.{Pieces, belongs, sort, after_first, pieces, after_id, string}
use Rattle.grammar.specs.Rules.{begins_with_dollar}
use Rattle.grammar.specs.Claims.{Sorts}
use Rattle.grammar.specs.declared.places.Piece.TheVariants.{Version, Params, Salt, Output}

after_sort : (p : Parts) → after_id (sort p) ≡ p.1
after_sort p =
    let l₁ = tail_if (belongs Version) p.1 in
    let l₂ = tail_if (belongs Params) l₁ in
    let l₃ = tail_if (belongs Salt) l₂ in
    rw (head_tail (belongs Output) l₃, head_tail (belongs Salt) l₂, head_tail (belongs Params) l₁, head_tail (belongs Version) p.1)

first : (s : List ℕ) → begins_with_dollar s ≡ true → dollar ∷ after_first s ≡ s
first [] e = absurd (false≢true e)
first (c ∷ s) e = ap {B = List ℕ} (λ x. x ∷ s) (sym (eqb-true c dollar e))

pub string_pieces : (s : List ℕ) → begins_with_dollar s ≡ true → string (pieces s) ≡ s
unfolding pieces
string_pieces s e =
    let p = split dollar (after_first s) in
    ap {B = List ℕ} (λ l. dollar ∷ join dollar p.0 l) (after_sort p) ∙ ap {B = List ℕ} (λ l. dollar ∷ l) (join-split dollar (after_first s)) ∙ first s e

sort_after : (p : Pieces) → Sorts p → sort (p.id, after_id p) ≡ p
sort_after p h =
    let l₄ = p.more in
    let l₃ = list_of p.output ++ l₄ in
    let l₂ = list_of p.salt ++ l₃ in
    let l₁ = list_of p.params ++ l₂ in
    let t₁ = tail_of (belongs Version) p.version l₁ h.version_fits in
    let t₂ = ap (tail_if (belongs Params)) t₁ ∙ tail_of (belongs Params) p.params l₂ h.params_fits in
    let t₃ = ap (tail_if (belongs Salt)) t₂ ∙ tail_of (belongs Salt) p.salt l₃ h.salt_fits in
    let t₄ = ap (tail_if (belongs Output)) t₃ ∙ tail_of (belongs Output) p.output l₄ h.output_fits in
    let e₁ = head_of (belongs Version) p.version l₁ h.version_fits in
    let e₂ = ap (head_if (belongs Params)) t₁ ∙ head_of (belongs Params) p.params l₂ h.params_fits in
    let e₃ = ap (head_if (belongs Salt)) t₂ ∙ head_of (belongs Salt) p.salt l₃ h.salt_fits in
    let e₄ = ap (head_if (belongs Output)) t₃ ∙ head_of (belongs Output) p.output l₄ h.output_fits in
    λ i. record { id = p.id; version = e₁ i; params = e₂ i; salt = e₃ i; output = e₄ i; more = t₄ i }

pub pieces_string : (p : Pieces) → Sorts p → pieces (string p) ≡ p
unfolding pieces
pieces_string p h = ap sort (split_join dollar p.id (after_id p) h.id_free h.others_free) ∙ sort_after p h
