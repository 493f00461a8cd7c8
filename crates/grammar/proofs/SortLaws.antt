-- A step of the sorting from a place, and five of them: the sorted pieces of the string.
-- Assumes nothing.
use Prim.Native.Nat.{ℕ, suc, ◌+◌, ◌-◌, ◌≤◌, ◌<◌}
use mathlib.Core.Path.{◌≡◌, sym, ap, ◌∙◌}
use mathlib.Core.List.{List, [], ◌∷◌}
use mathlib.Core.Bool.{true, false, not, false≢true}
use native.Mathlib.Omega.{arith}
use borrow.Author.Tests.{le-leb}
use lib.Dec.{leb}
use lib.ListN.{length, take, drop, length-drop}
use lib.Seq.{length-take-le}
use Rattle.text.specs.Text.{find, empty, split, parts, head_if, tail_if, parts_from}
use Rattle.text.proofs.Scanning.{find_from_le}
use Rattle.text.proofs.Splitting.{from_to, from_past, some_from}
use Rattle.grammar.specs.Bytes.{dollar}
use Rattle.grammar.specs.Pieces.{belongs, after_first, pieces}
use Rattle.grammar.specs.Rules.{begins_with_dollar}
use Rattle.grammar.specs.Layout.{span, span_from, past}
use Rattle.grammar.specs.SortingSteps.{Stepped, sorted_of}
use Rattle.grammar.specs.declared.places.Piece.{Piece}
use Rattle.grammar.specs.declared.places.Piece.TheVariants.{Id, Version, Params, Salt, Output}
use Rattle.grammar.specs.declared.places.Span.{Span}
use Rattle.grammar.specs.declared.sorting.Sorted.{Sorted}

module _ (s : List ℕ) (w : Piece) (at : ℕ) where
  pub stepped_past : length s < at → Stepped s w at (span 0 0) at
  stepped_past h =
      let e = from_past dollar s at h in
      record { found = rw e; next_is = rw e; left = rw e }

  module _ (h : at ≤ length s) (e : ℕ) (p : e ≡ at + find dollar (drop at s)) where
    pub stepped_to : belongs w (take (e - at) (drop at s)) ≡ true → Stepped s w at (span at (e - at)) (e + 1)
    stepped_to b =
        let q = from_to dollar s at h e p in
        let l : length (take (e - at) (drop at s)) ≡ e - at = length-take-le (e - at) (drop at s) (omega (arith, length-drop at s, find_from_le dollar s at h)) in
        record { found = rw (q, b, l); next_is = rw (q, b, l) (omega arith); left = rw (q, b) }

    pub stepped_not : belongs w (take (e - at) (drop at s)) ≡ false → Stepped s w at (span 0 0) at
    stepped_not b =
        let q = from_to dollar s at h e p in
        record { found = rw (q, b); next_is = rw (q, b); left = rw (q, b) }

-- the parts after the first byte
pub parts_after_first : (s : List ℕ) → begins_with_dollar s ≡ true → parts_from dollar s 1 ≡ parts dollar (after_first s)
unfolding parts_from
parts_after_first [] e = absurd (false≢true e)
parts_after_first (c ∷ s) e = rw (le-leb 1 (suc (length s)) (omega arith))

-- five steps from the first piece on sort the string
module _ (s : List ℕ) (h : begins_with_dollar s ≡ true) (id version params salt output : Span) (n₁ n₂ n₃ n₄ n₅ : ℕ)
    (a : Stepped s Id 1 id n₁) (b : Stepped s Version n₁ version n₂) (c : Stepped s Params n₂ params n₃)
    (d : Stepped s Salt n₃ salt n₄) (e : Stepped s Output n₄ output n₅) where
  -- a step from a place whose parts are known
  at_known : (w : Piece) (at : ℕ) (span : Span) (next : ℕ) (l : List (List ℕ)) → parts_from dollar s at ≡ l → Stepped s w at span next
      → (span ≡ span_from at (head_if (belongs w) l)) × (next ≡ past at (head_if (belongs w) l)) × (parts_from dollar s next ≡ tail_if (belongs w) l)
  at_known w at span next l q t = (rw q at t.found, rw q at t.next_is, rw q at t.left)

  pub sorts : ◌≡◌ {A = Sorted}
      (record {
        places = record { id = id; version = version; params = params; salt = salt; output = output };
        more = leb n₅ (length s);
      })
      (sorted_of (pieces s))
  unfolding pieces
  sorts =
      let p = split dollar (after_first s) in
      let l₁ = p.1 in
      let l₂ = tail_if (belongs Version) l₁ in
      let l₃ = tail_if (belongs Params) l₂ in
      let l₄ = tail_if (belongs Salt) l₃ in
      let (f₁, m₁, q₁) = at_known Id 1 id n₁ (p.0 ∷ p.1) (parts_after_first s h) a in
      let (f₂, m₂, q₂) = at_known Version n₁ version n₂ l₁ q₁ b in
      let (f₃, m₃, q₃) = at_known Params n₂ params n₃ l₂ q₂ c in
      let (f₄, m₄, q₄) = at_known Salt n₃ salt n₄ l₃ q₃ d in
      let (f₅, m₅, q₅) = at_known Output n₄ output n₅ l₄ q₄ e in
      let k₂ = m₂ ∙ ap (λ (n : ℕ). past n (head_if (belongs Version) l₁)) m₁ in
      let k₃ = m₃ ∙ ap (λ (n : ℕ). past n (head_if (belongs Params) l₂)) k₂ in
      let k₄ = m₄ ∙ ap (λ (n : ℕ). past n (head_if (belongs Salt) l₃)) k₃ in
      let g₂ = f₂ ∙ ap (λ (n : ℕ). span_from n (head_if (belongs Version) l₁)) m₁ in
      let g₃ = f₃ ∙ ap (λ (n : ℕ). span_from n (head_if (belongs Params) l₂)) k₂ in
      let g₄ = f₄ ∙ ap (λ (n : ℕ). span_from n (head_if (belongs Salt) l₃)) k₃ in
      let g₅ = f₅ ∙ ap (λ (n : ℕ). span_from n (head_if (belongs Output) l₄)) k₄ in
      let g₆ = sym (some_from dollar s n₅) ∙ ap (λ (l : List (List ℕ)). not (empty l)) q₅ in
      λ i. record {
        places = record { id = f₁ i; version = g₂ i; params = g₃ i; salt = g₄ i; output = g₅ i };
        more = g₆ i;
      }
