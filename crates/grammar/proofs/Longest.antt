-- A string whose pieces keep their rules has at most 2,896 bytes, and a piece that is there is not empty.
-- Assumes nothing.
use Prim.Native.Nat.{ℕ, suc, ◌≤◌, ◌<◌, ◌+◌, ◌*◌}
use mathlib.Core.Bool.{Bool, true, false, true≢false, false≢true}
use mathlib.Core.List.{List, [], ◌∷◌, ◌++◌, map}
use mathlib.Core.Option.{none, some}
use mathlib.Core.Path.{◌≡◌, refl, sym, ◌∙◌, ap}
use native.Mathlib.Omega.{arith}
use lib.Dec.{leb, eqb}
use lib.ListN.{length, length-append}
use borrow.Author.Tests.{leb-true}
use Rattle.text.specs.Text.{within, all, split, cut, list_of, violates}
use Rattle.text.specs.Rows.{first_number}
use Rattle.text.proofs.Tests.{both, is_true, from_within}
use Rattle.text.proofs.Rows.{Clear, clear}
use Rattle.text.proofs.Joining.{total, join-length, total-none}
use Rattle.b64.specs.B64.{canonical}
use Rattle.decimal.specs.Decimal.{is_decimal, digits}
use Rattle.decimal.specs.Numerals.{numeral, limited_reading, limited_number}
use Rattle.decimal.specs.declared.error.DecimalError.{DecimalError}
use Rattle.decimal.specs.declared.error.DecimalError.TheVariants.{Malformed, Outside}
use Rattle.std.specs.Prelude.{Result, Ok, Err}
use Rattle.decimal.proofs.DecimalLaws.{length_digits}
use Rattle.decimal.proofs.NumeralLaws.{digits_limited}
use Rattle.grammar.specs.Bytes.{dollar, comma, equals, is_text}
use Rattle.grammar.specs.Limits.{longest_string}
use Rattle.grammar.specs.Pieces.{OptionalText, Pieces, pieces, piece_in, after_id, string}
use Rattle.grammar.specs.Items.{Item, item_text, items}
use Rattle.grammar.specs.Rules.{is_name, is_value, is_item, is_params, version_reading, is_version, is_output, rule_of, breaks, piece_rows, grammar_number}
use Rattle.grammar.specs.declared.places.Piece.{Piece}
use Rattle.grammar.specs.declared.places.Piece.TheVariants.{Id, Version, Params, Salt, Output}
use Rattle.grammar.proofs.ItemLaws.{item-name, item-value, join-items}
use Rattle.grammar.proofs.Reading.{accepted_rows}

-- ---- lengths

text-length : (class : ℕ → Bool) (most : ℕ) (s : List ℕ) → is_text class most s ≡ true → length s ≤ most
unfolding is_text
text-length class most s e = (from_within 1 most (length s) (both (within 1 most (length s)) (all class s) e).0).1

item-length : (i : Item) → is_item i ≡ true → length (item_text i) ≤ 161
item-length i e =
    let n = text-length _ 32 i.0 (item-name i e) in
    let v = text-length _ 128 i.1 (item-value i e) in
    omega (arith, length-append i.0 (equals ∷ i.1))

items-total : (is : List Item) → all is_item is ≡ true → total (map item_text is) ≤ 162 * length is
unfolding total
items-total [] e = omega arith
items-total (i ∷ is) e =
    let q = both (is_item i) (all is_item is) e in
    let h = item-length i q.0 in
    let k = items-total is q.1 in
    omega arith

-- at most n bytes, if there
abbrev Short : ℕ → OptionalText → Type 0
Short n none = Unit {0}
Short n (some t) = length t ≤ n

add-value : (n : ℕ) (s : OptionalText) (l : List (List ℕ)) → Short n s → total (list_of s ++ l) ≤ suc n + total l
unfolding total
add-value n none l h = omega arith
add-value n (some t) l h = omega arith

version_digits : (s : List ℕ) (r : Result ℕ DecimalError) → limited_reading 0 4294967295 s ≡ r → eqb (limited_number r) 0 ≡ true → length s ≤ 10
version_digits s (Err Malformed) e z = absurd (false≢true z)
version_digits s (Err Outside) e z = absurd (false≢true z)
version_digits s (Ok n) e z =
    let p = digits_limited 0 4294967295 s n e in
    let h : length (digits n) ≤ 10 = length_digits 9 n (omega (arith, p.2)) in
    omega (arith, ap length p.0)

version_short : (s : OptionalText) → violates is_version s ≡ false → Short 12 s
unfolding is_version version_reading limited_reading numeral is_decimal
version_short none e = tt
version_short (some []) e = absurd (true≢false e)
version_short (some (c ∷ [])) e = absurd (true≢false e)
version_short (some (c ∷ d ∷ t)) e = let h = version_digits t (limited_reading 0 4294967295 t) refl (is_true _ e) in omega arith

params_short : (s : OptionalText) → violates is_params s ≡ false → Short 2591 s
unfolding is_params
params_short none e = tt
params_short (some s) e =
    let q = both (leb (length (items s)) 16) (all is_item (items s)) (is_true (is_params s) e) in
    let i = cut equals (split comma s).0 in
    let is = map (cut equals) (split comma s).1 in
    let n = leb-true (length (items s)) 16 q.0 in
    let k = both (is_item i) (all is_item is) q.1 in
    let a = item-length i k.0 in
    let b = items-total is k.1 in
    let c = join-length comma (item_text i) (map item_text is) in
    let d = ap length (join-items s q.1) in
    omega arith

value_short : (s : OptionalText) → violates is_value s ≡ false → Short 128 s
value_short none e = tt
value_short (some s) e = text-length _ 128 s (is_true (is_value s) e)

output_short : (s : OptionalText) → violates is_output s ≡ false → Short 128 s
unfolding is_output
output_short none e = tt
output_short (some s) e = (from_within 1 128 (length s) (both (within 1 128 (length s)) (canonical s) (is_true (is_output s) e)).0).1

string-length : (p : Pieces) → Clear (piece_rows p) → length (string p) ≤ longest_string
string-length p (a, (b, (c, (d, (e, (f, g)))))) =
    let n = text-length _ 32 p.id (is_true (is_name p.id) a) in
    let l₄ = p.more in
    let l₃ = list_of p.output ++ l₄ in
    let l₂ = list_of p.salt ++ l₃ in
    let l₁ = list_of p.params ++ l₂ in
    let h₁ = add-value 12 p.version l₁ (version_short p.version b) in
    let h₂ = add-value 2591 p.params l₂ (params_short p.params c) in
    let h₃ = add-value 128 p.salt l₃ (value_short p.salt d) in
    let h₄ = add-value 128 p.output l₄ (output_short p.output e) in
    let h₅ = total-none p.more f in
    let h₆ = join-length dollar p.id (after_id p) in
    omega arith

pub at_most : (p : Pieces) → first_number (piece_rows p) ≡ 0 → length (string p) ≤ longest_string
at_most p e = string-length p (clear (piece_rows p) refl e)

-- ---- no rule allows the empty text

empty-breaks : (w : Piece) → rule_of w [] ≡ false
unfolding is_text is_item is_params is_version version_reading is_output limited_reading numeral is_decimal
empty-breaks Id = refl
empty-breaks Version = refl
empty-breaks Params = refl
empty-breaks Salt = refl
empty-breaks Output = refl

kept : (p : Pieces) → Clear (piece_rows p) → (w : Piece) → breaks p w ≡ false
kept p c Id = c.0
kept p c Version = c.1.0
kept p c Params = c.1.1.0
kept p c Salt = c.1.1.1.0
kept p c Output = c.1.1.1.1.0

filled : (w : Piece) (t : List ℕ) → violates (rule_of w) (some t) ≡ false → 0 < length t
filled w [] e = absurd (false≢true (sym (empty-breaks w) ∙ is_true (rule_of w []) e))
filled w (c ∷ t) e = omega arith

pub never_empty : (s : List ℕ) → grammar_number s ≡ 0 → (w : Piece) (t : List ℕ) → piece_in (pieces s) w ≡ some t → 0 < length t
never_empty s e w t q = filled w t (rw q at (kept (pieces s) (accepted_rows s e).1 w))
