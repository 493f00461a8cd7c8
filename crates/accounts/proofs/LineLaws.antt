-- Rows 18 and 19 of a line, and its answer.
-- Assumes nothing.
use Rattle.std.proofs.Common.{rules, ℕ, ◌+◌, ◌-◌, ◌≤◌, ◌<◌, ◌≡◌, sym, ◌∙◌, ap, true, false, List, length, take, drop, arith}
use Rattle.std.specs.Prelude.{Option, Some, None}
use Rattle.std.specs.List.{position}
use Rattle.std.specs.Option.{unwrap_or}
use Rattle.std.proofs.lemmas.List.Quantifiers.{position-Some}
use borrow.Author.Tests.{lt-ltb, le-ltb, ne_eqb}
use lib.Dec.{eqb}
use Rattle.refusals.specs.Numbers.{number_of}
use Rattle.refusals.proofs.Numbers.{number_pos}
use Rattle.refusals.specs.declared.Refusal.{Refusal}
use Rattle.refusals.specs.declared.Refusal.TheVariants.{LineTooLong}
use Rattle.text.specs.Text.{tab, find}
use Rattle.text.proofs.Library.{find-position}
use Rattle.text.proofs.Splitting.{cut_before, cut_after, found, unfound}
use Rattle.text.proofs.Writing.{tail_part}
use Rattle.grammar.specs.Rules.{is_name}
use Rattle.table.specs.Limits.{edition_two}
use Rattle.profile.specs.Entries.{reading}
use Rattle.profile.specs.Entries.{Reading}
use Rattle.accounts.specs.Lines.{name_of, string_of, line_refusal, line_answer, longest_line}
use Rattle.accounts.specs.declared.line.Answer.{Answer}

-- ---- rows 18 and 19

module _ (l : List ℕ) where
  pub line_long : longest_line < length l → 18 ≡ line_refusal l
  unfolding line_refusal
  line_long h = rw (lt-ltb longest_line (length l) h)

  pub line_untabbed : length l ≤ longest_line → position (λ x. eqb x tab) l ≡ None → 19 ≡ line_refusal l
  unfolding line_refusal
  line_untabbed h e =
      let n : length l ≡ find tab l = sym (ap (λ (o : Option ℕ). unwrap_or o (length l)) e) ∙ find-position tab l in
      rw (le-ltb longest_line (length l) h, unfound tab l (omega arith))

  -- the first tab stands at a place
  module _ (place : ℕ) (e : position (λ x. eqb x tab) l ≡ Some place) where
    place_is : place ≡ find tab l
    place_is = sym (ap (λ (o : Option ℕ). unwrap_or o (length l)) e) ∙ find-position tab l

    tabbed : place < length l
    tabbed = (position-Some (λ x. eqb x tab) l place 0 e).0

    -- the part up to the tab is the name
    name_part : take place l ≡ name_of l
    name_part = ap (λ (n : ℕ). take n l) place_is ∙ sym (cut_before tab l)

    pub line_named : length l ≤ longest_line → is_name (take place l) ≡ true → 0 ≡ line_refusal l
    unfolding line_refusal
    line_named h n = rw (le-ltb longest_line (length l) h, found tab l (omega (arith, place_is, tabbed)), ← name_part, n)

    pub line_unnamed : length l ≤ longest_line → is_name (take place l) ≡ false → 19 ≡ line_refusal l
    unfolding line_refusal
    line_unnamed h n = rw (le-ltb longest_line (length l) h, found tab l (omega (arith, place_is, tabbed)), ← name_part, n)

    -- and that after it the string
    pub string_part : take (length l - (place + 1)) (drop (place + 1) l) ≡ string_of l
    string_part = tail_part l (place + 1) ∙ ap (λ (n : ℕ). drop (n + 1) l) place_is ∙ sym (cut_after tab l)

  -- ---- the answer

  pub answer_refused : (r : Refusal) → number_of r ≡ line_refusal l → ◌≡◌ {A = Answer} (record { number = number_of r; kind = 0 }) (line_answer l)
  unfolding line_answer
  answer_refused r e = rw (← e, ne_eqb (number_of r) 0 (λ z. absurd (omega (arith, number_pos r))))

  pub answer_long : longest_line < length l → ◌≡◌ {A = Answer} (record { number = 18; kind = 0 }) (line_answer l)
  answer_long h = answer_refused LineTooLong (line_long h)

  pub answer_string : 0 ≡ line_refusal l → (s : List ℕ) → s ≡ string_of l → (r : Reading) → r ≡ reading edition_two s
      → ◌≡◌ {A = Answer} (record { number = r.number; kind = r.kind }) (line_answer l)
  unfolding line_answer
  answer_string z s q r e = let k : r ≡ reading edition_two (string_of l) = e ∙ ap (reading edition_two) q in rw (← z, k)
