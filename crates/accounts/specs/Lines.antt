-- 'one account a line: name, tab, string. A line ends at a line feed; a last line without one counts if it has any byte.' Account text: its lines,
-- and the number of a line.
-- Assumes nothing.
use Rattle.std.specs.Prelude.{ℕ, not, cond, ◌&&◌, List, [], ◌∷◌, ◌++◌, ltb, eqb, length, drop, Result, Ok, Err}
use Rattle.refusals.specs.Numbers.{number_of}
use Rattle.refusals.specs.declared.Refusal.{Refusal}
use Rattle.text.specs.Text.{tab, line_feed, has, cut}
use Rattle.text.specs.Rows.{Row, row, first_number}
use Rattle.grammar.specs.Rules.{is_name}
use Rattle.table.specs.Limits.{edition_two}
use Rattle.profile.specs.Entries.{kind_number, reading}
use Rattle.profile.specs.declared.fields.Kind.{Kind}
use Rattle.accounts.specs.declared.line.Answer.{Answer}

-- ---- lines

-- a last line without a line feed counts if it has any byte
abbrev pub last_line : List ℕ → List (List ℕ)
last_line [] = []
last_line (a ∷ u) = (a ∷ u) ∷ []

-- the lines of a text whose first line has begun with the bytes u: a line ends at a line feed
abbrev pub lines_from : List ℕ → List ℕ → List (List ℕ)
lines_from u [] = last_line u
lines_from u (a ∷ s) = cond (eqb a line_feed) (u ∷ lines_from [] s) (lines_from (u ++ (a ∷ [])) s)

unfoldable pub lines : List ℕ → List (List ℕ)
lines s = lines_from [] s

-- the lines from a place on. Free answers: from past the end there is none; from inside a line the rest of it is a line
abbrev pub lines_left : List ℕ → ℕ → List (List ℕ)
lines_left s from = lines (drop from s)

-- lines as a text, each with its line feed
abbrev pub lines_text : List (List ℕ) → List ℕ
lines_text [] = []
lines_text (l ∷ ls) = l ++ (line_feed ∷ lines_text ls)

-- ---- one line

-- name, tab, string: the string is all after the line's first tab
abbrev pub name_of : List ℕ → List ℕ
name_of l = (cut tab l).0

abbrev pub string_of : List ℕ → List ℕ
string_of l = (cut tab l).1

-- in bytes, without its line feed
abbrev pub longest_line : ℕ
longest_line = 512

-- 'Row 18 is tried before 19, then 1 to 15'
abbrev pub line_rows : List ℕ → List Row
line_rows l =
    row 18 (ltb longest_line (length l))
    ∷ row 19 (not (has tab l && is_name (name_of l)))
    ∷ []

unfoldable pub line_refusal : List ℕ → ℕ
line_refusal l = first_number (line_rows l)

abbrev pub string_answer : List ℕ → Answer
string_answer s = record { number = (reading edition_two s).number; kind = (reading edition_two s).kind }

-- 18 or 19 where that row applies; otherwise what the profile reader gives for the line's own string
unfoldable pub line_answer : List ℕ → Answer
line_answer l = cond (eqb (line_refusal l) 0) (string_answer (string_of l)) (record { number = line_refusal l; kind = 0 })

-- what the entry gives, as that answer
abbrev pub judge_answer : Result Kind Refusal → Answer
judge_answer (Ok k) = record { number = 0; kind = kind_number k }
judge_answer (Err e) = record { number = number_of e; kind = 0 }
