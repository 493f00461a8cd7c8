-- 'Kinds are `parameters`, `salt`, `hash`. With no lines the header stands alone.' The text of the listing: a header, and a line for each line of
-- the input. Each ends in a line feed.
-- Assumes nothing.
use Rattle.std.specs.Prelude.{ℕ, suc, ◌-◌, ◌^◌, cond, List, [], ◌∷◌, ◌++◌, eqb, ltb}
use Rattle.text.specs.Text.{text, tab, line_feed}
use Rattle.decimal.specs.Decimal.{digits}
use Rattle.accounts.specs.Lines.{lines, line_answer}
use Rattle.accounts.specs.declared.line.Answer.{Answer}

-- line, answer, kind, parted by tabs
abbrev pub header : List ℕ
header = text "line" ++ (tab ∷ (text "answer" ++ (tab ∷ (text "kind" ++ (line_feed ∷ [])))))

-- the name of a kind; `-` for kind 0, a refused line. Free answer: `-` for a kind past 3 too, which only an answer made by hand has
abbrev pub kind_text : ℕ → List ℕ
kind_text k = cond (eqb k 1) (text "parameters") (cond (eqb k 2) (text "salt") (cond (eqb k 3) (text "hash") (text "-")))

abbrev pub kind_line : ℕ → List ℕ
kind_line k = kind_text k ++ (line_feed ∷ [])

-- the number of a line, its answer and its kind. Free answer: an answer made by hand is shown as it is
unfoldable pub row_text : ℕ → Answer → List ℕ
row_text n a = digits n ++ (tab ∷ []) ++ digits a.number ++ (tab ∷ []) ++ kind_line a.kind

abbrev pub largest_line_number : ℕ
largest_line_number = 2 ^ 64 - 1

-- the number of the next line. Free answer: the line after the largest u64 has that number again
unfoldable pub next_line : ℕ → ℕ
next_line n = cond (ltb n largest_line_number) (suc n) n

-- the rows of lines of which the first has the number n
abbrev pub rows_from : ℕ → List (List ℕ) → List ℕ
rows_from n [] = []
rows_from n (l ∷ ls) = row_text n (line_answer l) ++ rows_from (next_line n) ls

unfoldable pub listing : List ℕ → List ℕ
listing s = header ++ rows_from 1 (lines s)
