-- The lines of a text: the first one, and those after it.
-- Assumes nothing.
use Prim.Native.Nat.{ℕ, ◌+◌, ◌-◌, ◌≤◌, ◌<◌}
use mathlib.Core.Bool.{Bool, true, false, cond, ◌||◌, true≢false, false≢true}
use mathlib.Core.List.{List, [], ◌∷◌, ◌++◌, append-nil}
use mathlib.Core.Path.{◌≡◌, refl, sym, ap, ◌∙◌}
use native.Mathlib.Omega.{arith}
use lib.Dec.{eqb}
use lib.ListN.{length, take, drop, length-append, length-drop, drop_of_length-le}
use lib.Seq.{append_snoc}
use Rattle.text.specs.Text.{line_feed, has, next_at, cut, cut_byte}
use Rattle.text.proofs.Splitting.{cut_to, cut-past}
use Rattle.accounts.specs.Lines.{lines_from, lines, lines_left}

-- bytes without a line feed only make the first line longer
pub from_plain_lem : (s u t : List ℕ) → has line_feed s ≡ false → lines_from u (s ++ t) ≡ lines_from (u ++ s) t
from_plain_lem [] u t h = ap (λ (v : List ℕ). lines_from v t) (sym (append-nil u))
from_plain_lem (a ∷ s) u t h = go (eqb a line_feed) (from_plain_lem s (u ++ (a ∷ [])) t) h
  where
    go : (q : Bool) → (has line_feed s ≡ false → lines_from (u ++ (a ∷ [])) (s ++ t) ≡ lines_from (u ++ (a ∷ []) ++ s) t) → (q || has line_feed s) ≡ false
        → cond q (u ∷ lines_from [] (s ++ t)) (lines_from (u ++ (a ∷ [])) (s ++ t)) ≡ lines_from (u ++ (a ∷ s)) t
    go true i h = absurd (true≢false h)
    go false i h = i h ∙ ap (λ (v : List ℕ). lines_from v t) (append_snoc u a s)

-- a first line that has its line feed
pub from_line : (s u t : List ℕ) → has line_feed s ≡ true → lines_from u (s ++ t) ≡ (u ++ (cut line_feed s).0) ∷ lines_from [] ((cut line_feed s).1 ++ t)
from_line [] u t h = absurd (false≢true h)
from_line (a ∷ s) u t h = go (eqb a line_feed) (from_line s (u ++ (a ∷ [])) t) h
  where
    go : (q : Bool) → (has line_feed s ≡ true → lines_from (u ++ (a ∷ [])) (s ++ t) ≡ (u ++ (a ∷ []) ++ (cut line_feed s).0) ∷ lines_from [] ((cut line_feed s).1 ++ t)) → (q || has line_feed s) ≡ true
        → cond q (u ∷ lines_from [] (s ++ t)) (lines_from (u ++ (a ∷ [])) (s ++ t))
        ≡ (u ++ (cut_byte q a s (cut line_feed s)).0) ∷ lines_from [] ((cut_byte q a s (cut line_feed s)).1 ++ t)
    go true i h = ap (λ (v : List ℕ). v ∷ lines_from [] (s ++ t)) (sym (append-nil u))
    go false i h = i h ∙ ap (λ (v : List ℕ). v ∷ lines_from [] ((cut line_feed s).1 ++ t)) (append_snoc u a (cut line_feed s).0)

-- a first line, with its line feed or without
from_first : (s u : List ℕ) → 0 < length u + length s → lines_from u s ≡ (u ++ (cut line_feed s).0) ∷ lines_from [] (cut line_feed s).1
from_first [] [] h = absurd (omega arith)
from_first [] (b ∷ u) h = ap (λ (v : List ℕ). v ∷ []) (sym (append-nil (b ∷ u)))
from_first (a ∷ s) u h = go (eqb a line_feed) (from_first s (u ++ (a ∷ [])) (omega (arith, length-append u (a ∷ []))))
  where
    go : (q : Bool) → lines_from (u ++ (a ∷ [])) s ≡ (u ++ (a ∷ []) ++ (cut line_feed s).0) ∷ lines_from [] (cut line_feed s).1
        → cond q (u ∷ lines_from [] s) (lines_from (u ++ (a ∷ [])) s) ≡ (u ++ (cut_byte q a s (cut line_feed s)).0) ∷ lines_from [] (cut_byte q a s (cut line_feed s)).1
    go true i = ap (λ (v : List ℕ). v ∷ lines_from [] s) (sym (append-nil u))
    go false i = i ∙ ap (λ (v : List ℕ). v ∷ lines_from [] (cut line_feed s).1) (append_snoc u a (cut line_feed s).0)

lines-first : (s : List ℕ) → 0 < length s → lines s ≡ (cut line_feed s).0 ∷ lines (cut line_feed s).1
unfolding lines
lines-first s h = from_first s [] (omega arith)

lines-nil : lines [] ≡ []
unfolding lines
lines-nil = refl

-- ---- by places

-- from the end on there is none
pub none_left : (s : List ℕ) (place : ℕ) → length s ≤ place → lines_left s place ≡ []
none_left s place h = ap lines (drop_of_length-le s {i = place} h) ∙ lines-nil

-- before it the line at the place, which ends at e, and those from after e on
pub line_and_left : (s : List ℕ) (place e : ℕ) → place < length s → e ≡ next_at line_feed s place → lines_left s place ≡ take (e - place) (drop place s) ∷ lines_left s (e + 1)
line_and_left s place e h f =
    let rest : drop (e + 1) s ≡ (cut line_feed (drop place s)).1 = cut-past line_feed s place (e + 1) (omega arith) in
    lines-first (drop place s) (omega (arith, length-drop place s)) ∙ (λ i. sym (cut_to line_feed s place e f) i ∷ lines (sym rest i))

pub some_left : (s : List ℕ) (place : ℕ) → place < length s → 0 < length (lines_left s place)
some_left s place h = omega (arith, ap length (line_and_left s place (next_at line_feed s place) h refl))
