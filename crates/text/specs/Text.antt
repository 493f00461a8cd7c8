-- Texts as lists of numbers. In this order: the text of a literal; the tab and the line feed; tests on every element, on two texts and on a
-- beginning; the place of an element; the parts between separators and the way back; what stands before and after a separator; a first element
-- that passes a test.
-- Assumes nothing.
use Rattle.std.specs.Prelude.{ℕ, suc, ◌+◌, ◌≡◌, Bool, true, false, not, cond, ◌&&◌, ◌||◌, List, [], ◌∷◌, ◌++◌, leb, eqb, length, drop}
use Prim.Native.Char.{code}
use Prim.Native.String.{String, [] as nil, ◌∷◌ as ◌⊳◌}
use Rattle.std.proofs.Math.Option.{Option, none, some}

-- the bytes of a text of ASCII characters
abbrev pub text : String → List ℕ
text nil = []
text (◌⊳◌ c s) = code c ∷ text s

abbrev pub tab : ℕ
tab = 9

abbrev pub line_feed : ℕ
line_feed = 10

-- ---- tests

-- low ≤ n ≤ high
abbrev pub within : ℕ → ℕ → ℕ → Bool
within low high n = leb low n && leb n high

abbrev pub is_byte : ℕ → Bool
is_byte c = leb c 255

abbrev pub all : {A : Type 0} → (A → Bool) → List A → Bool
all f [] = true
all f (x ∷ xs) = f x && all f xs

-- f passes at each element and its place, counted from k
abbrev pub every : {A : Type 0} → (ℕ → A → Bool) → ℕ → List A → Bool
every f k [] = true
every f k (x ∷ xs) = f k x && every f (suc k) xs

abbrev pub has : ℕ → List ℕ → Bool
has d [] = false
has d (c ∷ cs) = eqb c d || has d cs

abbrev pub same : List ℕ → List ℕ → Bool
same [] [] = true
same [] (b ∷ bs) = false
same (a ∷ s) [] = false
same (a ∷ s) (b ∷ bs) = eqb a b && same s bs

abbrev pub empty : {A : Type 0} → List A → Bool
empty [] = true
empty (x ∷ xs) = false

-- the elements of a class at the start of a text
abbrev pub run : (ℕ → Bool) → List ℕ → List ℕ
run f [] = []
run f (c ∷ s) = cond (f c) (c ∷ run f s) []

-- the second text begins with the first
abbrev pub starts_with : List ℕ → List ℕ → Bool
starts_with [] t = true
starts_with (c ∷ l) [] = false
starts_with (c ∷ l) (d ∷ t) = eqb d c && starts_with l t

-- ---- places

-- how many elements stand before the first d; all of them where there is none
abbrev pub find : ℕ → List ℕ → ℕ
find d [] = 0
find d (c ∷ cs) = cond (eqb c d) 0 (suc (find d cs))

-- the place of the first d from a place on; the end where there is none.
-- Free answer: past the end it is the place itself
abbrev pub next_at : ℕ → List ℕ → ℕ → ℕ
next_at d s from = from + find d (drop from s)

-- ---- the parts between separators

-- the parts between the separators d: the first, and the others
abbrev pub Parts : Type 0
Parts = List ℕ × List (List ℕ)

abbrev pub put_byte : Bool → ℕ → Parts → Parts
put_byte true c p = ([], p.0 ∷ p.1)
put_byte false c p = (c ∷ p.0, p.1)

abbrev pub split : ℕ → List ℕ → Parts
split d [] = ([], [])
split d (c ∷ cs) = put_byte (eqb c d) c (split d cs)

-- the same as one list
abbrev pub parts : ℕ → List ℕ → List (List ℕ)
parts d s = (split d s).0 ∷ (split d s).1

-- the parts between the separators from a place on; none past the end
unfoldable pub parts_from : ℕ → List ℕ → ℕ → List (List ℕ)
parts_from d s at = cond (leb at (length s)) (parts d (drop at s)) []

-- the parts joined
abbrev pub concat : List (List ℕ) → List ℕ
concat [] = []
concat (p ∷ ps) = p ++ concat ps

-- the parts with d between each two
abbrev pub join : ℕ → List ℕ → List (List ℕ) → List ℕ
join d p [] = p
join d p (q ∷ qs) = p ++ d ∷ join d q qs

-- no part has the separator
abbrev pub NoneHas : ℕ → List (List ℕ) → Type 0
NoneHas d [] = Unit {0}
NoneHas d (p ∷ ps) = (has d p ≡ false) × NoneHas d ps

-- ---- before and after the first separator

-- what stands before the first d, and what stands after it; all and nothing where there is none
abbrev pub cut_byte : Bool → ℕ → List ℕ → List ℕ × List ℕ → List ℕ × List ℕ
cut_byte true c cs r = ([], cs)
cut_byte false c cs r = (c ∷ r.0, r.1)

abbrev pub cut : ℕ → List ℕ → List ℕ × List ℕ
cut d [] = ([], [])
cut d (c ∷ cs) = cut_byte (eqb c d) c cs (cut d cs)

-- ---- a first element that passes a test

-- the first element where it passes a test, and what is left then
abbrev pub head_if : {A : Type 0} → (A → Bool) → List A → Option A
head_if f [] = none
head_if f (x ∷ xs) = cond (f x) (some x) none

abbrev pub tail_if : {A : Type 0} → (A → Bool) → List A → List A
tail_if f [] = []
tail_if f (x ∷ xs) = cond (f x) xs (x ∷ xs)

abbrev pub list_of : {A : Type 0} → Option A → List A
list_of none = []
list_of (some x) = x ∷ []

-- the test fails at the first element, if there is one
abbrev pub Fails : {A : Type 0} → (A → Bool) → List A → Type 0
Fails f [] = Unit {0}
Fails f (x ∷ xs) = f x ≡ false

-- what is there passes; where nothing is there, what follows fails
abbrev pub Fits : {A : Type 0} → (A → Bool) → Option A → List A → Type 0
Fits f none l = Fails f l
Fits f (some x) l = f x ≡ true

-- what follows where something is there
abbrev pub and_then : {A B : Type 0} → Option A → (A → Option B) → Option B
and_then none f = none
and_then (some x) f = f x

-- the first of two that is there
abbrev pub or_else : {A : Type 0} → Option A → Option A → Option A
or_else none o = o
or_else (some x) o = some x

-- of what is there, or what stands for it
abbrev pub maybe : {A B : Type 0} → B → (A → B) → Option A → B
maybe b f none = b
maybe b f (some x) = f x

-- present, and fails the test
abbrev pub violates : {A : Type 0} → (A → Bool) → Option A → Bool
violates ok none = false
violates ok (some x) = not (ok x)
