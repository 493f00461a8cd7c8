-- The texts that end a run of a class: those that begin with a separator.
-- Assumes nothing.
use Rattle.std.proofs.Common.{◌≡◌, ℕ, Bool, false, List, [], ◌∷◌, refl}
use Rattle.text.specs.Text.{run}
use Rattle.text.proofs.Starts.{Begins}

-- it is `$` or a comma: whatever class has neither has not this
abbrev pub Separator : ℕ → Type 0
Separator c = (f : ℕ → Bool) → f 36 ≡ false → f 44 ≡ false → f c ≡ false

-- no text of a class without separators goes on here
abbrev pub Closed : List ℕ → Type 0
Closed t = Begins Separator t

pub run_closed : (f : ℕ → Bool) → f 36 ≡ false → f 44 ≡ false → (t : List ℕ) → Closed t → run f t ≡ []
run_closed f p q [] h = refl
run_closed f p q (c ∷ t) h = rw (h f p q)
