-- A fact of what is there, where something is.
-- Assumes nothing.
use mathlib.Core.Bool.{Bool, true, false, cond}
use mathlib.Core.Option.{Option, none, some}
use mathlib.Core.Path.{◌≡◌, refl}
use Rattle.text.specs.Text.{and_then}

abbrev pub Holds : {A : Type 0} → (A → Type 0) → Option A → Type 0
Holds P none = Unit {0}
Holds P (some x) = P x

pub holds_then : {A B : Type 0} (P : A → Type 0) (Q : B → Type 0) (o : Option A) (f : A → Option B)
    → Holds P o → ((x : A) → P x → Holds Q (f x)) → Holds Q (and_then o f)
holds_then P Q none f h k = tt
holds_then P Q (some x) f h k = k x h

pub holds-map : {A : Type 0} (P Q : A → Type 0) (o : Option A) → Holds P o → ((x : A) → P x → Q x) → Holds Q o
holds-map P Q none h k = tt
holds-map P Q (some x) h k = k x h

pub holds_if : {A : Type 0} (P : A → Type 0) (b : Bool) (o u : Option A) → (b ≡ true → Holds P o) → (b ≡ false → Holds P u) → Holds P (cond b o u)
holds_if P true o u h k = h refl
holds_if P false o u h k = k refl
