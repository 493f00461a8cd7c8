-- What a Bool test that came out true or false tells of its parts.
-- Assumes nothing.
use Prim.Native.Nat.{ℕ, ◌≤◌, ◌<◌}
use mathlib.Core.Bool.{Bool, true, false, not, ◌&&◌, ◌||◌, true≢false, false≢true}
use mathlib.Core.Path.{◌≡◌, refl}
use mathlib.Core.Logic.{◌⊎◌, inl, inr}
use lib.Dec.{leb}
use borrow.Author.Tests.{leb-true, le-leb}
use native.Mathlib.Decide.{dec_lt}
use native.Mathlib.Omega.{arith}
use Rattle.text.specs.Text.{within}

pub both : (a b : Bool) → (a && b) ≡ true → (a ≡ true) × (b ≡ true)
both true b e = (refl, e)
both false b e = absurd (false≢true e)

pub and-true : {a b : Bool} → a ≡ true → b ≡ true → (a && b) ≡ true
and-true p q = rw (p, q)

pub neither : (a b : Bool) → (a || b) ≡ false → (a ≡ false) × (b ≡ false)
neither true b e = absurd (true≢false e)
neither false b e = (refl, e)

pub or-false : {a b : Bool} → a ≡ false → b ≡ false → (a || b) ≡ false
or-false p q = rw (p, q)

pub not_of_true : {a : Bool} → a ≡ true → not a ≡ false
not_of_true p = rw p

pub is_true : (a : Bool) → not a ≡ false → a ≡ true
is_true true e = refl
is_true false e = absurd (true≢false e)

pub is_false : (a : Bool) → not a ≡ true → a ≡ false
is_false true e = absurd (false≢true e)
is_false false e = refl

pub implied : (a b : Bool) → (not a || b) ≡ true → a ≡ true → b ≡ true
implied true b h e = h
implied false b h e = absurd (false≢true e)

pub from_within : (low high n : ℕ) → within low high n ≡ true → (low ≤ n) × (n ≤ high)
from_within low high n e = let p = both (leb low n) (leb n high) e in (leb-true low n p.0, leb-true n high p.1)

pub to_within : (low high n : ℕ) → low ≤ n → n ≤ high → within low high n ≡ true
to_within low high n p q = and-true (le-leb low n p) (le-leb n high q)

pub either : (b : Bool) → (b ≡ true) ⊎ (b ≡ false)
either true = inl refl
either false = inr refl

pub below? : (n m : ℕ) → (n < m) ⊎ (m ≤ n)
below? n m = elim (dec_lt n m) [ yes h ↦ inl h | no h ↦ inr (omega arith) ]
