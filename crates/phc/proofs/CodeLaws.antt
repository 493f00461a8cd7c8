-- One answer for what was found or a number.
-- Assumes nothing.
use Prim.Native.Nat.{ℕ, zero, suc, ◌*◌, ◌≤◌}
use mathlib.Core.Bool.{Bool, true, false, not, cond, and-false}
use mathlib.Core.List.{List}
use mathlib.Core.Path.{◌≡◌, refl, ap, ◌∙◌}
use native.Mathlib.Omega.{arith}
use lib.Dec.{leb, eqb}
use borrow.Author.Tests.{eqb-true, eqb-false, ne_eqb, lt-leb}
use Rattle.refusals.specs.Numbers.{number_of}
use Rattle.refusals.specs.declared.Refusal.{Refusal}
use Rattle.refusals.proofs.Numbers.{number_pos}
use Rattle.text.specs.Place.{Outcome, outcome}
use Rattle.text.proofs.Tests.{to_within}
use Rattle.phc.specs.Records.{code_of, coded, is_refusal}

-- what an entry gave as one answer, and the buffer as it left it
pub answered : (n c : ℕ) (left : List ℕ) (o : Outcome) → outcome n c left ≡ o → (answer : ℕ) → answer ≡ code_of n c → (answer ≡ coded o) × (left ≡ o.buffer)
answered n c left o e answer q = (q ∙ ap coded e, ap (λ (x : Outcome). x.buffer) e)

-- of a refusal
pub refused_code : (r : Refusal) {answer : ℕ} → answer ≡ number_of r → answer ≡ code_of (number_of r) 0
refused_code r e = rw (ne_eqb (number_of r) 0 (λ z. omega (arith, number_pos r))) e

-- a hundred times what was found is none of 1 to 99; a number up to 99 that is not 0 is
found_tells : (found : ℕ) → is_refusal (100 * found) ≡ false
found_tells zero = refl
found_tells (suc k) = let h = lt-leb (100 * suc k) 99 (omega arith) in rw h (and-false (leb 1 (100 * suc k)))

refused_tells : (number : ℕ) → number ≤ 99 → (number ≡ 0 → ⊥) → is_refusal number ≡ true
refused_tells number h z = to_within 1 99 number (omega (arith, z)) h

-- so an answer says whether it is a refusal
pub code_tells : (number found : ℕ) → number ≤ 99 → is_refusal (code_of number found) ≡ not (eqb number 0)
code_tells number found h = go (eqb number 0) refl
  where
    go : (b : Bool) → eqb number 0 ≡ b → is_refusal (cond b (100 * found) number) ≡ not b
    go true e = found_tells found
    go false e = refused_tells number h (eqb-false number 0 e)

pub number_tells : (number : ℕ) → number ≤ 99 → is_refusal number ≡ not (eqb number 0)
number_tells number h = go (eqb number 0) refl
  where
    go : (b : Bool) → eqb number 0 ≡ b → is_refusal number ≡ not b
    go true e = rw (eqb-true number 0 e)
    go false e = refused_tells number h (eqb-false number 0 e)
