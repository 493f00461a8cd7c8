-- `b64::sextets::has_canonical_end` meets its contract.
use native.Mathlib.Omega.{arith}
use Prim.Native.Nat.{ℕ, ◌%◌}
use mathlib.Core.List.{List}
use mathlib.Core.Path.{◌∙◌, ap}
use lib.Dec.{eqb}
use lib.ListN.{get_or}
use Rattle.b64.specs.B64.{sextet}
use Rattle.b64.proofs.B64Code.{ends_0, ends_2, ends_3, rest_last}
use Rattle.b64.proofs.sextets.has_canonical_end.Goals as goal

pub returns-in-empty : goal.returns-in-empty
returns-in-empty c = ends_0 c.args.text.now (omega (arith, c.as_chunks.ensures.back_len))

pub returns-in-len2 : goal.returns-in-len2
returns-in-len2 c =
    let t = c.args.text.now in
    let e = ap (λ (r : List ℕ). get_or r 1 0) c.as_chunks.ensures.back ∙ rest_last t 1 (omega (arith, c.as_chunks.ensures.back_len)) in
    ap (λ (x : ℕ). eqb (x % 16) 0) (c.sextet_of.ensures ∙ ap sextet e) ∙ ends_2 t (omega (arith, c.as_chunks.ensures.back_len))

pub returns-in-len3-up : goal.returns-in-len3-up
returns-in-len3-up c =
    let t = c.args.text.now in
    let e = ap (λ (r : List ℕ). get_or r 2 0) c.as_chunks.ensures.back ∙ rest_last t 2 (omega (arith, c.as_chunks.ensures.back_len)) in
    ap (λ (x : ℕ). eqb (x % 4) 0) (c.sextet_of-in-len3-up.ensures ∙ ap sextet e) ∙ ends_3 t (omega (arith, c.as_chunks.ensures.back_len))
