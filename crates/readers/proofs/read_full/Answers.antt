-- `readers::read_full`: the bytes of one more read stand behind those before.
use Rattle.std.proofs.Common.{◌≤◌, length, take, ◌≡◌, ℕ, ◌+◌, ◌-◌, List, ◌++◌, arith, sym, ap, ◌∙◌, subst, refl}
use Rattle.std.proofs.KnownBytes.{Consumes-trans}
use Rattle.std.proofs.lemmas.Grind.{common_steps}
use Rattle.std.proofs.lemmas.List.{length-take-le}
use Rattle.std.proofs.lemmas.Slice.{take-put_mid}
use Rattle.std.proofs.Math.Seq.{take-append-add}
use lib.Seq.{take-take}
use borrow.Rule.Slice.PartMut.{put_mid}
use Rattle.std.specs.Io.KnownBytes.{Consumes}
use Rattle.readers.proofs.read_full.Goals as goal

-- the part from a place on comes back as what was put there
take_read : (xs ys : List ℕ) (a n : ℕ) → a ≤ length xs → n ≤ length ys → take (a + n) (put_mid a (length xs - a) xs ys) ≡ take a xs ++ take n ys
take_read xs ys a n h k =
    sym (take-take (a + n) (a + length ys) (put_mid a (length xs - a) xs ys) (omega arith))
    ∙ ap (take (a + n)) (take-put_mid a (length xs - a) xs ys (a + length ys) refl h)
    ∙ ap (λ (m : ℕ). take (m + n) (take a xs ++ ys)) (sym (length-take-le a xs h))
    ∙ take-append-add (take a xs) ys n

pub loop-done-preserved : goal.loop-done-preserved
loop-done-preserved g c =
    let l = c.loop-done in
    let r = c.read in
    let left = g.R.Read.remaining in
    let k : c.in-Ok.got ≤ length r.new.buf = c.in-Ok.ensures.bound.0 in
    let n : length (put_mid l.done (length l.buf - l.done) l.buf r.new.buf) ≡ length l.buf = grind (arith, common_steps) in (
      omega (arith, k),
      omega arith,
      subst (Consumes (left c.args.reader.now) (left r.new.self)) (sym (take_read l.buf r.new.buf l.done c.in-Ok.got l.invariant.0 k))
          (Consumes-trans (left c.args.reader.now) (left l.reader) (left r.new.self) _ _ l.invariant.2 c.in-Ok.ensures.bytes.0),
    )
