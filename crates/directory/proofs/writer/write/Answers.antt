-- `directory::writer::write` meets its contract. Assumes nothing.
use Rattle.std.proofs.Common.{List, ℕ, refl, sym, ap, ◌∙◌, take, arith}
use Rattle.std.proofs.lemmas.Result.{err_from_is_err_and}
use lib.ListN.{length-take}
use Rattle.text.specs.Place.{put}
use Rattle.directory.proofs.WriterLaws.{write_other, write_refused, count_most, write_alone, write_done}
use Rattle.directory.proofs.writer.write.Goals as goal

pub returns-then-not-is_directory_id : goal.returns-then-not-is_directory_id
returns-then-not-is_directory_id c = write_other _ c.args.buf.now c.args.at (sym c.is_directory_id.ensures ∙ c.if-not-is_directory_id.true)

pub returns-in_err-len : goal.returns-in_err-len
returns-in_err-len c =
    let p = err_from_is_err_and c.from_residual.result c.from_residual.ensures.1 in
    rw (p.1, p.2) (write_refused _ (sym c.is_directory_id.ensures ∙ c.if-not-is_directory_id.false) _ _ refl c.args.buf.now c.args.at _ c.in_err-len.ensures)

pub returns-then-len-lt-PREFIX_LEN : goal.returns-then-len-lt-PREFIX_LEN
returns-then-len-lt-PREFIX_LEN c =
    write_alone _ (sym c.is_directory_id.ensures ∙ c.if-not-is_directory_id.false) _ _ refl _ c.in_ok-len.ensures c.args.buf.now c.args.at c.if-len-lt-PREFIX_LEN.true

pub slice_bounds-s-end : goal.slice_bounds-s-end
slice_bounds-s-end c =
    let l = count_most _ (sym c.is_directory_id.ensures ∙ c.if-not-is_directory_id.false) _ _ refl _ c.in_ok-len.ensures in
    omega (arith, l)

pub slice_bounds-write_text-end : goal.slice_bounds-write_text-end
slice_bounds-write_text-end c =
    let l = count_most _ (sym c.is_directory_id.ensures ∙ c.if-not-is_directory_id.false) _ _ refl _ c.in_ok-len.ensures in
    omega (arith, l, length-take c.in_ok-len.field-0.0 c.mark.new.s)

pub returns : goal.returns
returns c =
    let b = c.args.buf.now in
    c.write_text.ensures
    ∙ ap (λ (x : List ℕ). put b c.args.at (take c.in_ok-len.field-0.0 x)) c.mark.ensures
    ∙ write_done _ (sym c.is_directory_id.ensures ∙ c.if-not-is_directory_id.false) _ _ refl _ c.in_ok-len.ensures b c.args.at c.if-len-lt-PREFIX_LEN.false
