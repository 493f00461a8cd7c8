-- `text::scan::nth_part` meets its contract: the library's `split` gives the same parts. Assumes nothing.
use Rattle.std.proofs.Common.{rules, tests, ◌≡◌, [], refl, eqb}
use Rattle.std.specs.Option.{option_map, unwrap_or}
use Rattle.std.proofs.Common.{Option, None, Some}
use Rattle.std.proofs.lemmas.Iterator.Splits.{YieldsList-from_slice_split}
use Rattle.std.proofs.lemmas.Iterator.Consumers.{nth_from_yields_List}
use Rattle.text.specs.Text.{parts}
use Rattle.text.proofs.Library.{slice_split-parts, slice_get-get_or}
use Rattle.text.proofs.scan.nth_part.Goals as goal

view-unwrap_or : {A B : Type 0} (v : A → B) (o : Option A) (d : A) → v (unwrap_or o d) ≡ unwrap_or (option_map v o) (v d)
view-unwrap_or v None d = refl
view-unwrap_or v (Some x) d = refl

pub returns : goal.returns
returns c =
    let a = c.args in
    let nth = nth_from_yields_List _ _ a.index c.nth.ensures.ran
    (YieldsList-from_slice_split _ (λ x. eqb x a.separator) a.s.now c.split.ensures.rest c.split.ensures.done c.split.ensures.closure (λ x r q k. search (rules, tests))) in
    rw (c.unwrap_or.ensures, view-unwrap_or (λ x. x.now) c.nth.result, nth, slice_split-parts a.separator a.s.now)
    (slice_get-get_or (parts a.separator a.s.now) a.index [])
