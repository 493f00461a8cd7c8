-- `phc::braced::phc_directory_write` meets its contract. Assumes nothing.
use Rattle.std.proofs.Common.{◌∙◌, ap, refl, arith}
use Rattle.table.specs.Limits.{edition_two}
use Rattle.profile.specs.Fields.{FieldSet, field_set}
use Rattle.directory.specs.Entries.{directory_writing}
use Rattle.profile.specs.declared.fields.NumberFields.{NumberFields}
use Rattle.phc.specs.Writing.{handed}
use Rattle.phc.proofs.CodeLaws.{answered, refused_code}
use Rattle.phc.proofs.SizeLaws.{braced_small}
use Rattle.phc.proofs.braced.phc_directory_write.Goals as goal

pub found-requires : goal.found-requires
found-requires c =
    let a = c.args in
    let fields : FieldSet = handed a.id a.has_version a.version a.m a.t a.p a.keyid.now a.«data».now a.salt.now a.output.now in
    let same = ap (λ (n : NumberFields). directory_writing edition_two (field_set n a.keyid.now a.«data».now a.salt.now a.output.now) a.buf.now 0) c.handed_fields-fields.ensures in
    omega (arith, braced_small fields a.buf.now 0 c.in-Ok.count.0 _ (c.in-Ok.ensures ∙ same) refl)

pub returns-in-Ok : goal.returns-in-Ok
returns-in-Ok c =
    let a = c.args in
    let same = ap (λ (n : NumberFields). directory_writing edition_two (field_set n a.keyid.now a.«data».now a.salt.now a.output.now) a.buf.now 0) c.handed_fields-fields.ensures in
    answered 0 c.in-Ok.count.0 _ _ (c.in-Ok.ensures ∙ same) _ c.found.ensures

pub returns-in-Err : goal.returns-in-Err
returns-in-Err c =
    let a = c.args in
    let same = ap (λ (n : NumberFields). directory_writing edition_two (field_set n a.keyid.now a.«data».now a.salt.now a.output.now) a.buf.now 0) c.handed_fields-fields.ensures in
    answered _ 0 _ _ (c.in-Err.ensures ∙ same) _ (refused_code c.in-Err.refusal c.refused.ensures)
