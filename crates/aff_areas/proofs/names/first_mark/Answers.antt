-- The place of the first 1 among the marks, or their number.
use Rattle.std.proofs.Common.{ℕ, sym, ap, ◌∙◌, take, Option, unwrap_or, eqb}
use Rattle.std.proofs.Math.Seq.{length-take-le}
use Rattle.std.specs.List.{position}
use Rattle.aff_format.proofs.StdLaws.{position_or}
use Rattle.aff_areas.proofs.NameLaws.{first_mark_is}
use Rattle.aff_areas.proofs.names.first_mark.Goals as goal

pub returns : goal.returns
returns c =
    let first = take c.args.count c.args.marks.now in
    c.unwrap_or.ensures
    ∙ ap (λ (o : Option ℕ). unwrap_or o c.args.count) c.find_byte.ensures
    ∙ ap (unwrap_or (position (λ x. eqb x 1) first)) (sym (length-take-le c.args.count c.args.marks.now c.requires))
    ∙ position_or (λ x. eqb x 1) first
    ∙ first_mark_is first
