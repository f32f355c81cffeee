-- The used part of the text area of a record that belongs lies inside it.
use Rattle.std.proofs.Common.{rules, arith}
use Rattle.std.proofs.Math.Seq.{length-take-le}
use Rattle.aff_areas.proofs.BelongsLaws.{belongs_record}
use Rattle.aff_areas.proofs.held.Held.used_text.Goals as goal

pub slice_bounds-result-end : goal.slice_bounds-result-end
slice_bounds-result-end c =
    let g = c.args.self.now.given in
    let b = belongs_record c.args.self.now.belongs in
    let inside = length-take-le g.writer.text g.text.now (omega (arith, b.text_area_is, b.text_inside)) in
    search (rules, inside)
