-- The sums are small.
use Rattle.std.proofs.Common.{arith}
use Rattle.aff_areas.proofs.BelongsLaws.{belongs_record}
use Rattle.aff_make.proofs.making.Named.too_small.Goals as goal

pub overflow_add-result : goal.overflow_add-result
overflow_add-result c =
    let b = belongs_record c.args.self.now.held.belongs in
    omega (arith, b.length_allowed, c.finished_size-size.ensures.fits)

pub overflow_add-result-2 : goal.overflow_add-result-2
overflow_add-result-2 c =
    let b = belongs_record c.args.self.now.held.belongs in
    omega (arith, b.length_allowed, c.finished_size-size.ensures.fits, c.added_text.ensures.most)
