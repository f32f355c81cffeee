-- A string begins inside the symbol section, and that ends inside the image.
use Rattle.std.proofs.Common.{arith}
use Rattle.aff_reader.proofs.BelongsLaws.{belongs_record}
use Rattle.aff_read.proofs.paths.symbols_from.Goals as goal

pub slice_bounds-result-count : goal.slice_bounds-result-count
slice_bounds-result-count c =
    let b = belongs_record c.args.belonging.now.belongs in
    omega (arith, b.string_before_end _ c.requires)

pub slice_bounds-result-start : goal.slice_bounds-result-start
slice_bounds-result-start c =
    let b = belongs_record c.args.belonging.now.belongs in
    omega (arith, b.string_before_end _ c.requires)

pub slice_bounds-result-end : goal.slice_bounds-result-end
slice_bounds-result-end c = let b = belongs_record c.args.belonging.now.belongs in omega (arith, b.symbols_inside)
