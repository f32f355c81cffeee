-- The sizes of a record that belongs.
use Rattle.std.proofs.Common.{arith}
use Rattle.aff_areas.proofs.BelongsLaws.{belongs_record, sizes_small}
use Rattle.aff_areas.proofs.held.Held.finished_size.Goals as goal

pub finished_size-requires : goal.finished_size-requires
finished_size-requires c =
    let s = sizes_small (belongs_record c.args.self.now.belongs) in
    record { end_allowed = s.0; text_inside = s.1; few_nodes = s.2 }

pub returns-clause-fits : goal.returns-clause-fits
returns-clause-fits c = let b = belongs_record c.args.self.now.belongs in omega (arith, b.size_fits, c.finished_size.ensures)
