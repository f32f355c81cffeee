-- The sums are small.
use Rattle.std.proofs.Common.{arith}
use Rattle.aff_areas.proofs.BelongsLaws.{belongs_record}
use Rattle.aff_make.proofs.making.Named.too_many.Goals as goal

pub overflow_add-writer : goal.overflow_add-writer
overflow_add-writer c = let b = belongs_record c.args.self.now.held.belongs in omega (arith, b.few_nodes)

pub overflow_add-writer-else-writer-gt-NODE_LIMIT : goal.overflow_add-writer-else-writer-gt-NODE_LIMIT
overflow_add-writer-else-writer-gt-NODE_LIMIT c =
    let b = belongs_record c.args.self.now.held.belongs in
    omega (arith, b.few_strings, c.added_strings.ensures.most)

pub overflow_add-result : goal.overflow_add-result
overflow_add-result c = let b = belongs_record c.args.self.now.held.belongs in omega (arith, b.text_inside, c.added_text.ensures.most)
