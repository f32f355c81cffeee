use Rattle.std.proofs.Common.{sym, ◌∙◌}
use borrow.Author.Tests.{eqb-true, not-false}
use Rattle.aff_format.proofs.TestLaws.{or_false}
use Rattle.aff_write.specs.Begin.{begin_lengths_wrong}
use Rattle.aff_write.proofs.beginning.begin.Goals as goal

pub fresh-fresh-requires : goal.fresh-fresh-requires
unfolding begin_lengths_wrong
fresh-fresh-requires c = eqb-true _ 12 (not-false _ (or_false _ _ (sym c.lengths_wrong.ensures ∙ c.if-lengths_wrong.false)).0)
