-- The node that the climb is at is stored, and its parent is the next.
use Rattle.std.proofs.Common.{sym, ◌∙◌, arith}
use Rattle.aff_reader.proofs.BelongsLaws.{belongs_record}
use Rattle.aff_read.proofs.ChainLaws.{chaining_start, unsettled_at, few_more, chaining_next}
use Rattle.aff_read.proofs.paths.climb.Goals as goal

pub loop-fit-init : goal.loop-fit-init
loop-fit-init c =
    let r = c.requires in
    chaining_start (belongs_record c.args.belonging.now.belongs) r.node_exists r.other r.root_settled c.told-steps

pub bounds-steps-count : goal.bounds-steps-count
bounds-steps-count c = omega (arith, few_more c.loop-fit.invariant (unsettled_at c.loop-fit.invariant _ c.told-fits (sym c.fit.ensures ∙ c.in_default.is)))

pub loop-fit-smaller : goal.loop-fit-smaller
loop-fit-smaller c = omega (arith, few_more c.loop-fit.invariant (unsettled_at c.loop-fit.invariant _ c.told-fits (sym c.fit.ensures ∙ c.in_default.is)))

pub loop-fit-preserved : goal.loop-fit-preserved
loop-fit-preserved c = chaining_next c.loop-fit.invariant (unsettled_at c.loop-fit.invariant _ c.told-fits (sym c.fit.ensures ∙ c.in_default.is)) _ c.entry-entry.ensures
