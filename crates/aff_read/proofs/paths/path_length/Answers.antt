-- A step that passes the limit, and one that does not: the path of the node that the climb is at then gets shorter.
use Rattle.std.proofs.Common.{rules, ◌≡◌, None, ◌∙◌}
use Rattle.aff_reader.proofs.BelongsLaws.{belongs_record}
use Rattle.aff_read.proofs.StepLaws.{measure_past, measure_done, measure_less, measure_on}
use Rattle.aff_read.proofs.paths.path_length.Goals as goal

pub returns-in_err-own : goal.returns-in_err-own
returns-in_err-own c =
    let n : c.from_residual.result ≡ None = search rules in
    n ∙ measure_past (belongs_record c.args.belonging.now.belongs) c.loop-own.invariant c.in_err-own.ensures

pub returns-then-at-eq0 : goal.returns-then-at-eq0
returns-then-at-eq0 c = measure_done (belongs_record c.args.belonging.now.belongs) c.loop-own.invariant _ c.in_ok-own.ensures c.parent-at.ensures c.if-at-eq0.true

pub loop-own-smaller : goal.loop-own-smaller
loop-own-smaller c = measure_less (belongs_record c.args.belonging.now.belongs) c.loop-own.invariant _ c.in_ok-own.ensures c.parent-at.ensures c.if-at-eq0.false

pub loop-own-preserved : goal.loop-own-preserved
loop-own-preserved c = measure_on (belongs_record c.args.belonging.now.belongs) c.loop-own.invariant _ c.in_ok-own.ensures c.parent-at.ensures c.if-at-eq0.false
