-- One more node is copied.
use Rattle.std.proofs.Common.{◌+◌, ◌-◌, sym, refl, ap, ◌∙◌, arith}
use Rattle.aff_format.proofs.StdLaws.{lowest_past, lowest_none}
use Rattle.aff_tables.specs.passes.Results.{link_bad}
use Rattle.aff_tables.proofs.LinkLaws.{copied_more, copied_less}
use Rattle.aff_tables.proofs.links.links.Goals as goal

pub loop-k-preserved : goal.loop-k-preserved
loop-k-preserved c =
    let lp = c.loop-k in
    let k = lp.k in
    let good = sym (c.if-link_bad.ensures ∙ ap (link_bad c.args.nodes c.args.strings c.args.sound.now) c.entry-entry.ensures) in (
      copied_less _ _ _ (k + 1 - 1) k (omega arith) (copied_more _ lp.parents lp.names k (omega arith) (omega arith) lp.invariant.0 _ c.entry-entry.ensures),
      sym (lowest_past _ (c.args.nodes + 1 - k) (c.args.nodes + 1 - (k + 1)) k (omega arith) good) ∙ lp.invariant.1,
    )

pub returns-else-link_bad-clause-value : goal.returns-else-link_bad-clause-value
returns-else-link_bad-clause-value c =
    let lp = c.loop-k in
    let k = lp.k in
    let good = sym (c.if-link_bad.ensures ∙ ap (link_bad c.args.nodes c.args.strings c.args.sound.now) c.entry-entry.ensures) in
    sym (lowest_past _ (c.args.nodes + 1 - k) 0 k (omega arith) good ∙ lowest_none _ 0 (k + 1) refl) ∙ lp.invariant.1
