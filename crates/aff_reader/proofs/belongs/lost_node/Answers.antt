-- A node whose entry is lost is the lowest; one that is kept is passed, and its parent is copied.
use Rattle.std.proofs.Common.{◌+◌, ◌-◌, ◌∙◌, sym, arith}
use Rattle.aff_format.proofs.StdLaws.{lowest_met, lowest_past, lowest_none}
use Rattle.aff_reader.proofs.LostLaws.{node_whole, node_broken, found_parent, copied_more}
use Rattle.aff_reader.proofs.belongs.lost_node.Goals as goal

pub returns-in_default-clause-value : goal.returns-in_default-clause-value
returns-in_default-clause-value c =
    sym (lowest_met _ _ _ (omega arith) (node_broken _ _ _ c.found.ensures _ _ c.in_default.is)) ∙ c.loop-k.invariant.0

pub returns-then-entry_lost-clause-value : goal.returns-then-entry_lost-clause-value
returns-then-entry_lost-clause-value c =
    sym (lowest_met _ _ _ (omega arith) (node_whole _ _ _ c.found.ensures _ _ _ c.in-Some.is c.entry_lost.ensures c.if-entry_lost.true))
    ∙ c.loop-k.invariant.0

pub loop-k-preserved : goal.loop-k-preserved
loop-k-preserved c =
    let k = c.loop-k.k in (
      sym (lowest_past _ _ (c.args.nodes + 1 - (k + 1)) k (omega arith)
          (node_whole _ _ _ c.found.ensures _ _ _ c.in-Some.is c.entry_lost.ensures c.if-entry_lost.false)) ∙ c.loop-k.invariant.0,
      copied_more c.loop-k.invariant.1 (omega arith) (omega arith) (omega arith)
          (found_parent c.args.entries.now.image.now c.args.entries.now.places.now k c.found.ensures (omega arith) _ c.in-Some.is),
    )

pub returns-else-entry_lost-clause-value : goal.returns-else-entry_lost-clause-value
returns-else-entry_lost-clause-value c =
    let k = c.loop-k.k in
    sym (lowest_none _ 0 (k + 1) (omega arith))
    ∙ sym (lowest_past _ (c.args.nodes + 1 - k) 0 k (omega arith)
    (node_whole _ _ _ c.found.ensures _ _ _ c.in-Some.is c.entry_lost.ensures c.if-entry_lost.false)) ∙ c.loop-k.invariant.0

pub returns-else-entry_lost-clause-parents_copied : goal.returns-else-entry_lost-clause-parents_copied
returns-else-entry_lost-clause-parents_copied c =
    λ _.
    copied_more c.loop-k.invariant.1 (omega arith) (omega arith) (omega arith)
    (found_parent c.args.entries.now.image.now c.args.entries.now.places.now c.loop-k.k c.found.ensures (omega arith) _ c.in-Some.is)

pub returns-clause-value : goal.returns-clause-value
returns-clause-value c = sym (lowest_none _ _ c.loop-k.k (omega arith)) ∙ c.loop-k.invariant.0
