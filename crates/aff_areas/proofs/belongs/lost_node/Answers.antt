use Rattle.std.proofs.Common.{refl, ◌+◌, ◌-◌, sym, ◌∙◌, arith}
use Rattle.aff_format.proofs.StdLaws.{lowest_met, lowest_past, lowest_none}
use Rattle.aff_areas.specs.Belongs.{writer_node_lost}
use Rattle.aff_areas.proofs.BelongsLaws.{node_judged}
use Rattle.aff_areas.proofs.belongs.lost_node.Goals as goal

pub returns-then-slot_lost : goal.returns-then-slot_lost
returns-then-slot_lost c =
    let a = c.args in
    let k = c.loop-k.k in
    let test = writer_node_lost a.strings a.bounds.from a.bounds.size a.tree.now in
    let lost = node_judged a.strings a.bounds.from a.bounds.size a.tree.now k c.found_slot.ensures c.if-slot_lost.ensures refl in
    sym (lowest_met test (a.nodes + 1 - k) k (omega arith) lost) ∙ c.loop-k.invariant

pub loop-k-preserved : goal.loop-k-preserved
loop-k-preserved c =
    let a = c.args in
    let k = c.loop-k.k in
    let test = writer_node_lost a.strings a.bounds.from a.bounds.size a.tree.now in
    let kept = node_judged a.strings a.bounds.from a.bounds.size a.tree.now k c.found_slot.ensures c.if-slot_lost.ensures refl in
    sym (lowest_past test (a.nodes + 1 - k) (a.nodes + 1 - (k + 1)) k (omega arith) kept) ∙ c.loop-k.invariant

pub returns : goal.returns
returns c =
    let a = c.args in
    let k = c.loop-k.k in
    sym (lowest_none (writer_node_lost a.strings a.bounds.from a.bounds.size a.tree.now) (a.nodes + 1 - k) k (omega arith)) ∙ c.loop-k.invariant

pub returns-else-slot_lost : goal.returns-else-slot_lost
returns-else-slot_lost c =
    let a = c.args in
    let k = c.loop-k.k in
    let test = writer_node_lost a.strings a.bounds.from a.bounds.size a.tree.now in
    let kept = node_judged a.strings a.bounds.from a.bounds.size a.tree.now k c.found_slot.ensures c.if-slot_lost.ensures refl in
    sym (lowest_none test 0 (k + 1) (omega arith)) ∙ sym (lowest_past test (a.nodes + 1 - k) 0 k (omega arith) kept) ∙ c.loop-k.invariant
