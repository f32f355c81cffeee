use Rattle.std.proofs.Common.{◌+◌, ◌-◌, sym, ap, ◌∙◌, arith}
use Rattle.aff_format.specs.Lowest.{is_at}
use Rattle.aff_format.proofs.StdLaws.{lowest_met, lowest_past, lowest_none}
use Rattle.aff_areas.specs.passes.Marks.{is_marked}
use Rattle.aff_areas.proofs.names.any_marked.Goals as goal

pub returns-then-is_marked : goal.returns-then-is_marked
returns-then-is_marked c =
    let a = c.args in
    let k = c.loop-k.k in
    let test = is_marked a.marks.now a.tree.now a.parent in
    ap is_at (sym (lowest_met test (a.nodes + 1 - k) k (omega arith) (sym c.if-is_marked.ensures)) ∙ c.loop-k.invariant)

pub loop-k-preserved : goal.loop-k-preserved
loop-k-preserved c =
    let a = c.args in
    let k = c.loop-k.k in
    let test = is_marked a.marks.now a.tree.now a.parent in
    sym (lowest_past test (a.nodes + 1 - k) (a.nodes + 1 - (k + 1)) k (omega arith) (sym c.if-is_marked.ensures)) ∙ c.loop-k.invariant

pub returns : goal.returns
returns c =
    let a = c.args in
    let k = c.loop-k.k in
    let test = is_marked a.marks.now a.tree.now a.parent in
    ap is_at (sym (lowest_none test (a.nodes + 1 - k) k (omega arith)) ∙ c.loop-k.invariant)

pub returns-else-is_marked : goal.returns-else-is_marked
returns-else-is_marked c =
    let a = c.args in
    let k = c.loop-k.k in
    let test = is_marked a.marks.now a.tree.now a.parent in
    let last = lowest_none test 0 (k + 1) (omega arith) in
    ap is_at (sym last ∙ sym (lowest_past test (a.nodes + 1 - k) 0 k (omega arith) (sym c.if-is_marked.ensures)) ∙ c.loop-k.invariant)
