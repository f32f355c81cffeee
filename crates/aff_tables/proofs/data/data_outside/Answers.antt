-- One more node, or the last.
use Rattle.std.proofs.Common.{◌≡◌, ◌+◌, ◌-◌, false, sym, refl, ◌∙◌, arith}
use Rattle.aff_format.specs.Recorded.{recorded_entry}
use Rattle.aff_format.proofs.StdLaws.{lowest_past, lowest_none}
use Rattle.aff_tables.specs.Nodes.{data_outside}
use Rattle.aff_tables.proofs.data.data_outside.Goals as goal

pub loop-k-preserved : goal.loop-k-preserved
loop-k-preserved c =
    let test = data_outside c.args.bounds.from c.args.bounds.size (recorded_entry c.args.entries.now.image.now c.args.entries.now.places.now) in
    let k = c.loop-k.k in
    let no : test k ≡ false = cc in
    sym (lowest_past test (c.args.nodes + 1 - k) (c.args.nodes + 1 - (k + 1)) k (omega arith) no) ∙ c.loop-k.invariant

pub returns-else-misses : goal.returns-else-misses
returns-else-misses c =
    let test = data_outside c.args.bounds.from c.args.bounds.size (recorded_entry c.args.entries.now.image.now c.args.entries.now.places.now) in
    let k = c.loop-k.k in
    let no : test k ≡ false = cc in
    sym (lowest_past test (c.args.nodes + 1 - k) 0 k (omega arith) no ∙ lowest_none test 0 (k + 1) refl) ∙ c.loop-k.invariant
