-- Where the links are sound, parents and string numbers are copied, and the checks by the copies are those by the entries.
use Rattle.std.proofs.Common.{◌∙◌, arith}
use Rattle.aff_tables.specs.Nodes.{recorded_contents}
use Rattle.aff_tables.proofs.NodeLaws.{linked_by_copies, checked_by_copies}
use Rattle.aff_tables.proofs.nodes.node_checks.Goals as goal

pub copied_checks-requires : goal.copied_checks-requires
copied_checks-requires c =
    let a = c.args in
    let s = a.strings.now in
    linked_by_copies a.edition (recorded_contents s.image.now s.end s.places.now s.count a.entries.now a.nodes) _ _ _
    c.linked.ensures.value c.in_default.is (c.linked.ensures.copied c.in_default.is) c.requires.few (omega arith)

pub returns : goal.returns
returns c =
    let a = c.args in
    let s = a.strings.now in
    c.copied_checks.ensures
    ∙ checked_by_copies a.edition (recorded_contents s.image.now s.end s.places.now s.count a.entries.now a.nodes) _ _ _
    c.linked.ensures.value c.in_default.is (c.linked.ensures.copied c.in_default.is) a.bounds.from a.bounds.size tt c.requires.distinct
