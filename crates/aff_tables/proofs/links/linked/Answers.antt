-- The strings are judged, so the links go by the strings themselves.
use Rattle.aff_tables.specs.Nodes.{recorded_contents}
use Rattle.aff_tables.proofs.LinkLaws.{links_judged}
use Rattle.aff_tables.proofs.links.linked.Goals as goal

pub returns-clause-value : goal.returns-clause-value
returns-clause-value c =
    let a = c.args in
    let s = a.strings.now in
    links_judged _ (recorded_contents s.image.now s.end s.places.now s.count a.entries.now a.nodes) _ _ c.judge.ensures c.links.ensures.value
