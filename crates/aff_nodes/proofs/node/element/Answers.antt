-- Of a record that belongs, the bytes of a node's data hold as many elements as its entry counts.
use Rattle.std.proofs.Common.{◌≡◌, ◌∙◌}
use Rattle.aff_format.specs.Answer.{accepted, first_wrong}
use Rattle.aff_reader.specs.Opened.{of}
use Rattle.aff_nodes.specs.Answers.{exists_checks}
use Rattle.aff_nodes.proofs.ElementLaws.{element_judged}
use Rattle.aff_nodes.proofs.node.element.Goals as goal

pub returns : goal.returns
returns c =
    let o = c.args.opened.now in
    let b = c.in_ok-belonging.belonging in
    let j : accepted b.opened ≡ first_wrong (of o exists_checks c.args.node) o = rw c.in_ok-belonging.was at c.judge.ensures in
    c.element_of.ensures ∙ element_judged o b.opened c.args.node c.args.index j
