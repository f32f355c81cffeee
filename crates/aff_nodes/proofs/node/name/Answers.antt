-- A span that was answered is the node's, which lies inside the image.
use Rattle.aff_nodes.specs.Answers.{name_answer}
use Rattle.aff_nodes.proofs.JudgeLaws.{span_inside_lem}
use Rattle.aff_nodes.proofs.SpanLaws.{name_within}
use Rattle.aff_nodes.proofs.node.name.Goals as goal

pub bytes_of-requires : goal.bytes_of-requires
unfolding name_answer
bytes_of-requires c = span_inside_lem _ _ _ _ c.args.node _ (λ b there. name_within b c.args.node there) _ c.name_bounds.ensures
