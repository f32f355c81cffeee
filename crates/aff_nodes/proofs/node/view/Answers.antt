-- A span that was answered is the node's, which lies inside the image.
use Rattle.aff_nodes.specs.Answers.{view_answer}
use Rattle.aff_nodes.proofs.JudgeLaws.{span_inside_lem}
use Rattle.aff_nodes.proofs.SpanLaws.{data_within}
use Rattle.aff_nodes.proofs.node.view.Goals as goal

pub bytes_of-requires : goal.bytes_of-requires
unfolding view_answer
bytes_of-requires c = span_inside_lem _ _ _ _ c.args.node _ (λ b there. data_within b c.args.node there) _ c.view_bounds.ensures
