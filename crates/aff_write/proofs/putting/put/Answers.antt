-- The record belongs, and nothing was wrong with the node and its data.
use Rattle.std.proofs.Common.{◌≡◌, ℕ, List, length, rules, sym, ap, ◌∙◌, arith}
use Rattle.aff_format.specs.Answer.{Answer, refused, first_wrong}
use Rattle.aff_format.specs.Refusal.{code_of_refusal}
use Rattle.aff_format.specs.Verdict.{answer_of}
use Rattle.aff_format.proofs.AnswerLaws.{passed_value}
use Rattle.aff_areas.specs.Belongs.{writer_checks}
use Rattle.aff_areas.specs.Writer.{area_after}
use Rattle.aff_areas.specs.declared.given.Given.{Given}
use Rattle.aff_areas.proofs.BelongsLaws.{judge_belongs, end_inside}
use Rattle.aff_write.specs.Put.{data_checks, put_stores}
use Rattle.aff_write.proofs.PutLaws.{taken_given, tree_put_lem, entry_stops, judge_passes}
use Rattle.aff_write.proofs.putting.put.Goals as goal

pub put_bytes-requires : goal.put_bytes-requires
put_bytes-requires c =
    let w = c.args.writer.now in
    let r = c.args.tree.now in
    let b = (judge_belongs _ _ _ _ _ c.in_ok-held.ensures).0 in
    let g = passed_value (writer_checks (length c.args.buffer.now) w c.args.text.now r) _ (sym c.in_ok-held.ensures) in
    let t = taken_given _ _ g c.args.node c.args.kind c.args.bytes.now c.in_ok-kind.kind c.in_ok-kind.ensures in
    record {
      above_root = t.above_root;
      in_limit = omega (arith, t.exists, b.few_nodes);
      tree_area_is = b.tree_area_is;
      holds_data = t.holds_data;
      data_inside = omega (arith, t.fits, end_inside w r, b.length_recorded);
      buffer_small = omega (arith, b.length_recorded, b.length_allowed);
    }

pub returns-clause-tree : goal.returns-clause-tree
returns-clause-tree c =
    let w = c.args.writer.now in
    let r = c.args.tree.now in
    let g = passed_value (writer_checks (length c.args.buffer.now) w c.args.text.now r) _ (sym c.in_ok-held.ensures) in
    let t = taken_given _ _ g c.args.node c.args.kind c.args.bytes.now c.in_ok-kind.kind c.in_ok-kind.ensures in
    c.put_bytes.ensures.tree
    ∙ ap (λ (x : List ℕ). area_after (answer_of c.put_bytes.result) x r) (tree_put_lem w r c.args.node c.args.kind c.args.bytes.now c.in_ok-kind.kind t.kind_is)

-- What is refused after 24 and 22 is put's refusal.
pub returns-in_err-kind-clause-answer : goal.returns-in_err-kind-clause-answer
returns-in_err-kind-clause-answer c =
    let w = c.args.writer.now in
    let r = c.args.tree.now in
    let h = c.in_ok-held.held.given in
    let s = c.args.bytes.now in
    let g = passed_value (writer_checks (length c.args.buffer.now) w c.args.text.now r) _ (sym c.in_ok-held.ensures) in
    let decides : Given → Answer ℕ =
    λ x. first_wrong (data_checks x.writer x.tree.now c.args.node c.args.kind s c.args.allowance) (length (put_stores x.writer s)) in
    let a : answer_of c.from_residual-in_err-kind.result ≡ refused (code_of_refusal c.in_err-kind.field-0.0) = search rules in
    a
    ∙ entry_stops h.writer h.tree.now c.args.node c.args.kind s c.args.allowance _ c.in_err-kind.ensures
    ∙ sym (ap decides g)
    ∙ judge_passes (length c.args.buffer.now) w c.args.text.now r c.args.node c.args.kind s c.args.allowance _ c.in_ok-held.ensures
