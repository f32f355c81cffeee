use Rattle.std.proofs.Common.{◌≡◌, ℕ, ◌+◌, length, rules, sym, ap, ◌∙◌}
use Rattle.aff_format.specs.Answer.{Answer, refused, first_wrong}
use Rattle.aff_format.specs.Refusal.{code_of_refusal}
use Rattle.aff_format.specs.Verdict.{answer_of}
use Rattle.aff_format.proofs.AnswerLaws.{same_refusal, passed_value}
use Rattle.aff_areas.specs.Belongs.{writer_checks}
use Rattle.aff_areas.specs.declared.given.Given.{Given}
use Rattle.aff_areas.proofs.BelongsLaws.{judge_belongs}
use Rattle.aff_make.specs.Make.{child_checks}
use Rattle.aff_make.proofs.MakeLaws.{belongs_own, judge_decides}
use Rattle.aff_make.proofs.making.make.Goals as goal

pub add_child-requires-clause-belongs : goal.add_child-requires-clause-belongs
add_child-requires-clause-belongs c = belongs_own (judge_belongs _ _ _ _ _ c.in_ok-held.ensures).0

-- What is refused after 24 and 22 is make's refusal.
pub returns-in_err-string-clause-answer : goal.returns-in_err-string-clause-answer
returns-in_err-string-clause-answer c =
    let w = c.args.writer.now in
    let t = c.args.text.now in
    let r = c.args.tree.now in
    let n = c.args.name.now in
    let g = c.in_ok-held.held.given in
    let decides : Given → Answer ℕ = λ g. first_wrong (child_checks g.writer g.text.now g.tree.now c.args.parent n) (g.writer.nodes + 1) in
    let a : answer_of c.from_residual-in_err-string.result ≡ refused (code_of_refusal c.in_err-string.field-0.0) = search rules in
    a
    ∙ sym (same_refusal (child_checks g.writer g.text.now g.tree.now c.args.parent n) _ (g.writer.nodes + 1) (sym c.in_err-string.ensures))
    ∙ sym (ap decides (passed_value (writer_checks (length c.args.buffer.now) w t r) _ (sym c.in_ok-held.ensures)))
    ∙ judge_decides (length c.args.buffer.now) w t r c.args.parent n _ c.in_ok-held.ensures
