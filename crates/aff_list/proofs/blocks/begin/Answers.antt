-- Opening decides, then the paths of the nodes listed.
use Rattle.std.proofs.Common.{refl, ◌∙◌}
use Rattle.aff_list.proofs.ReadyLaws.{refused_on, judged_is, order_is, lines_is, opened_ready}
use Rattle.aff_list.proofs.blocks.begin.Goals as goal

pub returns-in_err-reader-clause-answer : goal.returns-in_err-reader-clause-answer
returns-in_err-reader-clause-answer c =
    let e = c.in_err-reader.ensures in
    (refused_on _ _ c.from_residual.ensures.1).0 ∙ judged_is _ c.args.choice _ _ c.args.order.now c.form_for-form.ensures e.answer e.strings e.entries

pub returns-in_err-reader-clause-lines : goal.returns-in_err-reader-clause-lines
returns-in_err-reader-clause-lines c =
    let e = c.in_err-reader.ensures in
    (refused_on _ _ c.from_residual.ensures.1).1 ∙ lines_is _ c.args.choice _ _ c.args.order.now c.form_for-form.ensures e.answer e.strings e.entries _ refl

pub returns-in_err-reader-clause-order : goal.returns-in_err-reader-clause-order
returns-in_err-reader-clause-order c =
    let e = c.in_err-reader.ensures in
    order_is _ c.args.choice _ _ c.args.order.now c.form_for-form.ensures e.answer e.strings e.entries

pub invariant_of-prepare : goal.invariant_of-prepare
invariant_of-prepare c =
    let e = c.in_ok-reader.ensures in
    record { belongs = opened_ready _ c.args.choice _ _ c.args.order.now c.form_for-form.ensures e.answer e.strings e.entries _ refl }

pub returns-clause-answer : goal.returns-clause-answer
returns-clause-answer c =
    let e = c.in_ok-reader.ensures in
    c.prepare.ensures.answer ∙ judged_is _ c.args.choice _ _ c.args.order.now c.form_for-form.ensures e.answer e.strings e.entries

pub returns-clause-lines : goal.returns-clause-lines
returns-clause-lines c =
    let e = c.in_ok-reader.ensures in
    c.prepare.ensures.lines ∙ lines_is _ c.args.choice _ _ c.args.order.now c.form_for-form.ensures e.answer e.strings e.entries _ c.prepare.ensures.answer

pub returns-clause-order : goal.returns-clause-order
returns-clause-order c =
    let e = c.in_ok-reader.ensures in
    c.prepare.ensures.order ∙ order_is _ c.args.choice _ _ c.args.order.now c.form_for-form.ensures e.answer e.strings e.entries
