use Rattle.std.proofs.Common.{refl, ◌∙◌, arith}
use Rattle.aff_reader.proofs.BelongsLaws.{belongs_record}
use Rattle.aff_listing.proofs.ListedLaws.{order_exist}
use Rattle.aff_list.proofs.ReadyLaws.{refused_on, order_front, paths_refuse, paths_accept, order_few}
use Rattle.aff_list.proofs.blocks.prepare.Goals as goal

pub listing_of-lines-requires : goal.listing_of-lines-requires
listing_of-lines-requires c =
    let b = belongs_record c.args.belonging.now.belongs in
    omega (arith, order_few _ _ _ _ c.args.choice b c.args.order.now)

pub measure-requires : goal.measure-requires
measure-requires c =
    let b = belongs_record c.args.belonging.now.belongs in
    let l = c.listing_of-lines.ensures in
    let (few, taken) = order_front _ _ _ _ c.args.choice b c.args.order.now l.answer l.output in
    rw taken (order_exist b c.args.choice)

pub shared_ref_as_front-measure : goal.shared_ref_as_front-measure
shared_ref_as_front-measure c =
    let b = belongs_record c.args.belonging.now.belongs in
    let l = c.listing_of-lines.ensures in
    omega (arith, (order_front _ _ _ _ c.args.choice b c.args.order.now l.answer l.output).0)

pub returns-in_err-measure-clause-answer : goal.returns-in_err-measure-clause-answer
returns-in_err-measure-clause-answer c =
    let b = belongs_record c.args.belonging.now.belongs in
    let l = c.listing_of-lines.ensures in
    (refused_on _ _ c.from_residual.ensures.1).0 ∙ paths_refuse _ _ _ _ c.args.choice b c.args.order.now _ l.answer l.output c.in_err-measure.ensures _ refl

pub returns-clause-answer : goal.returns-clause-answer
returns-clause-answer c =
    let b = belongs_record c.args.belonging.now.belongs in
    let l = c.listing_of-lines.ensures in
    paths_accept _ _ _ _ c.args.choice b c.args.order.now _ l.answer l.output c.in_ok-measure.ensures refl
