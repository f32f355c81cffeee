use Rattle.std.proofs.Common.{arith}
use Rattle.aff_list.proofs.FirstLaws.{first_refused, first_accepted}
use Rattle.aff_list.proofs.ReadyLaws.{prepared_ready}
use Rattle.aff_list.proofs.blocks.first_lines.Goals as goal

pub returns-in-Err-clause-block : goal.returns-in-Err-clause-block
returns-in-Err-clause-block c =
    let e = c.begin.ensures in
    first_refused c.args.image.now c.args.choice c.args.strings.now c.args.entries.now c.args.order.now c.requires (omega arith) (omega arith) c.begin.result
    (e.answer, (e.lines, (e.strings, (e.entries, e.order)))) _ c.in-Err.is c.put_refusal.ensures

pub returns-in-Ok-clause-block : goal.returns-in-Ok-clause-block
returns-in-Ok-clause-block c =
    let e = c.begin.ensures in
    first_accepted c.args.image.now c.args.choice c.args.strings.now c.args.entries.now c.args.order.now c.requires (omega arith) (omega arith) c.begin.result
    (e.answer, (e.lines, (e.strings, (e.entries, e.order)))) _ c.in-Ok.is c.fill-filled.ensures

pub shared_ref_as_front-fill : goal.shared_ref_as_front-fill
shared_ref_as_front-fill c =
    let e = c.begin.ensures in
    omega (
      arith,
      (prepared_ready c.args.image.now c.args.choice c.args.strings.now c.args.entries.now c.args.order.now c.begin.result
          (e.answer, (e.lines, (e.strings, (e.entries, e.order)))) _ c.in-Ok.is).few,
    )

pub fill-filled-requires-clause-ready : goal.fill-filled-requires-clause-ready
fill-filled-requires-clause-ready c =
    let e = c.begin.ensures in
    let l = prepared_ready c.args.image.now c.args.choice c.args.strings.now c.args.entries.now c.args.order.now c.begin.result
    (e.answer, (e.lines, (e.strings, (e.entries, e.order)))) _ c.in-Ok.is in
    rw l.ordered l.ready
