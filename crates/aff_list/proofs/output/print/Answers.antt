use Rattle.std.proofs.Common.{rules, arith}
use Rattle.aff_list.proofs.OutputLaws.{shown_first, shown_more, shown_all, shown_cut, no_more}
use Rattle.aff_list.proofs.output.print.Goals as goal

pub loop-next-init : goal.loop-next-init
loop-next-init g c =
    let s = c.first_block-first.ensures.block in
    record { few = s.few; ready = s.ready; shown = shown_first s c.in_ok-text.ensures.all }

pub loop-next-preserved : goal.loop-next-preserved
loop-next-preserved g c =
    let i = c.loop-next.invariant in
    record { few = i.few; ready = λ h. i.ready (omega (arith, c.loop-next-test.true)); shown = shown_more _ i.shown c.in_ok-text-2.ensures.all c.fill-filled.ensures.text }

pub returns-clause-all : goal.returns-clause-all
returns-clause-all g c = shown_all c.loop-next.invariant.shown (no_more _ _ _ _ _ _ _ c.loop-next.invariant.few (omega (arith, c.loop-next-test.false)))

pub returns-in_err-text-2-clause-cut : goal.returns-in_err-text-2-clause-cut
returns-in_err-text-2-clause-cut g c =
    let front = shown_cut _ _ _ c.loop-next.invariant.shown c.in_err-text-2.ensures.cut c.fill-filled.ensures.text in
    search rules
