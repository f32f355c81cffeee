use Rattle.aff_list.proofs.FillLaws.{Filling}
use Rattle.aff_read.specs.passes.Held.{holds}
use Rattle.aff_list.proofs.blocks.fill.Given as goal

abbrev pub invariant-loop-next : goal.invariant-loop-next
invariant-loop-next l = holds l.opened Filling l.order l.from l.initial.block l.block l.next l.used
