use Rattle.std.proofs.Common.{◌-◌, ◌≤◌, ◌<◌, length, take}
use Rattle.aff_reader.specs.Opened.{of}
use Rattle.aff_read.specs.passes.Held.{holds}
use Rattle.aff_list.specs.Lister.{Ready, rows_from, printed}
use Rattle.aff_list.proofs.OutputLaws.{Shown}
use Rattle.aff_list.proofs.output.print.Given as goal

abbrev pub invariant-loop-next : goal.invariant-loop-next
invariant-loop-next g l = record {
  few : l.lines ≤ length l.order;
  ready : l.next < l.lines → holds l.opened Ready (take l.lines l.order);
  shown : Shown (g.W.Write.contents l.fn.out) (g.W.Write.contents l.out) (printed l.fn.choice l.input)
      (of l.opened rows_from (take l.lines l.order) l.next);
}

abbrev pub decreases-loop-next : goal.decreases-loop-next
decreases-loop-next g l = l.lines - l.next
