use Rattle.std.proofs.Common.{◌≡◌, ◌+◌, ◌-◌, length, get_or}
use Rattle.aff_format.specs.Lowest.{lowest_from}
use Rattle.aff_reader.specs.Opened.{of}
use Rattle.aff_list.specs.Lister.{path_too_long}
use Rattle.aff_list.proofs.blocks.measure.Given as goal

abbrev pub invariant-loop-node : goal.invariant-loop-node
invariant-loop-node l =
    lowest_from (λ i. of l.belonging.opened path_too_long (get_or l.order i 0)) (length l.order - l.node-index) (l.node-index + 0)
    ≡ lowest_from (λ i. of l.belonging.opened path_too_long (get_or l.order i 0)) (length l.order) 0
