-- The nodes left decide, and what is settled stays so.
use Rattle.std.proofs.Common.{◌≡◌, ◌+◌, ◌-◌}
use Rattle.aff_format.specs.Bytes.{same_bytes}
use Rattle.aff_format.specs.Lowest.{lowest_from}
use Rattle.aff_reader.specs.Opened.{of}
use Rattle.aff_nodes.specs.Recall.{path_at}
use Rattle.aff_read.specs.Paths.{found}
use Rattle.aff_read.specs.passes.Held.{holds}
use Rattle.aff_read.specs.passes.Fit.{FitsSettled}
use Rattle.aff_read.proofs.paths.lowest_match.Given as goal

abbrev pub invariant-loop-k : goal.invariant-loop-k
invariant-loop-k l =
    holds l.belonging.opened FitsSettled l.path l.fits
    × (lowest_from (λ j. same_bytes (of l.belonging.opened path_at j) l.path) (l.belonging.opened.reader.nodes + 1 - l.k) l.k
    ≡ of l.belonging.opened found l.path)
