-- What is settled stays so, and the fit at hand is that of the last node that was settled.
use Rattle.std.proofs.Common.{◌≡◌, length}
use Rattle.aff_reader.specs.Opened.{of}
use Rattle.aff_read.specs.passes.Held.{holds}
use Rattle.aff_read.specs.passes.Fit.{fit_at, above_at, FitsSettled, Chain}
use Rattle.aff_read.proofs.ChainLaws.{Left}
use Rattle.aff_read.proofs.paths.settle.Given as goal

abbrev pub invariant-loop-step : goal.invariant-loop-step
invariant-loop-step l =
    let all = l.initial.step-iterator.iter.rest.now in
    let rest = l.step-iterator.iter.rest.now in
    record {
      settled : holds l.belonging.opened FitsSettled l.path l.fits;
      chain : holds l.belonging.opened Chain l.node all (length all);
      left : Left all rest;
      fit : l.fit ≡ of l.belonging.opened fit_at l.path (of l.belonging.opened above_at (length rest) l.node);
    }
