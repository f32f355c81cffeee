-- The invariant: those of the nodes passed that are listed are written.
use Rattle.std.proofs.Common.{take}
use Rattle.aff_format.specs.passes.Written.{Written}
use Rattle.aff_listing.specs.ListingOrder.{kept}
use Rattle.aff_listing.specs.passes.Listed.{listed}
use Rattle.aff_listing.proofs.listing.Listed.put_all.Given as goal

abbrev pub invariant-loop-node : goal.invariant-loop-node
invariant-loop-node l = Written 0 (kept (listed l.self) (take l.node-index l.order)) l.fn.out l.out l.end
