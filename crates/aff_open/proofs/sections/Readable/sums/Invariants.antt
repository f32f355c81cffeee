-- The invariant: the checks left decide.
use Rattle.std.proofs.Common.{◌≡◌, drop}
use Rattle.aff_format.specs.Answer.{first_wrong}
use Rattle.aff_open.specs.Opening.{sum_checks}
use Rattle.aff_open.proofs.sections.Readable.sums.Given as goal

abbrev pub invariant-loop-section : goal.invariant-loop-section
invariant-loop-section l =
    let checks = sum_checks l.self.header.edition l.self.header.image.now in
    first_wrong (drop l.section-index checks) (tt {0}) ≡ first_wrong checks (tt {0})
