-- The invariant: the checks left decide.
use Rattle.std.proofs.Common.{◌≡◌, drop}
use Rattle.aff_format.specs.Answer.{first_wrong}
use Rattle.aff_open.specs.Opening.{inside_checks}
use Rattle.aff_open.proofs.sections.Header.inside.Given as goal

abbrev pub invariant-loop-section : goal.invariant-loop-section
invariant-loop-section l =
    let checks = inside_checks l.self.edition l.self.image.now in
    first_wrong (drop l.section-index checks) (tt {0}) ≡ first_wrong checks (tt {0})
