use Rattle.std.proofs.Common.{arith}
use Rattle.aff_list.proofs.OutputLaws.{read_decides}
use Rattle.aff_list.proofs.output.read_input.Goals as goal

-- The law is said of the area that was read into, which has to be above the limit.
pub returns-clause-decides : goal.returns-clause-decides
returns-clause-decides g c =
    let e = c.in_ok-size.ensures in
    let decided = read_decides _ _ c.read_full.new.area c.in_ok-size.size (omega arith) e.inside e.bytes e.end in
    decided
