use Rattle.std.proofs.Common.{◌≤◌, ◌++◌, drop, length, length-append, arith, rules}
use Rattle.console.proofs.Reading.{lost_on}
use Rattle.console.proofs.next_image.Goals as goal

pub returns-in_err-read_full-clause-cut : goal.returns-in_err-read_full-clause-cut
returns-in_err-read_full-clause-cut g c =
    let head = rw c.in-Some.is at c.in_ok-size.ensures.bytes in
    let part = c.read_full.new.area in
    let rest = drop c.in-Some.size c.args.area.now in
    let fits : length part ≤ length (part ++ rest) = omega (arith, length-append part rest) in
    let lost = lost_on _ _ _ _ _ _ (omega (arith, head.1)) fits head.3 c.in_err-read_full.ensures.cut in
    search rules
