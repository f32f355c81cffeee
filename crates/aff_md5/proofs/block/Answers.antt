-- A block is in `front` or in `back`, one law each.
use Rattle.std.proofs.Common.{◌≡◌, ◌+◌, ◌-◌, ◌*◌, ◌/◌, length, arith}
use Rattle.aff_md5.proofs.Blocks.{whole_front, whole_back}
use Rattle.aff_md5.proofs.block.Goals as goal

pub returns-then-n-first-clause-value : goal.returns-then-n-first-clause-value
returns-then-n-first-clause-value c =
    let a = c.args in
    let e : 64 * a.n + 64 - 64 * a.n ≡ 64 = omega arith in
    rw e (whole_front a.front.now a.back.now a.n (omega arith))

pub returns-clause-value : goal.returns-clause-value
returns-clause-value c =
    let a = c.args in
    let j = 64 * (a.n - length a.front.now / 64) in
    let e : j + 64 - j ≡ 64 = omega arith in
    rw e (whole_back a.front.now a.back.now a.n (omega arith))
