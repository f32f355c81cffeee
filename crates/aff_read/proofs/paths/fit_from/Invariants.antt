-- What is left of the string fits what is left of the path as the whole does.
use Rattle.std.proofs.Common.{◌≡◌, ◌≤◌, length, drop}
use Rattle.aff_format.specs.Strings.{up_to_zero}
use Rattle.aff_read.specs.passes.Fit.{fit_from}
use Rattle.aff_read.proofs.paths.fit_from.Given as goal

abbrev pub invariant-loop-byte : goal.invariant-loop-byte
invariant-loop-byte l =
    (l.n ≤ length l.path)
    × (fit_from (up_to_zero (drop l.byte-index l.symbols)) (drop l.n l.path) l.n ≡ fit_from (up_to_zero l.symbols) (drop l.at l.path) l.at)
