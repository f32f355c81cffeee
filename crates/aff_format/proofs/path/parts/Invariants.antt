-- The invariant: the first fault from here on is the first fault of all parts.
use Rattle.std.proofs.Common.{◌≡◌, ◌-◌, ◌≤◌, length, drop}
use Rattle.aff_format.specs.Path.{between_slashes, parts_from}
use Rattle.aff_format.proofs.path.parts.Given as goal

abbrev pub invariant-loop-place : goal.invariant-loop-place
invariant-loop-place l =
    (l.at ≤ length l.path)
    × (parts_from l.edition l.at (between_slashes (drop l.at l.path)) ≡ parts_from l.edition 1 (between_slashes (drop 1 l.path)))

abbrev pub decreases-loop-place : goal.decreases-loop-place
decreases-loop-place l = length l.path - l.at
