-- The string that begins at a place: where it ends, and its bytes as a part of the image. Assumes nothing.
use mathlib.Core.Path.{◌≡◌, ap, ◌∙◌}
use mathlib.Core.List.{List}
use Prim.Native.Nat.{ℕ, ◌+◌, ◌-◌, ◌≤◌, ◌<◌}
use native.Mathlib.Omega.{arith}
use lib.Dec.{eqb}
use lib.ListN.{length, take, drop}
use Rattle.std.specs.List.{position_or_len}
use lib.Seq.{take-take}
use borrow.Author.Tests.{ne_eqb}
use Rattle.aff_format.specs.Bytes.{part}
use Rattle.aff_format.specs.Strings.{up_to_zero}
use Rattle.aff_format.proofs.BytesLaws.{part_empty, length_part}
use Rattle.aff_format.proofs.StdLaws.{up_to_zero_is}
use Rattle.aff_format.proofs.StringsLaws.{length_up_to_zero, take_up_to_zero}
use Rattle.aff_format.specs.Recorded.{name_from, found_entry, recorded_entry}
use Rattle.aff_format.specs.Entry.{or_none}

-- The bytes before the first zero are the string.
pub front_until_zero : (l : List ℕ) (n : ℕ) → n ≡ position_or_len (λ x. eqb x 0) l → take n l ≡ up_to_zero l
front_until_zero l n e = ap (λ k. take k l) (e ∙ up_to_zero_is l) ∙ take_up_to_zero l

-- At the end of its section a string has no bytes.
pub ends_past_lem : (image : List ℕ) (end at : ℕ) → end ≤ at → at + length (name_from image end at) ≡ at
unfolding name_from up_to_zero
ends_past_lem image end at h = rw (part_empty image at end) (omega arith)

-- The string that begins at a place of a section ends no later than the section.
pub name_ends : (image : List ℕ) (end from : ℕ) → from ≤ end → end ≤ length image → from + length (name_from image end from) ≤ end
unfolding name_from
name_ends image end from h f =
    omega (arith, length_up_to_zero (part from (end - from) image), length_part from (end - from) image (omega arith))

pub name_part : (image : List ℕ) (end from to : ℕ) → from ≤ end → end ≤ length image → to ≡ from + length (name_from image end from)
    → part from (to - from) image ≡ name_from image end from
unfolding name_from
name_part image end from to h f e =
    let run : List ℕ = part from (end - from) image in
    let n : to - from ≡ length (up_to_zero run) = omega arith in
    let few : length (up_to_zero run) ≤ end - from = omega (arith, name_ends image end from h f) in
    rw (n, ← take-take (length (up_to_zero run)) (end - from) (drop from image) few) (take_up_to_zero run)

-- The entry of a node is the one found.
pub recorded_found : (image entries : List ℕ) (k : ℕ) → 0 < k → recorded_entry image entries k ≡ or_none (found_entry image entries k)
unfolding recorded_entry
recorded_found image entries k h = rw (ne_eqb k 0 (λ q. omega arith))
