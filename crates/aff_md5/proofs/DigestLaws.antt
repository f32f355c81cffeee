-- What the proofs of callers cite of a digest: it has 16 elements. Assumes nothing.
use Rattle.std.proofs.Common.{◌≡◌, ℕ, List, length, length-append}
use Rattle.aff_md5.specs.Md5.{output, md5}
use Rattle.aff_md5.proofs.Writing.{le_length}

pub length_md5 : (m : List ℕ) → length (md5 m) ≡ 16
unfolding md5 output
length_md5 m = simp (length-append, le_length)
