-- What `md5_c_digest` leaves in the caller's output. Assumes nothing.
use Rattle.std.specs.Prelude.{cond, List, ◌++◌, ℕ, leb, length, drop}
use Rattle.aff_md5.specs.Md5.{md5}

-- The output o with the digest of m in its first 16 bytes, where it has so many; where it has fewer, as it was.
unfoldable pub with_digest : List ℕ → List ℕ → List ℕ
with_digest m o = cond (leb 16 (length o)) (md5 m ++ drop 16 o) o
