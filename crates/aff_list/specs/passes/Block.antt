-- A block while it is filled: text put after its first `used` bytes, where the text fits.
use Rattle.std.specs.Prelude.{cond, List, ℕ, ◌+◌, leb, length}
use Rattle.aff_format.specs.Bytes.{spliced}

-- Where the text ends; `used` where it does not fit.
unfoldable pub end_after : ℕ → List ℕ → List ℕ → ℕ
end_after used text block = cond (leb (used + length text) (length block)) (used + length text) used

-- The block after it; unchanged where the text does not fit.
unfoldable pub put_after : ℕ → List ℕ → List ℕ → List ℕ
put_after used text block = cond (leb (used + length text) (length block)) (spliced used text block) block
