-- The header of a written file: document 01, 'Layout of a file'.
use Rattle.std.specs.Prelude.{cond, List, [], ◌++◌, map, ℕ, length}
use Rattle.aff_md5.specs.Md5.{md5}
use Rattle.aff_format.specs.Bytes.{joined}
use Rattle.aff_format.specs.Edition.{has_counts, header_order, signature_text}
use Rattle.aff_format.specs.Number.{be_bytes}
use Rattle.aff_format.specs.declared.edition.Edition.{Edition}
use Rattle.aff_format.specs.declared.section.Section.{Section}

-- The numbers in the header of a section: offset, size in bytes, and the record count where the edition has one.
unfoldable pub section_numbers : Edition → ℕ → ℕ → ℕ → List ℕ
section_numbers e offset size count = be_bytes 8 offset ++ (be_bytes 8 size ++ cond (has_counts e) (be_bytes 8 count) [])

-- The header of a section that begins at `offset`, has `count` records and holds some bytes: its numbers and its sum.
unfoldable pub section_header : Edition → ℕ → ℕ → List ℕ → List ℕ
section_header e offset count bytes = section_numbers e offset (length bytes) count ++ md5 bytes

-- Signature and section headers, in the order of the edition: what the header sum is over. `h` gives the header of each section.
unfoldable pub header_front : Edition → List ℕ → (Section → List ℕ) → List ℕ
header_front e form h = signature_text e ++ (form ++ joined (map h (header_order e)))

-- A header: its front and the sum of it.
unfoldable pub with_sum : List ℕ → List ℕ
with_sum front = front ++ md5 front
