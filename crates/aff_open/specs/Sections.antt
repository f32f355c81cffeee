-- Header and sections of an image: document 01, 'Layout of a file'. Numbers are exact: no sum wraps.
use Rattle.std.specs.Prelude.{◌≡◌, Bool, false, cond, not, List, ℕ, ◌+◌, ltb, length, take, Option}
use Rattle.aff_md5.specs.Md5.{md5}
use Rattle.aff_format.specs.Bytes.{part, same_bytes}
use Rattle.aff_format.specs.Edition.{editions, signature_text, has_counts, section_header_at, section_sum_at, header_sum_at, number_form, first_edition, or_two}
use Rattle.aff_format.specs.Number.{be_of}
use Rattle.aff_format.specs.declared.section.Section.{Section}
use Rattle.aff_format.specs.declared.edition.Edition.{Edition}
use Rattle.aff_format.specs.Strings.{strings_of}
use Rattle.aff_format.specs.Limits.{node_limit}
use Rattle.aff_format.specs.declared.section.Section.TheVariants.{Symbol, Tree}
use Rattle.aff_format.specs.declared.entry.Entry.{Entry}
use Rattle.aff_tables.specs.Tables.{bytes_after_entries, entries_in}

-- The edition whose text an image begins with.
unfoldable pub text_edition : List ℕ → Option Edition
text_edition image = first_edition (λ e. same_bytes (take 20 image) (signature_text e)) editions

abbrev pub edition_in : List ℕ → Edition
edition_in image = or_two (text_edition image)

-- The 12 bytes that our programs expect of an image.
abbrev pub form_for : List ℕ → List ℕ
form_for image = number_form (edition_in image)

-- The fields of a section header. Edition 1 has no record count; it is reported as 0.
unfoldable pub section_offset : Edition → Section → List ℕ → ℕ
section_offset e s image = be_of (part (section_header_at e s) 8 image)

unfoldable pub section_size : Edition → Section → List ℕ → ℕ
section_size e s image = be_of (part (section_header_at e s + 8) 8 image)

unfoldable pub section_records : Edition → Section → List ℕ → ℕ
section_records e s image = cond (has_counts e) (be_of (part (section_header_at e s + 16) 8 image)) 0

abbrev pub section_sum : Edition → Section → List ℕ → List ℕ
section_sum e s image = part (section_sum_at e s) 16 image

-- The bytes of a section.
unfoldable pub section_bytes : Edition → Section → List ℕ → List ℕ
section_bytes e s image = part (section_offset e s image) (section_size e s image) image

-- 5: the header sum is wrong.
unfoldable pub header_sum_wrong : Edition → List ℕ → Bool
header_sum_wrong e image = not (same_bytes (part (header_sum_at e) 16 image) (md5 (take (header_sum_at e) image)))

-- 6: a section ends past the image.
unfoldable pub ends_past : Edition → Section → List ℕ → Bool
ends_past e s image = ltb (length image) (section_offset e s image + section_size e s image)

-- No section ends past the image.
abbrev pub AllInside : Edition → List ℕ → Type 0
AllInside e image = (s : Section) → ends_past e s image ≡ false

-- 7: a section's sum is wrong.
unfoldable pub sum_wrong : Edition → Section → List ℕ → Bool
sum_wrong e s image = not (same_bytes (section_sum e s image) (md5 (section_bytes e s image)))

-- The strings and the entries of an image.
abbrev pub strings_in : Edition → List ℕ → List (List ℕ)
strings_in e image = strings_of (section_bytes e Symbol image)

abbrev pub nodes_in : Edition → List ℕ → List Entry
nodes_in e image = entries_in node_limit (section_bytes e Tree image)

abbrev pub bytes_after_nodes : Edition → List ℕ → List ℕ
bytes_after_nodes e image = bytes_after_entries node_limit (section_bytes e Tree image)
