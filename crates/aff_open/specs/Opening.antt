-- Opening: document 01, 'Numbers handed back', 1 to 7 and 9 to 13, with 25 to 27 of request C-11, and 'Order'. 8 is withdrawn (request C-14).
use Rattle.std.specs.Prelude.{Bool, cond, not, ◌||◌, List, [], ◌∷◌, ◌++◌, ℕ, eqb, ltb, length, get_or, replicate}
use Rattle.aff_format.specs.Answer.{Answer, accepted, refused, Check, check, refusal, refusal_at, first_wrong}
use Rattle.aff_format.specs.Bytes.{part, same_bytes, laid_over}
use Rattle.aff_format.specs.Edition.{edition_number, header_size, least_header, is_known}
use Rattle.aff_format.specs.Limits.{image_limit, string_limit, node_limit}
use Rattle.aff_format.specs.Strings.{places_of}
use Rattle.aff_format.specs.declared.section.Section.{Section}
use Rattle.aff_format.specs.declared.section.Section.TheVariants.{Symbol, Tree, Data}
use Rattle.aff_format.specs.declared.edition.Edition.{Edition}
use Rattle.aff_format.specs.declared.entry.Entry.{Entry}
use Rattle.aff_tables.specs.Nodes.{Contents, contents_of, node_checks}
use Rattle.aff_tables.specs.Tables.{entry_places, node_entry, symbol_checks, tree_checks}
use Rattle.aff_reader.specs.Reader.{no_reader}
use Rattle.aff_open.specs.Sections.{text_edition, edition_in, section_offset, section_size, section_records, section_bytes, header_sum_wrong, ends_past, sum_wrong, strings_in, nodes_in}
use Rattle.aff_reader.specs.declared.reader.Span.{Span}
use Rattle.aff_reader.specs.declared.reader.Reader.{Reader}
use Rattle.aff_open.specs.declared.tables.TableSizes.{TableSizes}

-- 1: an area is not 2,048 numbers, the form not 12 bytes, or the image too long.
unfoldable pub lengths_wrong : List ℕ → List ℕ → ℕ → ℕ → Bool
lengths_wrong image form strings entries =
    not (eqb (length form) 12) || (not (eqb strings string_limit) || (not (eqb entries node_limit) || ltb image_limit (length image)))

-- 2, 4, 5 in an edition.
abbrev pub form_checks : Edition → List ℕ → List ℕ → List Check
form_checks e image form =
    check (ltb (length image) (header_size e)) (refusal 2)
    ∷ check (not (same_bytes (part 20 12 image) form)) (refusal 4)
    ∷ check (header_sum_wrong e image) (refusal 5)
    ∷ []

-- 2, text 3, its edition's length 2, 4, 5.
abbrev pub header_checks : List ℕ → List ℕ → List Check
header_checks image form =
    check (ltb (length image) least_header) (refusal 2)
    ∷ check (not (is_known (text_edition image))) (refusal 3)
    ∷ form_checks (edition_in image) image form

-- 6 over the three sections.
abbrev pub inside_checks : Edition → List ℕ → List Check
inside_checks e image =
    check (ends_past e Symbol image) (refusal_at 6 1)
    ∷ check (ends_past e Tree image) (refusal_at 6 2)
    ∷ check (ends_past e Data image) (refusal_at 6 3)
    ∷ []

-- 7 over the three sections.
abbrev pub sum_checks : Edition → List ℕ → List Check
sum_checks e image =
    check (sum_wrong e Symbol image) (refusal_at 7 1)
    ∷ check (sum_wrong e Tree image) (refusal_at 7 2)
    ∷ check (sum_wrong e Data image) (refusal_at 7 3)
    ∷ []

abbrev pub section_checks : Edition → List ℕ → List Check
section_checks e image = inside_checks e image ++ sum_checks e image

-- Of the two tables: 25 to 27, then 9.
abbrev pub symbols_checked : Edition → List ℕ → List Check
symbols_checked e image = symbol_checks e (section_records e Symbol image) (section_bytes e Symbol image)

abbrev pub tree_checked : Edition → List ℕ → List Check
tree_checked e image = tree_checks e (section_records e Tree image) (section_bytes e Tree image)

abbrev pub table_checks : Edition → List ℕ → List Check
table_checks e image = symbols_checked e image ++ tree_checked e image

-- 6, 7, 25 to 27, 9: all that is asked after the header and before the nodes.
abbrev pub body_checks : Edition → List ℕ → List Check
body_checks e image = section_checks e image ++ table_checks e image

-- String i and the entry of node k, by the tables; all of them.
abbrev pub string_in : Edition → List ℕ → ℕ → List ℕ
string_in e image i = get_or (strings_in e image) i []

abbrev pub entry_in : Edition → List ℕ → ℕ → Entry
entry_in e image k = node_entry (nodes_in e image) k

abbrev pub contents_in : Edition → List ℕ → Contents
contents_in e image = contents_of (strings_in e image) (nodes_in e image)

-- 10 to 13.
abbrev pub nodes_checked : Edition → List ℕ → List Check
nodes_checked e image = node_checks e (section_offset e Data image) (section_size e Data image) (contents_in e image)

-- 1, then 2, text 3, its edition's length 2, then 4 to 7, 25 to 27, 9: up to the tables.
unfoldable pub up_to_tables : List ℕ → List ℕ → ℕ → ℕ → List Check
up_to_tables image form strings entries =
    check (lengths_wrong image form strings entries) (refusal 1) ∷ (header_checks image form ++ body_checks (edition_in image) image)

-- Order: 1, then 2, text 3, its edition's length 2, then 4 to 7, 25 to 27, 9 to 13.
unfoldable pub open_checks : List ℕ → List ℕ → ℕ → ℕ → List Check
open_checks image form strings entries = up_to_tables image form strings entries ++ nodes_checked (edition_in image) image

-- What is known of an image that passes `up_to_tables`: its edition, and how many strings and nodes its tables have; and the answer up to there.
abbrev pub sizes_in : Edition → List ℕ → TableSizes
sizes_in e image = record { edition = e; strings = length (strings_in e image); nodes = length (nodes_in e image) }

abbrev pub tables_answer : List ℕ → List ℕ → ℕ → ℕ → Answer TableSizes
tables_answer image form strings entries = first_wrong (up_to_tables image form strings entries) (sizes_in (edition_in image) image)

abbrev pub span_of : Edition → Section → List ℕ → Span
span_of e s image = record { offset = section_offset e s image; size = section_size e s image }

-- The record of an accepted opening. The data section's record count is reported as the header has it, 0 in edition 1.
abbrev pub reader_with : Edition → List ℕ → ℕ → ℕ → Reader
reader_with e image strings nodes =
    record {
      length = length image;
      edition = edition_number e;
      symbols = span_of e Symbol image;
      tree = span_of e Tree image;
      «data» = span_of e Data image;
      strings = strings;
      nodes = nodes;
      records = section_records e Data image;
    }

abbrev pub reader_for : Edition → List ℕ → Reader
reader_for e image = reader_with e image (length (strings_in e image)) (length (nodes_in e image))

-- The answer.
abbrev pub open_answer : List ℕ → List ℕ → ℕ → ℕ → Answer Reader
open_answer image form strings entries = first_wrong (open_checks image form strings entries) (reader_for (edition_in image) image)

-- The record: all zero after a refusal.
abbrev pub reader_after : Answer Reader → Reader
reader_after (accepted r) = r
reader_after (refused t) = no_reader

-- The places of the strings and of the entries of an image.
abbrev pub string_places : Edition → List ℕ → List ℕ
string_places e image = places_of (section_offset e Symbol image) (strings_in e image)

abbrev pub node_places : Edition → List ℕ → List ℕ
node_places e image = entry_places (section_offset e Tree image) (nodes_in e image)

-- An area: after acceptance the places, and zero after them; after a refusal all zero.
abbrev pub area_filled : {A : Type 0} → Answer A → List ℕ → List ℕ → List ℕ
area_filled (accepted a) area places = laid_over (replicate (length area) 0) places
area_filled (refused t) area places = replicate (length area) 0

module _ (image form strings entries : List ℕ) where
  -- The two areas where opening stops after the tables. After 1 nothing changed.
  unfoldable pub strings_filled : List ℕ
  strings_filled =
      cond (lengths_wrong image form (length strings) (length entries)) strings
      (area_filled (tables_answer image form (length strings) (length entries)) strings (string_places (edition_in image) image))

  unfoldable pub entries_filled : List ℕ
  entries_filled =
      cond (lengths_wrong image form (length strings) (length entries)) entries
      (area_filled (tables_answer image form (length strings) (length entries)) entries (node_places (edition_in image) image))

  -- The two areas after the whole opening. After 1 nothing changed.
  unfoldable pub strings_after : List ℕ
  strings_after =
      cond (lengths_wrong image form (length strings) (length entries)) strings
      (area_filled (open_answer image form (length strings) (length entries)) strings (string_places (edition_in image) image))

  unfoldable pub entries_after : List ℕ
  entries_after =
      cond (lengths_wrong image form (length strings) (length entries)) entries
      (area_filled (open_answer image form (length strings) (length entries)) entries (node_places (edition_in image) image))
