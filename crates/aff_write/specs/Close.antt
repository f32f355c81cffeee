-- Close: document 01, 'Writing keys', and 'Order': 24, 22, 23.
use Rattle.std.specs.Prelude.{List, [], ◌∷◌, ◌++◌, ℕ, ◌+◌, ltb, length, take, drop}
use Rattle.aff_format.specs.Answer.{Answer, Check, check, refusal_at, first_wrong}
use Rattle.aff_format.specs.Bytes.{part}
use Rattle.aff_format.specs.declared.section.Section.{Section}
use Rattle.aff_format.specs.declared.section.Section.TheVariants.{Symbol, Tree, Data}
use Rattle.aff_areas.specs.Areas.{used_text, entries_out, data_nodes}
use Rattle.aff_areas.specs.Belongs.{writer_checks}
use Rattle.aff_header.specs.Header.{section_header, header_front, with_sum}
use Rattle.aff_areas.specs.Stores.{Store, stores_from}
use Rattle.aff_areas.specs.Writer.{writer_edition, data_place, data_size}
use Rattle.aff_areas.specs.declared.writer.Writer.{Writer}

-- Where the strings and the entries of the file begin: right at the end of data, and after the strings. Neither is aligned.
abbrev pub symbols_place : Writer → ℕ
symbols_place writer = writer.end

abbrev pub tree_place : Writer → ℕ
tree_place writer = symbols_place writer + writer.text

-- The data in the buffer, from the header to the end of data.
abbrev pub data_bytes : List ℕ → Writer → List ℕ
data_bytes buffer writer = part (data_place writer) (data_size writer) buffer

-- The header of each section, by the bytes of the three sections. Record counts: strings, nodes, and `full`, the nodes that are not Void.
abbrev pub section_of : Writer → ℕ → List ℕ → List ℕ → List ℕ → Section → List ℕ
section_of writer full symbols entries stored Symbol = section_header (writer_edition writer) (symbols_place writer) writer.strings symbols
section_of writer full symbols entries stored Tree = section_header (writer_edition writer) (tree_place writer) writer.nodes entries
section_of writer full symbols entries stored Data = section_header (writer_edition writer) (data_place writer) full stored

module _ (buffer : List ℕ) (writer : Writer) (text tree : List ℕ) where
  unfoldable pub close_section : Section → List ℕ
  close_section s = section_of writer (data_nodes tree writer.nodes) (used_text writer text) (entries_out tree writer.nodes) (data_bytes buffer writer) s

  unfoldable pub close_header : List ℕ
  close_header = with_sum (header_front (writer_edition writer) writer.form close_section)

  -- Order of byte stores: strings, entries, header bytes from 1 on, and last the header's first byte.
  unfoldable pub close_stores : List Store
  close_stores =
      (stores_from (symbols_place writer) (used_text writer text) ++ stores_from (tree_place writer) (entries_out tree writer.nodes))
      ++ (stores_from 1 (drop 1 close_header) ++ stores_from 0 (take 1 close_header))

  -- 23.
  abbrev pub store_checks : ℕ → List Check
  store_checks allowance = check (ltb allowance (length close_stores)) (refusal_at 23 allowance) ∷ []

  -- The answer reports the stores made.
  unfoldable pub close_answer : ℕ → Answer ℕ
  close_answer allowance = first_wrong (writer_checks (length buffer) writer text tree ++ store_checks allowance) (length close_stores)
