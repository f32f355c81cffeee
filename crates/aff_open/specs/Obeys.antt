-- A file that obeys the format: document 01, 'Layout of a file', rule by rule, as statements about the image. Nothing here says how or in which
-- order a rule is checked.
use Rattle.std.specs.Prelude.{◌≡◌, List, [], ℕ, ◌≤◌, ◌<◌, length, get_or, take}
use Rattle.aff_md5.specs.Md5.{md5}
use Rattle.aff_format.specs.Bytes.{part}
use Rattle.aff_format.specs.Edition.{header_size, header_sum_at, signature_text}
use Rattle.aff_format.specs.Entry.{Storable}
use Rattle.aff_format.specs.Limits.{image_limit, string_limit, node_limit}
use Rattle.aff_format.specs.Strings.{text_of, with_last_zero}
use Rattle.aff_format.specs.declared.section.Section.{Section}
use Rattle.aff_format.specs.declared.section.Section.TheVariants.{Symbol, Tree}
use Rattle.aff_format.specs.declared.edition.Edition.{Edition}
use Rattle.aff_format.specs.declared.entry.Entry.{Entry}
use Rattle.aff_tables.specs.Tables.{node_entry, tree_bytes}
use Rattle.aff_open.specs.Rules.{Inside, Summed, Counted, Distinct, Linked, Climbs, NameFree, DataInside, EachNode}
use Rattle.aff_open.specs.Sections.{section_bytes}

pub record Obeys (image form : List ℕ) : Type 0 where
  -- The header.
  pub edition : Edition
  pub size : length image ≤ image_limit
  pub whole_header : header_size edition ≤ length image
  pub text : take 20 image ≡ signature_text edition
  pub number_form_is : part 20 12 image ≡ form
  pub header_sum : part (header_sum_at edition) 16 image ≡ md5 (take (header_sum_at edition) image)
  -- The sections, which may be anywhere and overlap.
  pub inside : (s : Section) → Inside edition s image
  pub sums : (s : Section) → Summed edition s image
  -- The symbol table: a run of strings, each ended by a zero byte, which the last one may lack (request C-13); no string occurs twice.
  pub strings : List (List ℕ)
  pub symbol_table : with_last_zero (section_bytes edition Symbol image) ≡ text_of strings
  pub no_zero : (i k : ℕ) → i < length strings → k < length (get_or strings i []) → get_or (get_or strings i []) k 0 ≡ 0 → ⊥
  pub few_strings : length strings ≤ string_limit
  pub string_count : Counted edition Symbol image (length strings)
  pub distinct : Distinct strings
  -- The tree table: entries one after the other.
  pub entries : List Entry
  pub tree_table : section_bytes edition Tree image ≡ tree_bytes entries
  pub storable : EachNode entries (λ k. Storable (node_entry entries k))
  pub few_nodes : length entries ≤ node_limit
  pub node_count : Counted edition Tree image (length entries)
  -- Each node: its parent and its string exist and its name is a subkey, its climb reaches the root, no sibling has its name, its data lie inside.
  pub linked : EachNode entries (Linked edition strings entries)
  pub climbs : EachNode entries (Climbs entries)
  pub name_free : EachNode entries (NameFree strings entries)
  pub data_inside : EachNode entries (DataInside edition image entries)
