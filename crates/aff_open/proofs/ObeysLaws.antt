-- An opening is accepted exactly where the file obeys the format: the rules in document 01's order are those of `Obeys`. Where a file obeys, the
-- strings and entries that `Obeys` speaks of are those of its tables. Assumes nothing.
use mathlib.Core.Path.{◌≡◌, refl, sym, ap, ◌∙◌}
use mathlib.Core.Bool.{false}
use mathlib.Core.List.{List, [], ◌∷◌, ◌++◌}
use Prim.Native.Nat.{ℕ, zero, suc, ◌≤◌, ◌<◌}
use native.Mathlib.Omega.{arith}
use lib.ListN.{length, get_or}
use borrow.Author.Tests.{eqb-false, ne_eqb}
use Rattle.aff_format.specs.Answer.{accepted, refusal_at}
use Rattle.aff_format.specs.Bytes.{Without, EachWithout, Octets}
use Rattle.aff_format.specs.Edition.{signature_text, least_header, or_two}
use Rattle.aff_format.specs.Limits.{string_limit, node_limit}
use Rattle.aff_format.specs.Strings.{strings_of, ends_in_zero}
use Rattle.aff_format.specs.declared.section.Section.{Section}
use Rattle.aff_format.specs.declared.section.Section.TheVariants.{Symbol, Tree, Data}
use Rattle.aff_format.specs.declared.edition.Edition.{Edition}
use Rattle.aff_format.specs.declared.entry.Entry.{Entry}
use Rattle.aff_format.proofs.BytesLaws.{length_part, octets_part}
use Rattle.aff_format.proofs.EditionLaws.{header_least}
use Rattle.aff_format.proofs.StringsLaws.{text_ended, strings_without_zero, strings_with_last_zero, last_zero_optional, each_at}
use Rattle.aff_format.specs.Rule.{Rule, AllHold, each_from}
use Rattle.aff_tables.specs.Nodes.{contents_of, bad_link}
use Rattle.aff_open.specs.Rules.{Inside, Summed, Unrepeated, Distinct, Linked, Climbs, NameFree, DataInside}
use Rattle.aff_open.specs.Faults.{node_rules, tree_rules, rules_from27, symbol_rules, section_rules, rules}
use Rattle.aff_open.specs.Obeys.{Obeys}
use Rattle.aff_open.specs.Opening.{open_answer, reader_for}
use Rattle.aff_open.specs.Sections.{edition_in, section_offset, section_size, section_bytes, strings_in, nodes_in, bytes_after_nodes}
use Rattle.aff_reader.specs.declared.reader.Reader.{Reader}
use Rattle.aff_open.proofs.FaultLaws.{accepted_hold, hold_accepted}
use Rattle.aff_format.proofs.RuleLaws.{Each, each_hold, hold_each}
use Rattle.aff_open.proofs.SectionLaws.{known_text}
use Rattle.aff_tables.proofs.TreeTableLaws.{tree_bytes_lem, bytes_tree, entries_storable, entries_few}

-- ---- Strings without a zero byte, byte by byte.

pub without_at : (l : List ℕ) → Without 0 l → (k : ℕ) → k < length l → get_or l k 0 ≡ 0 → ⊥
without_at [] w k h = absurd (omega arith)
without_at (x ∷ l) w zero h = eqb-false x 0 w.0
without_at (x ∷ l) w (suc k) h = without_at l w.1 k (omega arith)

at_without : (l : List ℕ) → ((k : ℕ) → k < length l → get_or l k 0 ≡ 0 → ⊥) → Without 0 l
at_without [] h = tt
at_without (x ∷ l) h = (ne_eqb x 0 (h 0 (omega arith)), at_without l (λ k m. h (suc k) (omega arith)))

each_without : (ss : List (List ℕ)) → ((i k : ℕ) → i < length ss → k < length (get_or ss i []) → get_or (get_or ss i []) k 0 ≡ 0 → ⊥) → EachWithout 0 ss
each_without [] h = tt
each_without (s ∷ ss) h = (at_without s (λ k. h 0 k (omega arith)), each_without ss (λ i k l. h (suc i) k (omega arith)))

-- ---- The rules of all strings and of all nodes.

module _ (e : Edition) (image : List ℕ) (strings : List (List ℕ)) (entries : List Entry) where
  abbrev n : ℕ
  n = length entries

  -- Each node has a name that is a subkey, climbs to the root, and shares its name with no lower-numbered sibling; its data lie inside.
  abbrev pub NodesHold : Type 0
  NodesHold = Each (Linked e strings entries) n 1 × Each (Climbs entries) n 1 × Each (NameFree strings entries) n 1 × Each (DataInside e image entries) n 1

  abbrev from_13 : List Rule
  from_13 = each_from (refusal_at 13) (DataInside e image entries) n 1 []

  abbrev from_12 : List Rule
  from_12 = each_from (refusal_at 12) (NameFree strings entries) n 1 from_13

  abbrev from_11 : List Rule
  from_11 = each_from (refusal_at 11) (Climbs entries) n 1 from_12

  nodes_hold : AllHold (node_rules e image strings entries) → NodesHold
  nodes_hold h =
      let (linked, more) = each_hold (bad_link e (contents_of strings entries)) (Linked e strings entries) from_11 n 1 h in
      let (climbs, rest) = each_hold (refusal_at 11) (Climbs entries) from_12 n 1 more in
      let (free, last) = each_hold (refusal_at 12) (NameFree strings entries) from_13 n 1 rest in
      let (inside, _) = each_hold (refusal_at 13) (DataInside e image entries) [] n 1 last in
      (linked, climbs, free, inside)

  hold_nodes : NodesHold → AllHold (node_rules e image strings entries)
  hold_nodes (linked, climbs, free, inside) =
      hold_each (bad_link e (contents_of strings entries)) (Linked e strings entries) from_11 n 1 linked
      (hold_each (refusal_at 11) (Climbs entries) from_12 n 1 climbs
      (hold_each (refusal_at 12) (NameFree strings entries) from_13 n 1 free
      (hold_each (refusal_at 13) (DataInside e image entries) [] n 1 inside tt)))

  -- Each string differs from those before it; then the tree table and the nodes.
  strings_hold : AllHold (rules_from27 e image strings entries) → Distinct strings × AllHold (tree_rules e image entries ++ node_rules e image strings entries)
  strings_hold h =
      let (unrepeated, more) = each_hold _ (Unrepeated strings) (tree_rules e image entries ++ node_rules e image strings entries) (length strings) 0 h in
      (λ k l. unrepeated k (omega arith) (omega arith), more)

  hold_strings : Distinct strings → AllHold (tree_rules e image entries ++ node_rules e image strings entries) → AllHold (rules_from27 e image strings entries)
  hold_strings distinct more =
      hold_each _ (Unrepeated strings) (tree_rules e image entries ++ node_rules e image strings entries) (length strings) 0
      (λ k lo hi. distinct k (omega arith)) more

-- ---- Rules that hold make a file that obeys.

octets_section : (e : Edition) (s : Section) (image : List ℕ) → Octets image → Octets (section_bytes e s image)
unfolding section_bytes
octets_section e s image o = octets_part (section_offset e s image) (section_size e s image) image o

pub hold_obeys : (image form : List ℕ) → Octets image → AllHold (rules image form string_limit node_limit) → Obeys image form
unfolding rules
hold_obeys image form o h =
    let e = edition_in image in
    let ((_, _, _, size), (_, ((d, text), (whole, (form_is, (sum, sections)))))) = h in
    let (in-symbol, (in_tree, (in-data, (sum-symbol, (sum-tree, (sum-data, tables)))))) = sections in
    let (few, (count, more)) = tables in
    let (distinct, (rest, (number, nodes))) = strings_hold e image (strings_in e image) (nodes_in e image) more in
    let (linked, climbs, free, inside) = nodes_hold e image (strings_in e image) (nodes_in e image) nodes in
    record {
      edition = e;
      size = size;
      whole_header = whole;
      text = text ∙ ap signature_text (sym (ap or_two (known_text d image text)));
      number_form_is = form_is;
      header_sum = sum;
      inside = of_section (λ s. Inside e s image) in-symbol in_tree in-data;
      sums = of_section (λ s. Summed e s image) sum-symbol sum-tree sum-data;
      strings = strings_in e image;
      symbol_table = sym (text_ended (section_bytes e Symbol image));
      no_zero = λ i k l. without_at (get_or (strings_in e image) i []) (each_at 0 (strings_in e image) i (strings_without_zero (section_bytes e Symbol image))) k;
      few_strings = few;
      string_count = count;
      distinct = distinct;
      entries = nodes_in e image;
      tree_table = tree_bytes_lem node_limit (section_bytes e Tree image) rest (octets_section e Tree image o);
      storable = entries_storable node_limit (section_bytes e Tree image) (octets_section e Tree image o);
      few_nodes = entries_few node_limit (section_bytes e Tree image);
      node_count = number;
      linked = λ k lo hi. linked k lo (omega arith);
      climbs = λ k lo hi. climbs k lo (omega arith);
      name_free = λ k lo hi. free k lo (omega arith);
      data_inside = λ k lo hi. inside k lo (omega arith);
    }
  where
    of_section : (P : Section → Type 0) → P Symbol → P Tree → P Data → (s : Section) → P s
    of_section P a b c Symbol = a
    of_section P a b c Tree = b
    of_section P a b c Data = c

-- ---- And back.

module _ {image form : List ℕ} (o : Obeys image form) where
  -- The record's edition, strings and entries are those of the text and of the tables.
  pub edition_found : edition_in image ≡ o.edition
  edition_found = ap or_two (known_text o.edition image o.text)

  pub strings_found : strings_in o.edition image ≡ o.strings
  strings_found =
      strings_with_last_zero (section_bytes o.edition Symbol image) o.strings o.symbol_table (each_without o.strings o.no_zero)

  tree_found : (nodes_in o.edition image ≡ o.entries) × (bytes_after_nodes o.edition image ≡ [])
  tree_found = rw o.tree_table (bytes_tree o.entries node_limit o.storable o.few_nodes)

  pub entries_found : nodes_in o.edition image ≡ o.entries
  entries_found = tree_found.0

  -- The rules from the symbol table on.
  abbrev from_tables : List Rule
  from_tables =
      symbol_rules o.edition image (strings_in o.edition image) ++ rules_from27 o.edition image (strings_in o.edition image) (nodes_in o.edition image)

  tables_hold : AllHold from_tables
  tables_hold =
      let nodes = hold_nodes o.edition image o.strings o.entries (
        λ k lo hi. o.linked k lo (omega arith),
        λ k lo hi. o.climbs k lo (omega arith),
        λ k lo hi. o.name_free k lo (omega arith),
        λ k lo hi. o.data_inside k lo (omega arith),
      ) in
      let more = hold_strings o.edition image o.strings o.entries o.distinct (tree_found.1, (o.node_count, nodes)) in
      rw (strings_found, entries_found) (o.few_strings, (o.string_count, more))

  sections_hold : AllHold (section_rules o.edition image ++ from_tables)
  sections_hold = (o.inside Symbol, (o.inside Tree, (o.inside Data, (o.sums Symbol, (o.sums Tree, (o.sums Data, tables_hold))))))

  pub obeys_hold : AllHold (rules image form string_limit node_limit)
  unfolding rules
  obeys_hold =
      let whole = o.whole_header in
      let long : least_header ≤ length image = omega (arith, header_least o.edition) in
      let twelve : length form ≡ 12 = ap length (sym o.number_form_is) ∙ length_part 20 12 image (omega arith) in
      rw edition_found ((twelve, refl, refl, o.size), (long, ((o.edition, o.text), (whole, (o.number_form_is, (o.header_sum, sections_hold))))))

-- ---- The zero after a last string that is not empty makes no difference to the strings.

-- A file whose symbol table does not end in zero, and a file with that table and one zero after it, have the same strings. So a table whose last string is
-- not empty may be written in two ways. The other sections, sums and offsets may be anything that obeys.
pub same_strings : {image ended form form-ended : List ℕ} (o : Obeys image form) (p : Obeys ended form-ended)
    → ends_in_zero (section_bytes o.edition Symbol image) ≡ false
    → section_bytes p.edition Symbol ended ≡ section_bytes o.edition Symbol image ++ (0 ∷ []) → p.strings ≡ o.strings
same_strings {image} o p h is =
    sym (strings_found p) ∙ ap strings_of is ∙ last_zero_optional (section_bytes o.edition Symbol image) h ∙ strings_found o

-- ---- An opening is accepted exactly where the file obeys.

pub accepted_obeys : (image form : List ℕ) → Octets image → {r : Reader} → open_answer image form string_limit node_limit ≡ accepted r → Obeys image form
accepted_obeys image form o h = hold_obeys image form o (accepted_hold image form string_limit node_limit h)

pub obeys_accepted : (image form : List ℕ) → Obeys image form → open_answer image form string_limit node_limit ≡ accepted (reader_for (edition_in image) image)
obeys_accepted image form o = hold_accepted image form string_limit node_limit (obeys_hold o)

-- The rules of its nodes, in areas of any length.
pub accepted_nodes : (image form : List ℕ) (strings entries : ℕ) {r : Reader} → open_answer image form strings entries ≡ accepted r
    → NodesHold (edition_in image) image (strings_in (edition_in image) image) (nodes_in (edition_in image) image)
unfolding rules
accepted_nodes image form strings entries h =
    let (_, (_, (_, (_, (_, (_, sections)))))) = accepted_hold image form strings entries h in
    let (_, (_, (_, (_, (_, (_, tables)))))) = sections in
    let (_, (_, more)) = tables in
    let e = edition_in image in
    let (_, (_, (_, nodes))) = strings_hold e image (strings_in e image) (nodes_in e image) more in
    nodes_hold e image (strings_in e image) (nodes_in e image) nodes
