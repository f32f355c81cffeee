-- The rules of a file in document 01's order, with 25 to 27 of request C-11, each with the refusal that is reported where it fails. They are those of
-- `Obeys`, said of the strings and entries into which the tables split (`strings_in`, `nodes_in`, and `bytes_after_nodes`, what is left of a table that does
-- not).
use Rattle.std.specs.Prelude.{◌≡◌, List, [], ◌∷◌, ◌++◌, ℕ, ◌+◌, ◌≤◌, length, take}
use Rattle.aff_md5.specs.Md5.{md5}
use Rattle.aff_format.specs.Answer.{refusal, refusal_at}
use Rattle.aff_format.specs.Bytes.{part}
use Rattle.aff_format.specs.Edition.{signature_text, header_sum_at, header_size, least_header}
use Rattle.aff_format.specs.Limits.{image_limit, string_limit, node_limit}
use Rattle.aff_format.specs.Rule.{Rule, rule, each_from}
use Rattle.aff_format.specs.declared.section.Section.TheVariants.{Symbol, Tree, Data}
use Rattle.aff_format.specs.declared.edition.Edition.{Edition}
use Rattle.aff_format.specs.declared.entry.Entry.{Entry}
use Rattle.aff_tables.specs.Nodes.{contents_of, bad_link}
use Rattle.aff_open.specs.Rules.{Inside, Summed, Counted, Unrepeated, Linked, Climbs, NameFree, DataInside}
use Rattle.aff_open.specs.Sections.{edition_in, strings_in, nodes_in, bytes_after_nodes}

-- 1, then 2, text 3. `strings` and `entries` are the lengths of the areas passed.
abbrev pub text_rules : List ℕ → List ℕ → ℕ → ℕ → List Rule
text_rules image form strings entries =
    rule ((length form ≡ 12) × (strings ≡ string_limit) × (entries ≡ node_limit) × (length image ≤ image_limit)) (refusal 1)
    ∷ rule (least_header ≤ length image) (refusal 2)
    ∷ rule ((e : Edition) × (take 20 image ≡ signature_text e)) (refusal 3)
    ∷ []

-- After the text, in its edition: 2 by the edition's length, 4, 5.
abbrev pub edition_rules : Edition → List ℕ → List ℕ → List Rule
edition_rules e image form =
    rule (header_size e ≤ length image) (refusal 2)
    ∷ rule (part 20 12 image ≡ form) (refusal 4)
    ∷ rule (part (header_sum_at e) 16 image ≡ md5 (take (header_sum_at e) image)) (refusal 5)
    ∷ []

-- 6, then 7, over the sections.
abbrev pub section_rules : Edition → List ℕ → List Rule
section_rules e image =
    rule (Inside e Symbol image) (refusal_at 6 1)
    ∷ rule (Inside e Tree image) (refusal_at 6 2)
    ∷ rule (Inside e Data image) (refusal_at 6 3)
    ∷ rule (Summed e Symbol image) (refusal_at 7 1)
    ∷ rule (Summed e Tree image) (refusal_at 7 2)
    ∷ rule (Summed e Data image) (refusal_at 7 3)
    ∷ []

-- 25 and 26, of the symbol table. 25 reports the first string beyond the limit: strings are numbered from 0. Every run of bytes splits into strings
-- (`text_ended`), so `symbol_table` of `Obeys` needs no rule here.
abbrev pub symbol_rules : Edition → List ℕ → List (List ℕ) → List Rule
symbol_rules e image strings =
    rule (length strings ≤ string_limit) (refusal_at 25 string_limit)
    ∷ rule (Counted e Symbol image (length strings)) (refusal 26)
    ∷ []

-- 9. After the whole entries comes nothing: else entry number so many and one is cut short, of no type or the 2,049th.
abbrev pub tree_rules : Edition → List ℕ → List Entry → List Rule
tree_rules e image entries =
    rule (bytes_after_nodes e image ≡ []) (refusal_at 9 (length entries + 1))
    ∷ rule (Counted e Tree image (length entries)) (refusal 9)
    ∷ []

-- 10 to 13, each over all nodes before the next. 10 also reports where the node's name breaks (request C-18).
abbrev pub rules_from11 : Edition → List ℕ → List (List ℕ) → List Entry → List Rule
rules_from11 e image strings entries =
    each_from (refusal_at 11) (Climbs entries) (length entries) 1
    (each_from (refusal_at 12) (NameFree strings entries) (length entries) 1
    (each_from (refusal_at 13) (DataInside e image entries) (length entries) 1 []))

abbrev pub node_rules : Edition → List ℕ → List (List ℕ) → List Entry → List Rule
node_rules e image strings entries =
    each_from (bad_link e (contents_of strings entries)) (Linked e strings entries) (length entries) 1 (rules_from11 e image strings entries)

-- All that is asked before equal strings; then 27, string by string, and all that is asked after it.
abbrev pub rules_before27 : List ℕ → List ℕ → ℕ → ℕ → List Rule
rules_before27 image form strings entries =
    text_rules image form strings entries
    ++ (edition_rules (edition_in image) image form
    ++ (section_rules (edition_in image) image ++ symbol_rules (edition_in image) image (strings_in (edition_in image) image)))

abbrev pub rules_from27 : Edition → List ℕ → List (List ℕ) → List Entry → List Rule
rules_from27 e image strings entries =
    each_from (refusal_at 27) (Unrepeated strings) (length strings) 0 (tree_rules e image entries ++ node_rules e image strings entries)

-- All that is asked before the nodes.
abbrev pub rules_before10 : List ℕ → List ℕ → ℕ → ℕ → List Rule
rules_before10 image form strings entries =
    rules_before27 image form strings entries
    ++ each_from (refusal_at 27) (Unrepeated (strings_in (edition_in image) image)) (length (strings_in (edition_in image) image)) 0
    (tree_rules (edition_in image) image (nodes_in (edition_in image) image))

-- Order: 1, then 2, text 3, its edition's length 2, then 4 to 7, 25 to 27, 9 to 13.
unfoldable pub rules : List ℕ → List ℕ → ℕ → ℕ → List Rule
rules image form strings entries =
    rules_before27 image form strings entries
    ++ rules_from27 (edition_in image) image (strings_in (edition_in image) image) (nodes_in (edition_in image) image)
