-- Document 01's table 'Numbers handed back' and its 'Order' for each call: the rules that the call asks, in order, each with what is reported where it
-- fails. They speak of the record, the memory passed and the arguments, whatever these hold. Opening's rules are `rules` in
-- crates/aff_open/specs/Faults.antt. `Rule`, `AllHold`, `FirstFails` and `By` are in crates/aff_format/specs/Rule.antt.
use Rattle.std.specs.Prelude.{◌≡◌, true, List, [], ◌∷◌, ℕ, ◌+◌, ◌%◌, ◌≤◌, ◌<◌, length}
use Rattle.aff_format.specs.Edition.{header_size, edition_by, NamesWritten}
use Rattle.aff_format.specs.Align.{padding}
use Rattle.aff_format.specs.Answer.{refusal, refusal_at}
use Rattle.aff_format.specs.Element.{count_in, element_at}
use Rattle.aff_format.specs.Kind.{kind_code, element_size, entry_size}
use Rattle.aff_format.specs.Limits.{image_limit, string_limit, node_limit, text_area, tree_area}
use Rattle.aff_format.specs.Path.{path_grammar, WellFormed}
use Rattle.aff_format.specs.Subkey.{subkey_from, break_place, is_subkey}
use Rattle.aff_format.specs.declared.element.Element.{Element}
use Rattle.aff_format.specs.declared.kind.Kind.{Kind}
use Rattle.aff_format.specs.declared.kind.Kind.TheVariants.{Void}
use Rattle.aff_reader.specs.Belongs.{ReaderBelongs}
use Rattle.aff_format.specs.Rule.{Rule, rule, By, Is}
use Rattle.aff_reader.specs.declared.reader.Reader.{Reader}
use Rattle.aff_nodes.specs.Answers.{name_answer, kind_answer, count_answer, view_answer, element_answer}
use Rattle.aff_read.specs.Paths.{path_answer, lookup_answer}
use Rattle.aff_read.specs.Lookup.{LowestWith}
use Rattle.aff_nodes.specs.Recall.{kind_at, count_at, name_span, data_span, bytes_at, path_at}
use Rattle.aff_areas.specs.Areas.{slot_entry, name_of, finished_size}
use Rattle.aff_areas.specs.Belongs.{WriterBelongs}
use Rattle.aff_areas.specs.Writer.{writer_edition}
use Rattle.aff_areas.specs.declared.writer.Writer.{Writer}
use Rattle.aff_write.specs.Close.{close_stores, close_answer}
use Rattle.aff_make.specs.Make.{added_strings, added_text, make_answer}
use Rattle.aff_write.specs.Put.{put_answer}
use Rattle.aff_listing.specs.ListingOrder.{listed_count, listing_answer}
use Rattle.aff_listing.specs.declared.choice.Choice.{Choice}

-- 21: an output has a place for so many bytes or numbers.
abbrev pub fits : ℕ → ℕ → List Rule
fits size limit = rule (size ≤ limit) (refusal 21) ∷ []

-- ---- Reading.

-- An element of a view that is held: 16, the index is below the count.
abbrev pub decode_rules : Kind → List ℕ → ℕ → List Rule
decode_rules kind bytes index = rule (index < count_in kind bytes) (refusal 16) ∷ []

module _ (image : List ℕ) (r : Reader) (strings entries : List ℕ) where
  -- A definition, of this record and this memory.
  abbrev here {ℓ} : {A : Type ℓ} → (List ℕ → Reader → List ℕ → List ℕ → A) → A
  here f = f image r strings entries

  -- Name, type, count and view: 24, the record belongs to the memory passed; 15, the node exists. Path: then 21.
  abbrev pub exists_rules : ℕ → List Rule → List Rule
  exists_rules node more = rule (here ReaderBelongs) (refusal 24) ∷ rule (node ≤ r.nodes) (refusal 15) ∷ more

  -- Element: 24, 15; 16, the index is below the count.
  abbrev pub element_rules : ℕ → ℕ → List Rule
  element_rules node index = exists_rules node (rule (index < count_at image entries node) (refusal 16) ∷ [])

  -- Lookup: 24; 14, the path is well-formed (reported with the place at which it breaks); 15, some node has it.
  abbrev pub lookup_rules : List ℕ → List Rule
  lookup_rules path =
      rule (here ReaderBelongs) (refusal 24)
      ∷ rule (WellFormed (edition_by r.edition) path) (refusal_at 14 (break_place (path_grammar (edition_by r.edition) path)))
      ∷ rule ((node : ℕ) × (node ≤ r.nodes) × (here path_at node ≡ path)) (refusal 15)
      ∷ []

  -- Listing order: 24; 21, the output has a place for each node listed.
  abbrev pub listing_rules : Choice → ℕ → List Rule
  listing_rules choice size = rule (here ReaderBelongs) (refusal 24) ∷ fits (here listed_count choice) size

  -- An element of a node, and the length of its path.
  abbrev element_of : ℕ → ℕ → Element
  element_of node index = element_at (kind_at image entries node) (bytes_at image entries node) index

  abbrev path_size : ℕ → ℕ
  path_size node = length (here path_at node)

  -- Each reading call with this record over these: its rules, its value, its answer.
  pub record ReadingByRules : Type 0 where
    pub name : (node : ℕ) → By (exists_rules node []) (Is (here name_span node)) (here name_answer node)
    pub kind : (node : ℕ) → By (exists_rules node []) (Is (kind_at image entries node)) (here kind_answer node)
    pub count : (node : ℕ) → By (exists_rules node []) (Is (count_at image entries node)) (here count_answer node)
    pub view : (node : ℕ) → By (exists_rules node []) (Is (data_span image entries node)) (here view_answer node)
    pub element : (node index : ℕ) → By (element_rules node index) (Is (element_of node index)) (here element_answer node index)
    pub path : (node size : ℕ) → By (exists_rules node (fits (path_size node) size)) (Is (path_size node)) (here path_answer node size)
    pub lookup : (path : List ℕ) → By (lookup_rules path) (here LowestWith path) (here lookup_answer path)
    pub listing : (choice : Choice) (size : ℕ) → By (listing_rules choice size) (Is (here listed_count choice)) (here listing_answer choice size)

-- ---- Writing.

-- Begin: 1, form and areas have their lengths, and the buffer is not too long; 3, the number names an edition that is written (request C-15); 21, the buffer
-- has at least the bytes of that edition's header; 23, the allowance takes the one store.
abbrev pub begin_rules : ℕ → List ℕ → List ℕ → List ℕ → List ℕ → ℕ → List Rule
begin_rules edition buffer form text tree allowance =
    rule ((length form ≡ 12) × (length text ≡ text_area) × (length tree ≡ tree_area) × (length buffer ≤ image_limit)) (refusal 1)
    ∷ rule (NamesWritten edition) (refusal 3)
    ∷ rule (header_size (edition_by edition) ≤ length buffer) (refusal 21)
    ∷ rule (1 ≤ allowance) (refusal_at 23 allowance)
    ∷ []

-- 19: the type is 2 to 5, and so many bytes are a multiple of its element.
abbrev pub DataFits : ℕ → ℕ → Type 0
DataFits type size = (kind : Kind) × (kind_code kind ≡ type) × (2 ≤ type) × (size % element_size kind ≡ 0)

module _ (buffer : List ℕ) (w : Writer) (text tree : List ℕ) where
  -- Make, put and close: 24, the record belongs to the memory passed; 22, the writer is neither closed nor stopped; then more.
  abbrev pub writer_rules : List Rule → List Rule
  writer_rules more = rule (WriterBelongs (length buffer) w text tree) (refusal 24) ∷ rule (w.live ≡ true) (refusal 22) ∷ more

  -- 17: no child of the parent has the name.
  abbrev pub NoSuchChild : ℕ → List ℕ → Type 0
  NoSuchChild parent name = (k : ℕ) → 0 < k → k ≤ w.nodes → (slot_entry tree k).parent ≡ parent → name_of w text tree k ≡ name → ⊥

  -- 20: it is no 2,049th node, its name no 2,049th string, and the text does not pass its area; a name that is a string already adds none.
  abbrev pub Few : List ℕ → Type 0
  Few name = (w.nodes + 1 ≤ node_limit) × (w.strings + added_strings w text name ≤ string_limit) × (w.text + added_text w text name ≤ text_area)

  -- Make: 24, 22; 15, the parent exists; 14, the name is a subkey of the recorded edition (reported with the place at which it breaks); 17; 20; 21, the finished size, with a Void
  -- entry and the text added, fits the buffer.
  abbrev pub make_rules : ℕ → List ℕ → List Rule
  make_rules parent name =
      writer_rules
      (rule (parent ≤ w.nodes) (refusal 15)
      ∷ rule (is_subkey (writer_edition w) name ≡ true) (refusal_at 14 (break_place (subkey_from (writer_edition w) 0 name)))
      ∷ rule (NoSuchChild parent name) (refusal 17)
      ∷ rule (Few name) (refusal 20)
      ∷ rule (finished_size w tree + entry_size Void + added_text w text name ≤ length buffer) (refusal 21)
      ∷ [])

  -- Put: 24, 22; 15, the node exists; 18, it is not the root and has no data; 19; 21, the finished size, with the padding up to the next multiple of 8, the bytes
  -- and the entry's 12 more, fits the buffer; 23, the allowance takes the stores needed, one for each byte of padding and of data (request C-22).
  abbrev pub put_rules : ℕ → ℕ → List ℕ → ℕ → List Rule
  put_rules node type bytes allowance =
      writer_rules
      (rule (node ≤ w.nodes) (refusal 15)
      ∷ rule ((node ≡ 0 → ⊥) × ((slot_entry tree node).kind ≡ Void)) (refusal 18)
      ∷ rule (DataFits type (length bytes)) (refusal 19)
      ∷ rule (finished_size w tree + 12 + padding w.end + length bytes ≤ length buffer) (refusal 21)
      ∷ rule (padding w.end + length bytes ≤ allowance) (refusal_at 23 allowance)
      ∷ [])

  -- Close: 24, 22; 23, the allowance takes the stores needed.
  abbrev pub close_rules : ℕ → List Rule
  close_rules allowance = writer_rules (rule (length (close_stores buffer w text tree) ≤ allowance) (refusal_at 23 allowance) ∷ [])

  -- Each writing call with this record over these: its rules, its value (the new node's number, or the stores made), its answer.
  pub record WritingByRules : Type 0 where
    pub make : (parent : ℕ) (name : List ℕ) → By (make_rules parent name) (Is (w.nodes + 1)) (make_answer (length buffer) w text tree parent name)
    pub put : (node type : ℕ) (bytes : List ℕ) (allowance : ℕ)
        → By (put_rules node type bytes allowance) (Is (padding w.end + length bytes)) (put_answer (length buffer) w text tree node type bytes allowance)
    pub close : (allowance : ℕ) → By (close_rules allowance) (Is (length (close_stores buffer w text tree))) (close_answer buffer w text tree allowance)
