-- Make a child: document 01, 'Writing keys', and 'Order': 24, 22, 15, 14, 17, 20, 21.
use Rattle.std.specs.Prelude.{Bool, cond, ◌&&◌, ◌||◌, List, [], ◌∷◌, ◌++◌, ℕ, ◌+◌, eqb, ltb, length}
use Rattle.aff_format.specs.Answer.{Answer, Check, check, refusal, first_wrong}
use Rattle.aff_format.specs.Bytes.{same_bytes, spliced}
use Rattle.aff_format.specs.Entry.{slot_bytes}
use Rattle.aff_format.specs.Kind.{entry_size}
use Rattle.aff_format.specs.Limits.{string_limit, node_limit, text_area}
use Rattle.aff_format.specs.Lowest.{lowest_from, is_at}
use Rattle.aff_format.specs.Strings.{is_in, index_in}
use Rattle.aff_format.specs.Subkey.{subkey_from, check_grammar}
use Rattle.aff_format.specs.declared.entry.Entry.{Entry}
use Rattle.aff_format.specs.declared.kind.Kind.TheVariants.{Void}
use Rattle.aff_areas.specs.Areas.{names_in, slot_at, slot_entry, name_of, finished_size}
use Rattle.aff_areas.specs.Belongs.{writer_checks}
use Rattle.aff_areas.specs.Writer.{writer_edition}
use Rattle.aff_areas.specs.declared.writer.Writer.{Writer}

module _ (writer : Writer) (text : List ℕ) where
  -- The number of a name: of the lowest string that it is, or of the next string.
  abbrev pub string_number : List ℕ → ℕ
  string_number name = index_in name (names_in writer text)

  -- A string is used again by name: a name that is one adds none, another one string with its zero.
  abbrev pub added_strings : List ℕ → ℕ
  added_strings name = cond (is_in name (names_in writer text)) 0 1

  abbrev pub added_text : List ℕ → ℕ
  added_text name = cond (is_in name (names_in writer text)) 0 (length name + 1)

  -- 20: a 2,049th node or string, or text past its area.
  unfoldable pub too_many : List ℕ → Bool
  too_many name =
      ltb node_limit (writer.nodes + 1)
      || (ltb string_limit (writer.strings + added_strings name) || ltb text_area (writer.text + added_text name))

  -- What an accepted make leaves: the record, and the text area.
  abbrev pub made_writer : List ℕ → Writer
  made_writer name =
      record {
        length = writer.length;
        edition = writer.edition;
        form = writer.form;
        strings = writer.strings + added_strings name;
        text = writer.text + added_text name;
        nodes = writer.nodes + 1;
        end = writer.end;
        live = writer.live;
      }

  unfoldable pub made_text : List ℕ → List ℕ
  made_text name = cond (is_in name (names_in writer text)) text (spliced writer.text (name ++ (0 ∷ [])) text)

  -- The new node's entry: Void, with the lowest string that is its name.
  abbrev pub made_entry : ℕ → List ℕ → Entry
  made_entry parent name = record { kind = Void; parent = parent; string = string_number name; count = 0; offset = 0 }

module _ (writer : Writer) (text tree : List ℕ) where
  -- 17: the parent has a child of that name.
  abbrev pub is_child : ℕ → List ℕ → ℕ → Bool
  is_child parent name k = eqb (slot_entry tree k).parent parent && same_bytes (name_of writer text tree k) name

  unfoldable pub child_exists : ℕ → List ℕ → Bool
  child_exists parent name = is_at (lowest_from (is_child parent name) writer.nodes 1)

  -- 20, 21: the child has a Void entry, and its name may be new.
  abbrev pub size_checks : List ℕ → List Check
  size_checks name =
      check (too_many writer text name) (refusal 20)
      ∷ check (ltb writer.length (finished_size writer tree + entry_size Void + added_text writer text name)) (refusal 21)
      ∷ []

  -- 17, 20, 21.
  abbrev pub named_checks : ℕ → List ℕ → List Check
  named_checks parent name = check (child_exists parent name) (refusal 17) ∷ size_checks name

  -- 15; 14 by the rule of the edition, with the place in the name at which it breaks; 17, 20, 21.
  abbrev pub child_checks : ℕ → List ℕ → List Check
  child_checks parent name =
      check (ltb writer.nodes parent) (refusal 15)
      ∷ check_grammar (subkey_from (writer_edition writer) 0 name)
      ∷ named_checks parent name

  -- The tree area that an accepted make leaves.
  unfoldable pub made_tree : ℕ → List ℕ → List ℕ
  made_tree parent name = spliced (slot_at (writer.nodes + 1)) (slot_bytes (made_entry writer text parent name)) tree

-- The answer reports the new node's number.
unfoldable pub make_answer : ℕ → Writer → List ℕ → List ℕ → ℕ → List ℕ → Answer ℕ
make_answer size writer text tree parent name =
    first_wrong (writer_checks size writer text tree ++ child_checks writer text tree parent name) (writer.nodes + 1)
