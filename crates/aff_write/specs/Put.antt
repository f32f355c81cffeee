-- Put data: document 01, 'Writing keys', and 'Order': 24, 22, 15, 18, 19, 21, 23.
use Rattle.std.specs.Prelude.{Bool, true, not, ◌||◌, List, [], ◌∷◌, ◌++◌, ℕ, ◌+◌, ◌%◌, eqb, ltb, length, replicate, Option, Some, None}
use Rattle.aff_format.specs.Align.{padding, aligned}
use Rattle.aff_format.specs.Answer.{Answer, Check, check, refusal, refusal_at, first_wrong}
use Rattle.aff_format.specs.Bytes.{spliced}
use Rattle.aff_format.specs.Element.{count_in}
use Rattle.aff_format.specs.Entry.{slot_bytes}
use Rattle.aff_format.specs.Kind.{kind_of, element_size, is_void}
use Rattle.aff_format.specs.declared.entry.Entry.{Entry}
use Rattle.aff_format.specs.declared.kind.Kind.{Kind}
use Rattle.aff_format.specs.declared.kind.Kind.TheVariants.{Void}
use Rattle.aff_areas.specs.Areas.{slot_at, slot_entry, finished_size}
use Rattle.aff_areas.specs.Belongs.{writer_checks}
use Rattle.aff_areas.specs.Stores.{Store, stores_from}
use Rattle.aff_areas.specs.declared.writer.Writer.{Writer}

-- 18: the root, or a node that has data.
unfoldable pub takes_none : List ℕ → ℕ → Bool
takes_none tree node = eqb node 0 || not (is_void (slot_entry tree node).kind)

-- 19: a type that holds no data, or so many bytes are no multiple of its element.
abbrev pub wrong_data : Option Kind → ℕ → Bool
wrong_data None n = true
wrong_data (Some k) n = is_void k || not (eqb (n % element_size k) 0)

-- The kind of a type that holds data.
abbrev pub data_kind : Option Kind → Kind
data_kind None = Void
data_kind (Some k) = k

-- Where the next data begin: at the next multiple of 8, which is the end of data itself where that is one (request C-22).
abbrev pub put_place : Writer → ℕ
put_place writer = aligned writer.end

-- Zeros from the end of data up to there, then the bytes. A put of no bytes has the zeros too.
abbrev pub put_stores : Writer → List ℕ → List Store
put_stores writer bytes = stores_from writer.end (replicate (padding writer.end) 0 ++ bytes)

-- 23.
abbrev pub store_check : Writer → List ℕ → ℕ → List Check
store_check writer bytes allowance = check (ltb allowance (length (put_stores writer bytes))) (refusal_at 23 allowance) ∷ []

-- The record that an accepted put leaves.
abbrev pub put_writer : Writer → List ℕ → Writer
put_writer writer bytes =
    record {
      length = writer.length;
      edition = writer.edition;
      form = writer.form;
      strings = writer.strings;
      text = writer.text;
      nodes = writer.nodes;
      end = put_place writer + length bytes;
      live = writer.live;
    }

module _ (writer : Writer) (tree : List ℕ) where
  -- 21: the entry grows from 13 bytes to 25; the padding counts.
  abbrev pub buffer_short : List ℕ → Bool
  buffer_short bytes = ltb writer.length (finished_size writer tree + 12 + padding writer.end + length bytes)

  -- 21, 23.
  abbrev pub buffer_checks : List ℕ → ℕ → List Check
  buffer_checks bytes allowance = check (buffer_short bytes) (refusal 21) ∷ store_check writer bytes allowance

  -- 15, 18, 19, 21: all that is checked of the node and its data before the first store.
  abbrev pub entry_checks : ℕ → ℕ → List ℕ → List Check
  entry_checks node type bytes =
      check (ltb writer.nodes node) (refusal 15)
      ∷ check (takes_none tree node) (refusal 18)
      ∷ check (wrong_data (kind_of type) (length bytes)) (refusal 19)
      ∷ check (buffer_short bytes) (refusal 21)
      ∷ []

  -- 15, 18, 19, 21, 23.
  abbrev pub data_checks : ℕ → ℕ → List ℕ → ℕ → List Check
  data_checks node type bytes allowance =
      check (ltb writer.nodes node) (refusal 15)
      ∷ check (takes_none tree node) (refusal 18)
      ∷ check (wrong_data (kind_of type) (length bytes)) (refusal 19)
      ∷ buffer_checks bytes allowance

  -- The tree area that it leaves: the node has kind, count and data offset.
  abbrev pub put_entry : ℕ → Kind → List ℕ → Entry
  put_entry node kind bytes =
      record {
        kind = kind;
        parent = (slot_entry tree node).parent;
        string = (slot_entry tree node).string;
        count = count_in kind bytes;
        offset = put_place writer;
      }

  unfoldable pub put_tree : ℕ → ℕ → List ℕ → List ℕ
  put_tree node type bytes = spliced (slot_at node) (slot_bytes (put_entry node (data_kind (kind_of type)) bytes)) tree

-- The answer reports the stores made.
unfoldable pub put_answer : ℕ → Writer → List ℕ → List ℕ → ℕ → ℕ → List ℕ → ℕ → Answer ℕ
put_answer size writer text tree node type bytes allowance =
    first_wrong (writer_checks size writer text tree ++ data_checks writer tree node type bytes allowance) (length (put_stores writer bytes))
