-- What the record and the two areas say of each node, whatever they hold: document 01, 'Reading keys'. Node 0 is the root.
use Rattle.std.specs.Prelude.{cond, List, [], ℕ, ◌+◌, ◌*◌, eqb, length, get_or}
use Rattle.aff_format.specs.Bytes.{part}
use Rattle.aff_format.specs.Kind.{element_size, is_void}
use Rattle.aff_format.specs.Tree.{path_by}
use Rattle.aff_format.specs.declared.kind.Kind.{Kind}
use Rattle.aff_reader.specs.Reader.{no_span}
use Rattle.aff_format.specs.Recorded.{recorded_entry, recorded_string}
use Rattle.aff_reader.specs.declared.reader.Span.{Span}
use Rattle.aff_reader.specs.declared.reader.Reader.{Reader}

-- Where the symbol section ends.
abbrev pub symbols_end : Reader → ℕ
symbols_end reader = reader.symbols.offset + reader.symbols.size

-- Kind, count, parent and data of node k by its entry; the root is Void.
abbrev pub kind_at : List ℕ → List ℕ → ℕ → Kind
kind_at image entries k = (recorded_entry image entries k).kind

abbrev pub count_at : List ℕ → List ℕ → ℕ → ℕ
count_at image entries k = (recorded_entry image entries k).count

abbrev pub parent_at : List ℕ → List ℕ → ℕ → ℕ
parent_at image entries k = (recorded_entry image entries k).parent

-- The name: the string of its number; the root's is empty.
unfoldable pub name_at : List ℕ → Reader → List ℕ → List ℕ → ℕ → List ℕ
name_at image reader strings entries k =
    cond (eqb k 0) [] (recorded_string image (symbols_end reader) strings (recorded_entry image entries k).string)

-- Where name and data are in the image; empty ones at 0.
unfoldable pub name_span : List ℕ → Reader → List ℕ → List ℕ → ℕ → Span
name_span image reader strings entries k =
    cond (eqb k 0) no_span
    (record { offset = get_or strings (recorded_entry image entries k).string 0; size = length (name_at image reader strings entries k) })

unfoldable pub data_span : List ℕ → List ℕ → ℕ → Span
data_span image entries k =
    cond (is_void (kind_at image entries k)) no_span
    (record { offset = (recorded_entry image entries k).offset; size = count_at image entries k * element_size (kind_at image entries k) })

-- The bytes of a span.
abbrev pub span_bytes : List ℕ → Span → List ℕ
span_bytes image span = part span.offset span.size image

abbrev pub bytes_at : List ℕ → List ℕ → ℕ → List ℕ
bytes_at image entries k = span_bytes image (data_span image entries k)

-- The path, root first, by parents and names.
abbrev pub path_at : List ℕ → Reader → List ℕ → List ℕ → ℕ → List ℕ
path_at image reader strings entries k = path_by (parent_at image entries) (name_at image reader strings entries) reader.nodes k
