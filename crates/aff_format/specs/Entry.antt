-- Tree entries: document 01, 'Layout of a file', and source document 003, tables 6 and 7.
use Rattle.std.specs.Prelude.{Bool, true, false, cond, not, ◌&&◌, ◌||◌, List, [], ◌∷◌, ◌++◌, ◌≡◌, ℕ, ◌-◌, ◌^◌, ◌<◌, ◌+◌, ◌*◌, leb, ltb, length, get_or, replicate, Option, Some, None}
use Rattle.aff_format.specs.Bytes.{part}
use Rattle.aff_format.specs.Number.{be_of, be_bytes}
use Rattle.aff_format.specs.Kind.{kind_code, kind_of, entry_size, is_void, element_size}
use Rattle.aff_format.specs.declared.kind.Kind.{Kind}
use Rattle.aff_format.specs.declared.entry.Entry.{Entry}
use Rattle.aff_format.specs.declared.kind.Kind.TheVariants.{Void}

-- The fields of the entry with which a run of bytes begins.
abbrev pub type_field : List ℕ → ℕ
type_field l = get_or l 0 0

abbrev pub parent_field : List ℕ → ℕ
parent_field l = be_of (part 1 8 l)

abbrev pub string_field : List ℕ → ℕ
string_field l = be_of (part 9 4 l)

abbrev pub count_field : List ℕ → ℕ
count_field l = be_of (part 13 4 l)

abbrev pub offset_field : List ℕ → ℕ
offset_field l = be_of (part 17 8 l)

-- The entry of a kind: a Void one has neither count nor data offset, reported as 0.
unfoldable pub fields_of : Kind → List ℕ → Entry
fields_of k l =
    record {
      kind = k;
      parent = parent_field l;
      string = string_field l;
      count = cond (is_void k) 0 (count_field l);
      offset = cond (is_void k) 0 (offset_field l);
    }

abbrev pub entry_of_kind : Option Kind → List ℕ → Option Entry
entry_of_kind None l = None
entry_of_kind (Some k) l = cond (leb (entry_size k) (length l)) (Some (fields_of k l)) None

-- The entry with which a run of bytes begins; none where its type does not exist or it is cut short.
unfoldable pub entry_of : List ℕ → Option Entry
entry_of l = entry_of_kind (kind_of (type_field l)) l

-- Count and data offset, of a node that is not Void.
abbrev pub data_fields : Entry → List ℕ
data_fields e = be_bytes 4 e.count ++ be_bytes 8 e.offset

abbrev pub void_or : Bool → List ℕ → List ℕ
void_or true l = []
void_or false l = l

-- The bytes of an entry in a file: 13 or 25.
unfoldable pub entry_bytes : Entry → List ℕ
entry_bytes e = kind_code e.kind ∷ (be_bytes 8 e.parent ++ (be_bytes 4 e.string ++ void_or (is_void e.kind) (data_fields e)))

-- Its 25 bytes in the writer's tree area: the last 12 are zero while Void.
unfoldable pub slot_bytes : Entry → List ℕ
slot_bytes e = entry_bytes e ++ replicate (25 - entry_size e.kind) 0

-- An entry that its fields can hold.
pub record Storable (e : Entry) : Type 0 where
  pub parent_fits : e.parent < 256 ^ 8
  pub string_fits : e.string < 256 ^ 4
  pub count_fits : e.count < 256 ^ 4
  pub offset_fits : e.offset < 256 ^ 8
  pub void_count : is_void e.kind ≡ true → e.count ≡ 0
  pub void_offset : is_void e.kind ≡ true → e.offset ≡ 0

-- The root's entry, which no file has: it is its own parent, and Void.
abbrev pub no_entry : Entry
no_entry = record { kind = Void; parent = 0; string = 0; count = 0; offset = 0 }

-- An entry's parent number, or its string number, does not exist.
abbrev pub no_parent : ℕ → Entry → Bool
no_parent nodes e = ltb nodes e.parent

abbrev pub no_string : ℕ → Entry → Bool
no_string strings e = leb strings e.string

-- An entry's data are not inside the `size` bytes from `from` on. A Void node has none.
unfoldable pub outside : ℕ → ℕ → Entry → Bool
outside from size e =
    not (is_void e.kind) && (ltb e.offset from || ltb (from + size) (e.offset + e.count * element_size e.kind))

abbrev pub or_none : Option Entry → Entry
or_none (Some e) = e
or_none None = no_entry
