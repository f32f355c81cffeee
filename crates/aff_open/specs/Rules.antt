-- The rules of a file that need a name, since `Obeys` and `Faults` both cite them: document 01, 'Layout of a file'. `Obeys` says that all hold, `Faults`
-- which refusal each brings where it fails.
use Rattle.std.specs.Prelude.{◌≡◌, true, false, List, [], ℕ, ◌+◌, ◌*◌, ◌≤◌, ◌<◌, length, get_or}
use Rattle.aff_md5.specs.Md5.{md5}
use Rattle.aff_format.specs.Breaks.{Breaks}
use Rattle.aff_format.specs.Edition.{has_counts}
use Rattle.aff_format.specs.Kind.{element_size, is_void}
use Rattle.aff_format.specs.Subkey.{is_subkey, IsSubkey}
use Rattle.aff_format.specs.Tree.{reaches_by}
use Rattle.aff_format.specs.declared.section.Section.{Section}
use Rattle.aff_format.specs.declared.section.Section.TheVariants.{Data}
use Rattle.aff_format.specs.declared.edition.Edition.{Edition}
use Rattle.aff_format.specs.declared.entry.Entry.{Entry}
use Rattle.aff_tables.specs.Tables.{node_entry}
use Rattle.aff_open.specs.Sections.{section_offset, section_size, section_records, section_sum, section_bytes}

-- 6 and 7: a section lies inside the image, and its sum is right.
abbrev pub Inside : Edition → Section → List ℕ → Type 0
Inside e s image = section_offset e s image + section_size e s image ≤ length image

abbrev pub Summed : Edition → Section → List ℕ → Type 0
Summed e s image = section_sum e s image ≡ md5 (section_bytes e s image)

-- 26 and 9: the record count of a section, where the edition has one, is n.
abbrev pub Counted : Edition → Section → List ℕ → ℕ → Type 0
Counted e s image n = has_counts e ≡ true → section_records e s image ≡ n

-- 27: string k differs from each string before it. No string occurs twice where that holds of all.
abbrev pub Unrepeated : List (List ℕ) → ℕ → Type 0
Unrepeated strings k = (i : ℕ) → i < k → get_or strings i [] ≡ get_or strings k [] → ⊥

abbrev pub Distinct : List (List ℕ) → Type 0
Distinct strings = (k : ℕ) → k < length strings → Unrepeated strings k

-- What 27 reports: string k equals an earlier one, and no lower string does.
pub record FirstRepeat (strings : List (List ℕ)) (k : ℕ) : Type 0 where
  pub exists : k < length strings
  pub earlier : (i : ℕ) × (i < k) × (get_or strings i [] ≡ get_or strings k [])
  pub lowest : (j : ℕ) → j < k → Unrepeated strings j

-- 10: node k's parent and string exist, and the string is a subkey.
abbrev pub Linked : Edition → List (List ℕ) → List Entry → ℕ → Type 0
Linked e strings entries k =
    ((node_entry entries k).parent ≤ length entries)
    × ((node_entry entries k).string < length strings)
    × (is_subkey e (get_or strings (node_entry entries k).string []) ≡ true)

-- The second number of 10, of node k (request C-18): the place at which its name breaks the rule for a subkey, wherever its string exists and is no
-- subkey, whether its parent exists or not; else 0.
pub data NameBreak (e : Edition) (strings : List (List ℕ)) (entries : List Entry) (k second : ℕ) : Type 0 where
  no_string_is : length strings ≤ (node_entry entries k).string → second ≡ 0 → NameBreak e strings entries k second
  sound_name : (node_entry entries k).string < length strings → IsSubkey e (get_or strings (node_entry entries k).string []) → second ≡ 0
      → NameBreak e strings entries k second
  breaks : (node_entry entries k).string < length strings → Breaks (IsSubkey e) (get_or strings (node_entry entries k).string []) second
      → NameBreak e strings entries k second

-- What 10 reports: node k breaks its rule, no lower node does, and the second number.
pub record FirstBadLink (e : Edition) (strings : List (List ℕ)) (entries : List Entry) (k second : ℕ) : Type 0 where
  pub no_root : 0 < k
  pub exists : k ≤ length entries
  pub bad : Linked e strings entries k → ⊥
  pub lowest : (j : ℕ) → 0 < j → j < k → Linked e strings entries j
  pub in_name_is : NameBreak e strings entries k second

-- 11: its climb reaches the root.
abbrev pub Climbs : List Entry → ℕ → Type 0
Climbs entries k = (steps : ℕ) × (reaches_by (λ j. (node_entry entries j).parent) steps k ≡ true)

-- 12: no lower-numbered sibling has its name.
abbrev pub NameFree : List (List ℕ) → List Entry → ℕ → Type 0
NameFree strings entries k =
    (j : ℕ) → 0 < j → j < k → (node_entry entries j).parent ≡ (node_entry entries k).parent
    → get_or strings (node_entry entries j).string [] ≡ get_or strings (node_entry entries k).string [] → ⊥

-- 13: its data lie inside the data section.
abbrev pub DataInside : Edition → List ℕ → List Entry → ℕ → Type 0
DataInside e image entries k =
    is_void (node_entry entries k).kind ≡ false
    → (section_offset e Data image ≤ (node_entry entries k).offset)
    × ((node_entry entries k).offset + (node_entry entries k).count * element_size (node_entry entries k).kind
    ≤ section_offset e Data image + section_size e Data image)

-- Something holds of each node.
abbrev pub EachNode : List Entry → (ℕ → Type 0) → Type 0
EachNode entries P = (k : ℕ) → 0 < k → k ≤ length entries → P k
