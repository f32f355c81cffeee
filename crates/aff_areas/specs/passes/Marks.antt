-- Marks: which strings of the text area are a name, and which nodes are children with such a string.
use Rattle.std.specs.Prelude.{Bool, cond, ◌&&◌, List, [], ◌∷◌, map, ℕ, ◌+◌, eqb, get_or}
use Rattle.aff_format.specs.Bytes.{same_bytes}
use Rattle.aff_areas.specs.Areas.{slot_entry}

-- For each of some strings 1 where it is the name, else 0.
abbrev pub mark_of : List ℕ → List ℕ → ℕ
mark_of name string = cond (same_bytes string name) 1 0

abbrev pub marks_of : List ℕ → List (List ℕ) → List ℕ
marks_of name strings = map (mark_of name) strings

-- The lowest place of a 1; how many marks there are where none is.
unfoldable pub first_mark : List ℕ → ℕ
first_mark [] = 0
first_mark (m ∷ ms) = cond (eqb m 1) 0 (first_mark ms + 1)

-- Node k is a child of the parent, and its string is marked.
abbrev pub is_marked : List ℕ → List ℕ → ℕ → ℕ → Bool
is_marked marks tree parent k = eqb (slot_entry tree k).parent parent && eqb (get_or marks (slot_entry tree k).string 0) 1
