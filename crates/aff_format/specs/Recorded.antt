-- Strings and entries by the places that two areas hold, whatever they hold: opening fills the areas, and every reading call goes by them.
use Rattle.std.specs.Prelude.{List, ℕ, ◌-◌, cond, eqb, get_or, drop, Option}
use Rattle.aff_format.specs.Bytes.{part}
use Rattle.aff_format.specs.Strings.{up_to_zero}
use Rattle.aff_format.specs.Entry.{entry_of, no_entry, or_none}
use Rattle.aff_format.specs.declared.entry.Entry.{Entry}

-- The string that begins at place p of a symbol section that ends at `end`: up to its zero, or to the section's end.
unfoldable pub name_from : List ℕ → ℕ → ℕ → List ℕ
name_from image end p = up_to_zero (part p (end - p) image)

-- What the image has at the place recorded for node k's entry.
abbrev pub found_entry : List ℕ → List ℕ → ℕ → Option Entry
found_entry image entries k = entry_of (drop (get_or entries (k - 1) 0) image)

-- The entry of node k; the root has none of its own.
unfoldable pub recorded_entry : List ℕ → List ℕ → ℕ → Entry
recorded_entry image entries k = cond (eqb k 0) no_entry (or_none (found_entry image entries k))

-- String i, where the symbol section ends at `end`.
abbrev pub recorded_string : List ℕ → ℕ → List ℕ → ℕ → List ℕ
recorded_string image end strings i = name_from image end (get_or strings i 0)
