-- Symbol table and tree table, of the bytes of their sections: document 01, 'Layout of a file', and 'Numbers handed back', 25 to 27
-- (requests C-11 and C-13) and 9.
use Rattle.std.specs.Prelude.{Bool, true, false, not, ◌&&◌, List, [], ◌∷◌, ◌++◌, map, ℕ, zero, suc, ◌+◌, ltb, eqb, length, get_or, take, drop, Option, Some, None}
use Rattle.aff_format.specs.Answer.{Check, check, refusal, refusal_at}
use Rattle.aff_format.specs.Edition.{has_counts}
use Rattle.aff_format.specs.Entry.{entry_of, entry_bytes, no_entry}
use Rattle.aff_format.specs.Kind.{entry_size}
use Rattle.aff_format.specs.Limits.{node_limit, string_limit}
use Rattle.aff_format.specs.Lowest.{lowest_from, check_lowest}
use Rattle.aff_format.specs.Recorded.{name_from}
use Rattle.aff_format.specs.Strings.{strings_of, is_in}
use Rattle.aff_format.specs.declared.edition.Edition.{Edition}
use Rattle.aff_format.specs.declared.entry.Entry.{Entry}

-- The strings that begin at some places.
abbrev pub names_at : List ℕ → ℕ → List ℕ → List (List ℕ)
names_at image end places = map (name_from image end) places

-- String k of some equals an earlier one.
unfoldable pub repeats : List (List ℕ) → ℕ → Bool
repeats strings k = is_in (get_or strings k []) (take k strings)

abbrev pub and_then : Option Entry → (Entry → List Entry) → List Entry
and_then None more = []
and_then (Some e) more = e ∷ more e

-- The whole entries with which a run of bytes begins, one after the other, at most `limit`.
unfoldable pub entries_in : ℕ → List ℕ → List Entry
entries_in zero l = []
entries_in (suc limit) l = and_then (entry_of l) (λ e. entries_in limit (drop (entry_size e.kind) l))

abbrev pub or_after : Option Entry → List ℕ → (Entry → List ℕ) → List ℕ
or_after None l more = l
or_after (Some e) l more = more e

-- The bytes after them.
unfoldable pub bytes_after_entries : ℕ → List ℕ → List ℕ
bytes_after_entries zero l = l
bytes_after_entries (suc limit) l = or_after (entry_of l) l (λ e. bytes_after_entries limit (drop (entry_size e.kind) l))

-- Where each entry begins, the first at place at.
unfoldable pub entry_places : ℕ → List Entry → List ℕ
entry_places at [] = []
entry_places at (e ∷ es) = at ∷ entry_places (at + entry_size e.kind) es

-- The bytes of entries, one after the other.
unfoldable pub tree_bytes : List Entry → List ℕ
tree_bytes [] = []
tree_bytes (e ∷ es) = entry_bytes e ++ tree_bytes es

-- The entry of node k, where the nodes from 1 on have some entries.
abbrev pub node_entry : List Entry → ℕ → Entry
node_entry entries k = get_or (no_entry ∷ entries) k no_entry

-- ---- The checks.

-- 26 and 9: a section's record count, where the edition has one, is not n.
unfoldable pub count_differs : Edition → ℕ → ℕ → Bool
count_differs e records n = has_counts e && not (eqb records n)

-- Of the bytes of a symbol section: 25, more than 2,048 strings, with the first beyond; 26, another count; 27, a string that equals an earlier one, with
-- the lowest such string. Strings are numbered from 0. The last one need not have its zero (`strings_of`).
abbrev pub symbol_checks : Edition → ℕ → List ℕ → List Check
symbol_checks e records section =
    check (ltb string_limit (length (strings_of section))) (refusal_at 25 string_limit)
    ∷ check (count_differs e records (length (strings_of section))) (refusal 26)
    ∷ check_lowest (refusal_at 27) (lowest_from (repeats (strings_of section)) (length (strings_of section)) 0)
    ∷ []

abbrev pub is_empty : List ℕ → Bool
is_empty [] = true
is_empty (x ∷ l) = false

-- The entries of the bytes of a tree section, and the bytes after them.
abbrev pub entries_of : List ℕ → List Entry
entries_of section = entries_in node_limit section

abbrev pub after_entries : List ℕ → List ℕ
after_entries section = bytes_after_entries node_limit section

-- 9, of the bytes of a tree section: after the last whole entry comes one that is cut short, of no type, or number 2,049; then the count.
abbrev pub tree_checks : Edition → ℕ → List ℕ → List Check
tree_checks e records section =
    check (not (is_empty (after_entries section))) (refusal_at 9 (length (entries_of section) + 1))
    ∷ check (count_differs e records (length (entries_of section))) (refusal 9)
    ∷ []
