-- What the passes over the tables report, and what they keep on the way.
use Rattle.std.specs.Prelude.{◌≡◌, Bool, false, cond, not, ◌||◌, List, [], ◌∷◌, ℕ, ◌+◌, ◌≤◌, ◌<◌, ltb, leb, length, get_or, Option, Some, None, Result, Ok, Err}
use Rattle.aff_format.specs.Answer.{Check, refusal_at}
use Rattle.aff_format.specs.declared.edition.Edition.{Edition}
use Rattle.aff_format.specs.declared.entry.Entry.{Entry}
use Rattle.aff_format.specs.Limits.{string_limit}
use Rattle.aff_format.specs.Lowest.{lowest_from, check_lowest}
use Rattle.aff_format.specs.Strings.{strings_of}
use Rattle.aff_format.specs.Subkey.{is_subkey}
use Rattle.aff_format.specs.Tree.{reaches_by}
use Rattle.aff_tables.specs.passes.Climb.{copied_parent}
use Rattle.aff_tables.specs.passes.Distinct.{sibling_taken}
use Rattle.aff_format.specs.Entry.{no_parent, no_string}
use Rattle.aff_tables.specs.Nodes.{data_outside}
use Rattle.aff_tables.specs.Tables.{is_empty, repeats, count_differs}
use Rattle.aff_format.specs.Recorded.{recorded_string}
use Rattle.aff_format.specs.declared.refusal.Refusal.{Refusal}
use Rattle.aff_format.specs.declared.refusal.Refusal.TheVariants.{BadTreeTable, TooManyStrings, WrongStringCount, RepeatedString}

-- An area of `limit` places for n strings.
abbrev pub split_of : ℕ → ℕ → Option ℕ
split_of limit n = cond (leb n limit) (Some n) None

-- n whole entries, and the bytes after them.
abbrev pub walk_of : ℕ → List ℕ → Result ℕ Refusal
walk_of n rest = cond (is_empty rest) (Ok n) (Err (BadTreeTable (n + 1)))

abbrev pub repeated_or : ℕ → Option ℕ → Result ℕ Refusal
repeated_or n None = Ok n
repeated_or n (Some k) = Err (RepeatedString k)

-- After the split of a symbol table into n strings: the count, then equal strings.
abbrev pub counted_of : Edition → ℕ → List (List ℕ) → ℕ → Result ℕ Refusal
counted_of e records strings n = cond (count_differs e records n) (Err WrongStringCount) (repeated_or n (lowest_from (repeats strings) n 0))

-- The first fault of the bytes of a symbol section, in the order of `symbol_checks`, or how many strings it has.
abbrev pub symbols_of : Edition → ℕ → List ℕ → Result ℕ Refusal
symbols_of e records section =
    cond (ltb string_limit (length (strings_of section))) (Err TooManyStrings)
    (counted_of e records (strings_of section) (length (strings_of section)))

-- The first n strings are judged.
abbrev pub Judged : Edition → List ℕ → ℕ → List ℕ → ℕ → List Bool → Type 0
Judged e image end places n sound = (i : ℕ) → i < n → get_or sound i false ≡ is_subkey e (recorded_string image end places i)

-- An entry whose parent or string number does not exist, or whose string was judged no subkey.
abbrev pub link_bad : ℕ → ℕ → List Bool → Entry → Bool
link_bad nodes strings sound e = no_parent nodes e || (no_string strings e || not (get_or sound e.string false))

-- Parents and string numbers of the nodes 1 to n, copied.
pub record Copied (entry : ℕ → Entry) (n : ℕ) (parents names : List ℕ) : Type 0 where
  pub parent : (k : ℕ) → 0 < k → k ≤ n → get_or parents k 0 ≡ (entry k).parent
  pub name : (k : ℕ) → 0 < k → k ≤ n → get_or names k 0 ≡ (entry k).string

-- 11 to 13 by copied parents and string numbers.
abbrev pub copied_checks : ℕ → ℕ → List ℕ → List ℕ → ℕ → (ℕ → Entry) → List Check
copied_checks from size parents names nodes entry =
    check_lowest (refusal_at 11) (lowest_from (λ k. not (reaches_by (copied_parent parents) nodes k)) nodes 1)
    ∷ check_lowest (refusal_at 12) (lowest_from (sibling_taken parents names) nodes 1)
    ∷ check_lowest (refusal_at 13) (lowest_from (data_outside from size entry) nodes 1)
    ∷ []

-- No two of n strings are equal.
abbrev pub AllDistinct : ℕ → (ℕ → List ℕ) → Type 0
AllDistinct n string = (i j : ℕ) → i < n → j < n → string i ≡ string j → i ≡ j
