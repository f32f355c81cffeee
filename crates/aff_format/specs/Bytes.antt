-- Parts of a run of bytes.
use Rattle.std.specs.Prelude.{◌≡◌, Bool, true, false, ◌&&◌, List, [], ◌∷◌, ◌++◌, ℕ, ◌+◌, ◌<◌, eqb, length, get_or, take, drop}

-- The n bytes of l from place at on.
abbrev pub part : ℕ → ℕ → List ℕ → List ℕ
part at n l = take n (drop at l)

-- The list l with x written over it from place at on.
unfoldable pub spliced : ℕ → List ℕ → List ℕ → List ℕ
spliced at x l = take at l ++ (x ++ drop (at + length x) l)

-- Some runs, one after another.
abbrev pub joined : List (List ℕ) → List ℕ
joined [] = []
joined (l ∷ ls) = l ++ joined ls

-- Whether two runs are the same bytes.
unfoldable pub same_bytes : List ℕ → List ℕ → Bool
same_bytes [] [] = true
same_bytes [] (y ∷ ys) = false
same_bytes (x ∷ xs) [] = false
same_bytes (x ∷ xs) (y ∷ ys) = eqb x y && same_bytes xs ys

-- No byte of l is x.
abbrev pub Without : ℕ → List ℕ → Type 0
Without x [] = Unit {0}
Without x (y ∷ l) = (eqb y x ≡ false) × Without x l

-- No byte of any of some runs is x.
abbrev pub EachWithout : ℕ → List (List ℕ) → Type 0
EachWithout x [] = Unit {0}
EachWithout x (l ∷ ls) = Without x l × EachWithout x ls

-- Each number of l is a byte.
abbrev pub Octets : List ℕ → Type 0
Octets l = (i : ℕ) → get_or l i 0 < 256

-- An area with places laid over it from its start; the rest stays.
unfoldable pub laid_over : List ℕ → List ℕ → List ℕ
laid_over [] places = []
laid_over (x ∷ area) [] = x ∷ area
laid_over (x ∷ area) (p ∷ places) = p ∷ laid_over area places
