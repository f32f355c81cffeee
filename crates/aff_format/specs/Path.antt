-- The grammar of a path: document 01, 'Reading keys': `/` alone, or one or more times `/` and a subkey.
use Rattle.std.specs.Prelude.{◌≡◌, Bool, true, cond, List, [], ◌∷◌, ◌++◌, ℕ, ◌+◌, eqb, length, Option, Some, None}
use Rattle.aff_format.specs.Subkey.{subkey_from, is_subkey, is_sound}
use Rattle.aff_format.specs.declared.edition.Edition.{Edition}

-- x put in front of the first of some parts.
abbrev pub ahead : ℕ → List (List ℕ) → List (List ℕ)
ahead x [] = (x ∷ []) ∷ []
ahead x (p ∷ ps) = (x ∷ p) ∷ ps

-- The parts between slashes: n slashes part n + 1.
unfoldable pub between_slashes : List ℕ → List (List ℕ)
between_slashes [] = [] ∷ []
between_slashes (x ∷ l) = cond (eqb x 47) ([] ∷ between_slashes l) (ahead x (between_slashes l))

-- The first fault of two.
abbrev pub or_else : Option ℕ → Option ℕ → Option ℕ
or_else None next = next
or_else (Some place) next = Some place

-- Parts, the first at place at, a slash between two: the first fault of one that is no subkey.
unfoldable pub parts_from : Edition → ℕ → List (List ℕ) → Option ℕ
parts_from e at [] = None
parts_from e at (p ∷ ps) = or_else (subkey_from e at p) (parts_from e (at + length p + 1) ps)

-- What follows the first slash: nothing, or parts that are subkeys.
abbrev pub after_slash : Edition → List ℕ → Option ℕ
after_slash e [] = None
after_slash e (x ∷ l) = parts_from e 1 (between_slashes (x ∷ l))

-- The place of the first byte of a path that breaks the grammar, or at which an empty subkey would begin; 0 where the first slash lacks.
unfoldable pub path_grammar : Edition → List ℕ → Option ℕ
path_grammar e [] = Some 0
path_grammar e (x ∷ l) = cond (eqb x 47) (after_slash e l) (Some 0)

abbrev pub is_path : Edition → List ℕ → Bool
is_path e l = is_sound (path_grammar e l)

-- The path that subkeys make.
unfoldable pub joined_path : List (List ℕ) → List ℕ
joined_path [] = []
joined_path (k ∷ ks) = 47 ∷ (k ++ joined_path ks)

-- Each of some runs of bytes is a subkey.
abbrev pub Subkeys : Edition → List (List ℕ) → Type 0
Subkeys e [] = Unit {0}
Subkeys e (k ∷ ks) = (is_subkey e k ≡ true) × Subkeys e ks

-- Document 01: `/` alone, or one or more times `/` and a subkey.
pub data WellFormed (e : Edition) (l : List ℕ) : Type 0 where
  root : l ≡ 47 ∷ [] → WellFormed e l
  subkeys : (k : List ℕ) (ks : List (List ℕ)) → Subkeys e (k ∷ ks) → l ≡ joined_path (k ∷ ks) → WellFormed e l
