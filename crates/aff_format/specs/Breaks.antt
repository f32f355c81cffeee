-- Where a list of bytes breaks a rule, defined without an algorithm (request C-18). A rule is given as a language: which lists of bytes obey it.
use Rattle.std.specs.Prelude.{List, ◌++◌, ℕ, ◌+◌, ◌≤◌, ◌<◌, length, take}

-- A list is viable where some continuation of it is in the language.
abbrev pub Viable : (List ℕ → Type 0) → List ℕ → Type 0
Viable In l = (more : List ℕ) × In (l ++ more)

-- l breaks at place p: it is not in the language, its first p bytes are viable, and its first p + 1 bytes, where it has so many, are not. So p is the place of
-- the first byte after which no continuation is in the language; where all of l is viable, p is its length.
pub record Breaks (In : List ℕ → Type 0) (l : List ℕ) (p : ℕ) : Type 0 where
  pub not_in : In l → ⊥
  pub within : p ≤ length l
  pub before : Viable In (take p l)
  pub at : p < length l → Viable In (take (p + 1) l) → ⊥
