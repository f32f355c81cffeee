-- How a name is written: as its bytes, or as the listers print it. Request C-15: 'Both listers print a name's byte below 33, above 126 or equal to 92 as `\x`
-- with two small hex digits.'
use Rattle.std.specs.Prelude.{◌≡◌, Bool, true, cond, not, ◌&&◌, List, [], ◌∷◌, ◌++◌, ◌⊎◌, ℕ, ◌+◌, ◌*◌, ◌/◌, ◌%◌, ◌≤◌, ◌<◌, eqb, ltb, leb, length, get_or}
use Rattle.aff_format.specs.Bytes.{Octets}
use Rattle.aff_format.specs.Subkey.{is_subkey}
use Rattle.aff_format.specs.Tree.{path_by}
use Rattle.aff_format.specs.declared.edition.Edition.TheVariants.{One, Two}
use Rattle.aff_spelling.specs.declared.spelling.Spelling.{Spelling}
use Rattle.aff_spelling.specs.declared.spelling.Spelling.TheVariants.{Raw, Escaped}

-- A hex digit as a character: 0-9, a-f.
unfoldable pub hex_digit : ℕ → ℕ
hex_digit n = cond (ltb n 10) (48 + n) (87 + n)

-- Whether a byte is printed as it is: 33 to 126, but not the backslash.
unfoldable pub is_plain : ℕ → Bool
is_plain x = leb 33 x && (leb x 126 && not (eqb x 92))

-- What is printed for a byte: itself, or `\x` and its two hex digits.
unfoldable pub shown_byte : ℕ → List ℕ
shown_byte x = cond (is_plain x) (x ∷ []) (92 ∷ 120 ∷ hex_digit (x / 16) ∷ hex_digit (x % 16) ∷ [])

-- What is printed for some bytes.
unfoldable pub shown : List ℕ → List ℕ
shown [] = []
shown (x ∷ l) = shown_byte x ++ shown l

-- Some bytes in a spelling.
abbrev pub spelled : Spelling → List ℕ → List ℕ
spelled Raw l = l
spelled Escaped l = shown l

-- Each byte of l is 33 to 126: no blank, no line feed, no control character.
abbrev pub Printable : List ℕ → Type 0
Printable l = (i : ℕ) → i < length l → (33 ≤ get_or l i 0) × (get_or l i 0 ≤ 126)

-- The small hex digits as characters: '0' to '9', 'a' to 'f'.
abbrev pub hex_digits : List ℕ
hex_digits = 48 ∷ 49 ∷ 50 ∷ 51 ∷ 52 ∷ 53 ∷ 54 ∷ 55 ∷ 56 ∷ 57 ∷ 97 ∷ 98 ∷ 99 ∷ 100 ∷ 101 ∷ 102 ∷ []

-- What is proved of `shown`: `escapes` in proofs/SpellingLaws.antt.
pub record Escapes : Type 0 where
  -- A byte from 33 to 126 other than 92 is printed as it is.
  pub as_is : (x : ℕ) → 33 ≤ x → x ≤ 126 → (x ≡ 92 → ⊥) → shown (x ∷ []) ≡ x ∷ []
  -- Any other byte as `\x` and two small hex digits.
  pub escaped : (x : ℕ) → x < 256 → (x < 33) ⊎ ((126 < x) ⊎ (x ≡ 92))
      → shown (x ∷ []) ≡ 92 ∷ 120 ∷ get_or hex_digits (x / 16) 0 ∷ get_or hex_digits (x % 16) 0 ∷ []
  -- A text is printed byte by byte.
  pub joined : (l m : List ℕ) → shown (l ++ m) ≡ shown l ++ shown m
  -- Of bytes, only bytes from 33 to 126 are printed.
  pub printable : (l : List ℕ) → Octets l → Printable (shown l)
  -- Two different names are printed differently.
  pub one_to_one : (l m : List ℕ) → Octets l → Octets m → shown l ≡ shown m → l ≡ m
  -- A subkey of edition 1 or 2 is printed as it is.
  pub narrow : (l : List ℕ) → (is_subkey One l ≡ true) ⊎ (is_subkey Two l ≡ true) → shown l ≡ l
  -- Four bytes at most are printed for a byte, and one at least.
  pub sizes : (l : List ℕ) → (length l ≤ length (shown l)) × (length (shown l) ≤ 4 * length l)
  -- The slash is printed as it is: a path as it is printed is the path of the names as they are printed.
  pub path : (parent : ℕ → ℕ) (name : ℕ → List ℕ) (steps n : ℕ) → shown (path_by parent name steps n) ≡ path_by parent (λ k. shown (name k)) steps n
