-- Strings of a run of bytes: document 01, 'Layout of a file', the symbol table, with request C-13. The reader takes them from the symbol section, the
-- writer from the used part of its text area.
use Rattle.std.specs.Prelude.{Bool, false, cond, ◌||◌, List, [], ◌∷◌, ◌++◌, ℕ, ◌+◌, eqb, length}
use Rattle.aff_format.specs.Bytes.{same_bytes}
use Rattle.aff_format.specs.Path.{ahead}

-- The strings of a run: each ends at its zero; if the last byte is not zero, the bytes after the last zero are one more string. A final zero opens no
-- further string; a run of no bytes has none. (Examples by computation: proofs/Examples.antt.)
unfoldable pub strings_of : List ℕ → List (List ℕ)
strings_of [] = []
strings_of (x ∷ l) = cond (eqb x 0) ([] ∷ strings_of l) (ahead x (strings_of l))

-- The last byte, or d where there is none.
abbrev pub last_or : ℕ → List ℕ → ℕ
last_or d [] = d
last_or d (x ∷ l) = last_or x l

-- Whether each string has its zero: there is no byte, or the last is zero.
unfoldable pub ends_in_zero : List ℕ → Bool
ends_in_zero l = eqb (last_or 0 l) 0

-- A run with a zero put after it where its last byte is not zero.
unfoldable pub with_last_zero : List ℕ → List ℕ
with_last_zero l = l ++ cond (ends_in_zero l) [] (0 ∷ [])

-- Where each of some strings begins, a zero between two, the first at place at.
unfoldable pub places_of : ℕ → List (List ℕ) → List ℕ
places_of at [] = []
places_of at (s ∷ ss) = at ∷ places_of (at + length s + 1) ss

-- The run of some strings, each with its zero.
unfoldable pub text_of : List (List ℕ) → List ℕ
text_of [] = []
text_of (s ∷ ss) = s ++ (0 ∷ text_of ss)

-- The bytes up to the first zero, or all where there is none: the string that begins here.
unfoldable pub up_to_zero : List ℕ → List ℕ
up_to_zero [] = []
up_to_zero (x ∷ l) = cond (eqb x 0) [] (x ∷ up_to_zero l)

-- Whether one of some strings is x.
unfoldable pub is_in : List ℕ → List (List ℕ) → Bool
is_in x [] = false
is_in x (s ∷ ss) = same_bytes s x || is_in x ss

-- The lowest number of a string that is x, counted from 0; how many there are where none is.
unfoldable pub index_in : List ℕ → List (List ℕ) → ℕ
index_in x [] = 0
index_in x (s ∷ ss) = cond (same_bytes s x) 0 (index_in x ss + 1)
