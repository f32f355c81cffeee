-- Document 01's worked file and the strings of short symbol tables, computed from the definitions.
use mathlib.Core.Path.{◌≡◌, refl}
use mathlib.Core.List.{List, [], ◌∷◌}
use Prim.Native.Nat.{ℕ}
use lib.ListN.{take, drop}
use Rattle.aff_format.specs.Answer.{refused, refusal}
use Rattle.aff_format.specs.Number.{be_of, be_bytes}
use Rattle.aff_format.specs.Element.{decoded, element_at}
use Rattle.aff_format.specs.Subkey.{subkey_from, rest_of_subkey, narrow_first, narrow_next}
use Rattle.aff_format.specs.Path.{path_grammar, parts_from, between_slashes}
use Rattle.aff_format.specs.Strings.{strings_of, ends_in_zero, with_last_zero, places_of}
use Rattle.aff_format.specs.Entry.{entry_of, fields_of, entry_bytes}
use Rattle.aff_format.specs.declared.edition.Edition.TheVariants.{Two}
use Rattle.aff_format.specs.declared.kind.Kind.TheVariants as kind
use Rattle.std.specs.Prelude.{Some, None}

-- The symbol table of the worked file, `a` and `n`, is at 172. (Its strings: `two`.)
places : places_of 172 (strings_of (97 ∷ 0 ∷ 110 ∷ 0 ∷ [])) ≡ 172 ∷ 174 ∷ []
unfolding strings_of places_of
places = refl

-- Bytes after the last zero are one more string; a final zero opens none; a run of no bytes has none. Of each pair below, the first lacks the zero of its
-- last string.
no_byte : strings_of [] ≡ []
unfolding strings_of
no_byte = refl

only_zero : strings_of (0 ∷ []) ≡ [] ∷ []
unfolding strings_of
only_zero = refl

one : (strings_of (97 ∷ []) ≡ (97 ∷ []) ∷ []) × (strings_of (97 ∷ 0 ∷ []) ≡ (97 ∷ []) ∷ [])
unfolding strings_of
one = (refl, refl)

two : (strings_of (97 ∷ 0 ∷ 110 ∷ []) ≡ (97 ∷ []) ∷ (110 ∷ []) ∷ []) × (strings_of (97 ∷ 0 ∷ 110 ∷ 0 ∷ []) ≡ (97 ∷ []) ∷ (110 ∷ []) ∷ [])
unfolding strings_of
two = (refl, refl)

then_empty : strings_of (97 ∷ 0 ∷ 0 ∷ []) ≡ (97 ∷ []) ∷ [] ∷ []
unfolding strings_of
then_empty = refl

empty_between : strings_of (97 ∷ 0 ∷ 0 ∷ 110 ∷ []) ≡ (97 ∷ []) ∷ [] ∷ (110 ∷ []) ∷ []
unfolding strings_of
empty_between = refl

-- `with_last_zero`: a run that gets a zero, and two that do not.
zero_put : with_last_zero (97 ∷ 0 ∷ 110 ∷ []) ≡ 97 ∷ 0 ∷ 110 ∷ 0 ∷ []
unfolding with_last_zero ends_in_zero
zero_put = refl

none_put : (with_last_zero [] ≡ []) × (with_last_zero (97 ∷ 0 ∷ []) ≡ 97 ∷ 0 ∷ [])
unfolding with_last_zero ends_in_zero
none_put = (refl, refl)

-- The tree table of the worked file: `a` of the root is Void, `n` of `a` an Int of one element at 168.
tree : List ℕ
tree =
    1 ∷ 0 ∷ 0 ∷ 0 ∷ 0 ∷ 0 ∷ 0 ∷ 0 ∷ 0 ∷ 0 ∷ 0 ∷ 0 ∷ 0 ∷
    3 ∷ 0 ∷ 0 ∷ 0 ∷ 0 ∷ 0 ∷ 0 ∷ 0 ∷ 1 ∷ 0 ∷ 0 ∷ 0 ∷ 1 ∷ 0 ∷ 0 ∷ 0 ∷ 1 ∷ 0 ∷ 0 ∷ 0 ∷ 0 ∷ 0 ∷ 0 ∷ 0 ∷ 168 ∷ []

first : entry_of tree ≡ Some (record { kind = kind.Void; parent = 0; string = 0; count = 0; offset = 0 })
unfolding tree entry_of fields_of be_of
first = refl

second : entry_of (drop 13 tree) ≡ Some (record { kind = kind.Int; parent = 1; string = 1; count = 1; offset = 168 })
unfolding tree entry_of fields_of be_of
second = refl

cut_short : entry_of (take 24 (drop 13 tree)) ≡ None
unfolding tree entry_of
cut_short = refl

written : entry_bytes (record { kind = kind.Int; parent = 1; string = 1; count = 1; offset = 168 }) ≡ drop 13 tree
unfolding tree entry_bytes be_bytes
written = refl

-- The index after the last.
rest : decoded kind.Int (0xff ∷ 0xff ∷ 0xff ∷ 0xba ∷ []) 1 ≡ refused (refusal 16)
unfolding decoded element_at
rest = refl

-- The path of its node 2, `/a/n`. (Other paths, subkeys and numbers: aff_read's table of cases.)
worked_path : path_grammar Two (47 ∷ 97 ∷ 47 ∷ 110 ∷ []) ≡ None
unfolding path_grammar parts_from between_slashes subkey_from rest_of_subkey narrow_first narrow_next
worked_path = refl
