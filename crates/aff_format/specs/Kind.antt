-- The types of a node: document 01, 'Layout of a file', and source document 003, tables 1, 6 and 7.
use Rattle.std.specs.Prelude.{◌≡◌, Bool, true, false, cond, List, ◌++◌, ℕ, eqb, Option, Some, None, Result, MatchResult, codes, decimal}
use Rattle.aff_format.specs.declared.kind.Kind.{Kind}
use Rattle.aff_format.specs.declared.kind.UnknownKind.{UnknownKind}
use Rattle.aff_format.specs.declared.kind.Kind.TheVariants.{Void, Char, Int, Double, Complex}

abbrev pub kind_code : Kind → ℕ
kind_code Void = 1
kind_code Char = 2
kind_code Int = 3
kind_code Double = 4
kind_code Complex = 5

abbrev pub kind_of : ℕ → Option Kind
kind_of n =
    cond (eqb n 1) (Some Void)
    (cond (eqb n 2) (Some Char)
    (cond (eqb n 3) (Some Int)
    (cond (eqb n 4) (Some Double)
    (cond (eqb n 5) (Some Complex) None))))

-- What a conversion of a code returns: the kind of the code, or an error where there is none.
abbrev pub KindGiven : ℕ → Result Kind UnknownKind → Type 0
KindGiven code given = MatchResult given (λ kind. kind_of code ≡ Some kind) (λ e. kind_of code ≡ None)

abbrev pub unknown_kind_text : UnknownKind → List ℕ
unknown_kind_text e = codes "no kind has the code " ++ decimal e.0

-- Bytes of an element.
abbrev pub element_size : Kind → ℕ
element_size Void = 0
element_size Char = 1
element_size Int = 4
element_size Double = 8
element_size Complex = 16

-- Whether a node has no data.
abbrev pub is_void : Kind → Bool
is_void Void = true
is_void Char = false
is_void Int = false
is_void Double = false
is_void Complex = false

-- Bytes of a tree entry: a node that is not Void adds count and data offset.
abbrev pub entry_size : Kind → ℕ
entry_size k = cond (is_void k) 13 25
