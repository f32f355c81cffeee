-- One element of a node's data: document 01, 'Reading keys'.
use Rattle.std.specs.Prelude.{List, [], ◌∷◌, ℕ, ◌+◌, ◌*◌, ◌/◌, leb, length, get_or}
use Rattle.aff_format.specs.Answer.{Answer, check, refusal, first_wrong}
use Rattle.aff_format.specs.Bytes.{part}
use Rattle.aff_format.specs.Number.{be_of, twos_complement, real_of}
use Rattle.aff_format.specs.declared.kind.Kind.{Kind}
use Rattle.aff_format.specs.declared.kind.Kind.TheVariants.{Void, Char, Int, Double, Complex}
use Rattle.aff_format.specs.declared.element.Element.{Element}
use Rattle.aff_format.specs.declared.element.Element.TheVariants as element

-- How many elements of a kind a run of bytes holds.
abbrev pub count_in : Kind → List ℕ → ℕ
count_in Void bytes = 0
count_in Char bytes = length bytes
count_in Int bytes = length bytes / 4
count_in Double bytes = length bytes / 8
count_in Complex bytes = length bytes / 16

-- Element k of them. (Void has none: no answer comes to that line.)
unfoldable pub element_at : Kind → List ℕ → ℕ → Element
element_at Void bytes k = element.Byte 0
element_at Char bytes k = element.Byte (get_or bytes k 0)
element_at Int bytes k = element.Int (twos_complement (be_of (part (4 * k) 4 bytes)))
element_at Double bytes k = element.Real (real_of (be_of (part (8 * k) 8 bytes)))
element_at Complex bytes k = element.Pair (real_of (be_of (part (16 * k) 8 bytes))) (real_of (be_of (part (16 * k + 8) 8 bytes)))

-- Order: 16.
unfoldable pub decoded : Kind → List ℕ → ℕ → Answer Element
decoded kind bytes k = first_wrong (check (leb (count_in kind bytes) k) (refusal 16) ∷ []) (element_at kind bytes k)
