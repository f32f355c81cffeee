-- Request C-15's names as they are printed, and the bytes at both ends of what is printed as it is, by computation.
use mathlib.Core.Path.{◌≡◌, refl}
use mathlib.Core.List.{[], ◌∷◌}
use Rattle.aff_spelling.specs.Spelling.{hex_digit, is_plain, shown_byte, shown}

-- `p x=`, `FF` and a backslash; a line feed.
name : shown (112 ∷ 32 ∷ 120 ∷ 61 ∷ 255 ∷ 92 ∷ []) ≡ 112 ∷ 92 ∷ 120 ∷ 50 ∷ 48 ∷ 120 ∷ 61 ∷ 92 ∷ 120 ∷ 102 ∷ 102 ∷ 92 ∷ 120 ∷ 53 ∷ 99 ∷ []
unfolding shown shown_byte is_plain hex_digit
name = refl

feed : shown (10 ∷ []) ≡ 92 ∷ 120 ∷ 48 ∷ 97 ∷ []
unfolding shown shown_byte is_plain hex_digit
feed = refl

ends : shown (32 ∷ 33 ∷ 91 ∷ 93 ∷ 126 ∷ 127 ∷ []) ≡ 92 ∷ 120 ∷ 50 ∷ 48 ∷ 33 ∷ 91 ∷ 93 ∷ 126 ∷ 92 ∷ 120 ∷ 55 ∷ 102 ∷ []
unfolding shown shown_byte is_plain hex_digit
ends = refl
