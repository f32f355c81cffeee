-- The subkey rule of an edition: document 01, 'Layout of a file'; of edition 3, request C-15 and source document 000, section 5.
use Rattle.std.specs.Prelude.{◌≡◌, Bool, true, false, cond, not, ◌&&◌, ◌||◌, List, [], ◌∷◌, ℕ, ◌+◌, eqb, leb, Option, Some, None}
use Rattle.aff_format.specs.Answer.{Check, check, refusal_at}
use Rattle.aff_format.specs.declared.edition.Edition.{Edition}
use Rattle.aff_format.specs.declared.edition.Edition.TheVariants.{One, Two, Three}

-- A-Z, a-z.
abbrev pub is_letter : ℕ → Bool
is_letter x = (leb 65 x && leb x 90) || (leb 97 x && leb x 122)

-- 0-9.
abbrev pub is_digit : ℕ → Bool
is_digit x = leb 48 x && leb x 57

-- A letter, `_` or `:`.
unfoldable pub narrow_first : ℕ → Bool
narrow_first x = is_letter x || (eqb x 95 || eqb x 58)

-- A byte that may begin one, a digit, `.` or `-`.
unfoldable pub narrow_next : ℕ → Bool
narrow_next x = narrow_first x || (is_digit x || (eqb x 46 || eqb x 45))

-- Any byte but `/` and the zero that ends strings.
unfoldable pub wide : ℕ → Bool
wide x = not (eqb x 47 || eqb x 0)

-- Whether a byte may begin a subkey, and whether it may come after its first byte.
abbrev pub may_begin : Edition → ℕ → Bool
may_begin One x = narrow_first x
may_begin Two x = narrow_first x
may_begin Three x = wide x

abbrev pub may_follow : Edition → ℕ → Bool
may_follow One x = narrow_next x
may_follow Two x = narrow_next x
may_follow Three x = wide x

-- The bytes after the first, from place at on: the first that breaks the rule.
unfoldable pub rest_of_subkey : Edition → ℕ → List ℕ → Option ℕ
rest_of_subkey e at [] = None
rest_of_subkey e at (x ∷ l) = cond (may_follow e x) (rest_of_subkey e (at + 1) l) (Some at)

-- A subkey that begins at place at: the place of the first byte that breaks the rule, or, where it is empty, at.
unfoldable pub subkey_from : Edition → ℕ → List ℕ → Option ℕ
subkey_from e at [] = Some at
subkey_from e at (x ∷ l) = cond (may_begin e x) (rest_of_subkey e (at + 1) l) (Some at)

abbrev pub is_sound : Option ℕ → Bool
is_sound None = true
is_sound (Some place) = false

-- The place of the fault; 0 where there is none.
abbrev pub break_place : Option ℕ → ℕ
break_place None = 0
break_place (Some place) = place

-- 14, with the place of the fault (request C-18).
abbrev pub check_grammar : Option ℕ → Check
check_grammar g = check (not (is_sound g)) (refusal_at 14 (break_place g))

-- Whether l is a subkey.
abbrev pub is_subkey : Edition → List ℕ → Bool
is_subkey e l = is_sound (subkey_from e 0 l)

-- The same rule as a proposition, without places: a byte that may begin a subkey, and after it only bytes that may follow.
abbrev pub AllFollow : Edition → List ℕ → Type 0
AllFollow e [] = Unit {0}
AllFollow e (x ∷ l) = (may_follow e x ≡ true) × AllFollow e l

abbrev pub IsSubkey : Edition → List ℕ → Type 0
IsSubkey e [] = ⊥
IsSubkey e (x ∷ l) = (may_begin e x ≡ true) × AllFollow e l

-- What is found in a run that begins at place at, from what is found in it alone.
abbrev pub shifted : ℕ → Option ℕ → Option ℕ
shifted at None = None
shifted at (Some place) = Some (at + place)
