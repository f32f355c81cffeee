-- Laws of answers and of checks in order. Assumes nothing.
use mathlib.Core.Path.{◌≡◌, refl, sym, ap, ◌∙◌}
use mathlib.Core.Bool.{Bool, true, false, not, ◌&&◌, true≢false}
use mathlib.Core.List.{List, [], ◌∷◌, ◌++◌}
use Prim.Native.Nat.{ℕ}
use lib.Dec.{eqb}
use borrow.Author.Tests.{not-true}
use Rattle.aff_format.specs.declared.refusal.RefusalCode.{RefusalCode}
use Rattle.aff_format.specs.Answer.{accepted, refused, Check, check, first_wrong, Clear}
use Rattle.aff_format.proofs.TestLaws.{both}

-- No answer is both accepted and refused.
pub not_both : {A X : Type 0} {a : A} {r : RefusalCode} → refused r ≡ accepted a → X
not_both e = absurd cc

-- An accepted call: nothing was wrong, and the value is the call's.
pub passed : {A : Type 0} (checks : List Check) (a : A) {b : A} → first_wrong checks a ≡ accepted b → Clear checks
passed [] a e = tt
passed (check true r ∷ checks) a e = not_both e
passed (check false r ∷ checks) a e = (refl, passed checks a e)

pub passed_value : {A : Type 0} (checks : List Check) (a : A) {b : A} → first_wrong checks a ≡ accepted b → a ≡ b
passed_value [] a e = cc
passed_value (check true r ∷ checks) a e = not_both e
passed_value (check false r ∷ checks) a e = passed_value checks a e

-- And back: where nothing is wrong, the call is accepted.
pub clear_accepts : {A : Type 0} (checks : List Check) (a : A) → Clear checks → first_wrong checks a ≡ accepted a
clear_accepts [] a h = refl
clear_accepts (check wrong r ∷ checks) a h = rw h.0 (clear_accepts checks a h.1)

-- The first check that finds something wrong is the one that is reported.
pub first_reported : {A : Type 0} (before : List Check) (r : RefusalCode) (checks : List Check) (a : A) → Clear before
    → first_wrong (before ++ (check true r ∷ checks)) a ≡ refused r
first_reported [] r checks a h = refl
first_reported (check wrong q ∷ before) r checks a h = rw h.0 (first_reported before r checks a h.1)

-- A refusal is that of a check that finds something wrong, and no check before it does.
pub data FirstIs : List Check → RefusalCode → Type 0 where
  here : {r : RefusalCode} {checks : List Check} → FirstIs (check true r ∷ checks) r
  later : {q r : RefusalCode} {checks : List Check} → FirstIs checks r → FirstIs (check false q ∷ checks) r

pub refused_by : {A : Type 0} (checks : List Check) (a : A) {r : RefusalCode} → first_wrong checks a ≡ refused r → FirstIs checks r
refused_by [] a e = absurd cc
refused_by (check true q ∷ checks) a {r} e = let p : q ≡ r = cc in rw p here
refused_by (check false q ∷ checks) a e = later (refused_by checks a e)

-- The checks do not look at the value.
pub same_refusal : {A B : Type 0} (checks : List Check) (a : A) (b : B) {r : RefusalCode} → first_wrong checks a ≡ refused r → first_wrong checks b ≡ refused r
same_refusal [] a b e = absurd cc
same_refusal (check true q ∷ checks) a b e = cc
same_refusal (check false q ∷ checks) a b e = same_refusal checks a b e

-- Checks and more checks after them: a refusal of the first is the answer; where they pass, the others decide.
pub refused_before : {A B : Type 0} (before after : List Check) (a : A) (b : B) {t : RefusalCode} → first_wrong before a ≡ refused t
    → first_wrong (before ++ after) b ≡ refused t
refused_before [] after a b e = absurd cc
refused_before (check true q ∷ before) after a b e = cc
refused_before (check false q ∷ before) after a b e = refused_before before after a b e

pub passed_before : {A B : Type 0} (before after : List Check) (a : A) (b : B) {c : A} → first_wrong before a ≡ accepted c
    → first_wrong (before ++ after) b ≡ first_wrong after b
passed_before [] after a b e = refl
passed_before (check true q ∷ before) after a b e = not_both e
passed_before (check false q ∷ before) after a b e = passed_before before after a b e

pub clear_both : (before after : List Check) → Clear (before ++ after) → Clear before × Clear after
clear_both [] after c = (tt, c)
clear_both (check wrong r ∷ before) after c = let (a, b) = clear_both before after c.1 in ((c.0, a), b)

-- ---- By number.

-- The numbers that checks report, in their order.
abbrev pub numbers_reported : List Check → List ℕ
numbers_reported [] = []
numbers_reported (check wrong t ∷ checks) = t.number ∷ numbers_reported checks

pub numbers_both : (before after : List Check) → numbers_reported (before ++ after) ≡ numbers_reported before ++ numbers_reported after
numbers_both [] after = refl
numbers_both (check wrong t ∷ before) after = ap (λ (ns : List ℕ). t.number ∷ ns) (numbers_both before after)

-- n is none of some numbers.
abbrev pub is_none : ℕ → List ℕ → Bool
is_none n [] = true
is_none n (m ∷ ms) = not (eqb m n) && is_none n ms

-- The checks report other numbers than n.
abbrev pub Others : ℕ → List Check → Type 0
Others n checks = is_none n (numbers_reported checks) ≡ true

-- Of the first check, and of those after it.
others_first : (n : ℕ) (wrong : Bool) (t : RefusalCode) (checks : List Check) → Others n (check wrong t ∷ checks) → (eqb t.number n ≡ false) × Others n checks
others_first n wrong t checks o =
    let (h, p) = both (not (eqb t.number n)) (is_none n (numbers_reported checks)) o in
    (not-true (eqb t.number n) h, p)

pub others_reported : {A : Type 0} (n : ℕ) (checks : List Check) → Others n checks → (a : A) {t : RefusalCode} → first_wrong checks a ≡ refused t → eqb t.number n ≡ false
others_reported n [] o a e = not_both (sym e)
others_reported n (check true q ∷ checks) o a {t} e = let p : t ≡ q = cc in rw p (others_first n true q checks o).0
others_reported n (check false q ∷ checks) o a e = others_reported n checks (others_first n false q checks o).1 a e

-- Of two lists, one after the other.
pub others_both : (n : ℕ) (before after : List Check) → Others n before → Others n after → Others n (before ++ after)
others_both n [] after o p = p
others_both n (check wrong t ∷ before) after o p =
    let (h, q) = others_first n wrong t before o in
    rw h (others_both n before after q p)

-- A number that one check alone can report: it was reported there, and those before it found nothing wrong.
pub check_reported : {A : Type 0} (n : ℕ) (before : List Check) → Others n before → (wrong : Bool) (r : RefusalCode) (after : List Check) → Others n after → (a : A) {t : RefusalCode}
    → first_wrong (before ++ (check wrong r ∷ after)) a ≡ refused t → eqb t.number n ≡ true → Clear before × (wrong ≡ true) × (t ≡ r)
check_reported n [] o true r after p a e h = (tt, refl, cc)
check_reported n [] o false r after p a e h = absurd (true≢false (sym h ∙ others_reported n after p a e))
check_reported n (check true q ∷ before) o wrong r after p a {t} e h =
    let s : t ≡ q = cc in absurd (true≢false (sym h ∙ ap (λ (x : RefusalCode). eqb x.number n) s ∙ (others_first n true q before o).0))
check_reported n (check false q ∷ before) o wrong r after p a e h =
    let c = check_reported n before (others_first n false q before o).1 wrong r after p a e h in ((refl, c.0), c.1, c.2)

pub last_reported : {A : Type 0} (n : ℕ) (before : List Check) → Others n before → (wrong : Bool) (r : RefusalCode) (a : A) {t : RefusalCode}
    → first_wrong (before ++ (check wrong r ∷ [])) a ≡ refused t → eqb t.number n ≡ true → Clear before × (wrong ≡ true) × (t ≡ r)
last_reported n before o wrong r a e h = check_reported n before o wrong r [] refl a e h

-- A check that is not the one reported may be left out.
pub never_reported : {A : Type 0} (before : List Check) (wrong : Bool) (r : RefusalCode) (after : List Check) (a : A)
    → ((t : RefusalCode) → first_wrong (before ++ (check wrong r ∷ after)) a ≡ refused t → t.number ≡ r.number → ⊥)
    → first_wrong (before ++ (check wrong r ∷ after)) a ≡ first_wrong (before ++ after) a
never_reported [] true r after a h = absurd (h r refl refl)
never_reported [] false r after a h = refl
never_reported (check true q ∷ before) wrong r after a h = refl
never_reported (check false q ∷ before) wrong r after a h = never_reported before wrong r after a h

-- A refusal that is none of the checks after one: that one refuses, or one before it.
pub refused_up_to : {A B : Type 0} (before : List Check) (wrong : Bool) (r : RefusalCode) (after : List Check) (a : A) (b : B) {t : RefusalCode}
    → first_wrong (before ++ (check wrong r ∷ after)) a ≡ refused t → (first_wrong after a ≡ refused t → ⊥) → first_wrong (before ++ (check true r ∷ [])) b ≡ refused t
refused_up_to [] true r after a b e f = cc
refused_up_to [] false r after a b e f = absurd (f e)
refused_up_to (check true q ∷ before) wrong r after a b e f = cc
refused_up_to (check false q ∷ before) wrong r after a b e f = refused_up_to before wrong r after a b e f
