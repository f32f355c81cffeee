-- The subkey rule, byte by byte and at any start; what a sound subkey cannot hold.
use mathlib.Core.Path.{◌≡◌, refl, sym, ap, ◌∙◌}
use mathlib.Core.Bool.{Bool, true, false, cond, not, true≢false}
use mathlib.Core.List.{List, [], ◌∷◌}
use mathlib.Core.Logic.{◌↔◌}
use Prim.Native.Nat.{ℕ, ◌+◌, ◌-◌, ◌<◌, ◌≤◌}
use native.Mathlib.Nat.{add-zero}
use native.Mathlib.Omega.{arith}
use lib.ListN.{length, get_or}
use lib.Seq.{take_all}
use borrow.Author.Tests.{ne_eqb, eqb-false}
use Rattle.std.specs.List.{position, position_from}
use Rattle.std.proofs.lemmas.Iterator.Adapters.{position_from-zero}
use Rattle.aff_format.specs.Answer.{refused, Check, refusal_at, first_wrong}
use Rattle.aff_format.specs.Bytes.{part, Without}
use Rattle.aff_format.specs.Subkey.{narrow_first, narrow_next, wide, may_begin, may_follow, rest_of_subkey, subkey_from, is_sound, break_place, check_grammar, is_subkey, shifted}
use Rattle.aff_format.proofs.AnswerLaws.{Others, others_reported}
use Rattle.aff_format.proofs.BytesLaws.{part_cons}
use Rattle.aff_format.specs.declared.edition.Edition.{Edition}
use Rattle.aff_format.specs.declared.edition.Edition.TheVariants.{One, Two, Three}
use Rattle.aff_format.specs.declared.refusal.RefusalCode.{RefusalCode}
use Rattle.std.specs.Prelude.{Option, Some, None}

-- After the first byte, one that may not follow is where the rule breaks.
pub rest_bad : (e : Edition) (l : List ℕ) (at end : ℕ) → at < end → end ≤ length l → may_follow e (get_or l at 0) ≡ false
    → rest_of_subkey e at (part at (end - at) l) ≡ Some at
unfolding rest_of_subkey
rest_bad e l at end m w h = rw (part_cons l at end m w, h)

-- Another start moves the place of a fault, and nothing else.
rest_shift : (e : Edition) (a b : ℕ) (l : List ℕ) → rest_of_subkey e (a + b) l ≡ shifted a (rest_of_subkey e b l)
unfolding rest_of_subkey
rest_shift e a b [] = refl
rest_shift e a b (x ∷ l) = go (may_follow e x) (rest_shift e a (b + 1) l)
  where
    go : (t : Bool) → rest_of_subkey e (a + (b + 1)) l ≡ shifted a (rest_of_subkey e (b + 1) l)
        → cond t (rest_of_subkey e (a + b + 1) l) (Some (a + b)) ≡ shifted a (cond t (rest_of_subkey e (b + 1) l) (Some b))
    go true h = let n : a + b + 1 ≡ a + (b + 1) = omega arith in rw n h
    go false h = refl

-- The first fault by std's word.
faults : (e : Edition) (i : ℕ) (l : List ℕ) → rest_of_subkey e i l ≡ position_from (λ x. not (may_follow e x)) i l
unfolding rest_of_subkey
faults e i [] = refl
faults e i (x ∷ l) = go (may_follow e x) (faults e (i + 1) l)
  where
    go : (t : Bool) → rest_of_subkey e (i + 1) l ≡ position_from (λ y. not (may_follow e y)) (i + 1) l
        → cond t (rest_of_subkey e (i + 1) l) (Some i) ≡ cond (not t) (Some i) (position_from (λ y. not (may_follow e y)) (i + 1) l)
    go true h = h
    go false h = refl

-- A name, in the code's terms: it is empty, its first byte may not begin one, or the rest is searched.
pub begin_empty : (e : Edition) (l : List ℕ) → length l < 1 → subkey_from e 0 l ≡ Some 0
unfolding subkey_from
begin_empty e [] h = refl
begin_empty e (x ∷ l) h = absurd (omega arith)

pub begin_bad : (e : Edition) (l : List ℕ) → 1 ≤ length l → may_begin e (get_or l 0 0) ≡ false → subkey_from e 0 l ≡ Some 0
unfolding subkey_from
begin_bad e [] h b = refl
begin_bad e (x ∷ l) h b = rw b

pub begin_by_position : (e : Edition) (l : List ℕ) → 1 ≤ length l → may_begin e (get_or l 0 0) ≡ true
    → subkey_from e 0 l ≡ shifted 1 (position (λ x. not (may_follow e x)) (part 1 (length l - 1) l))
unfolding subkey_from
begin_by_position e [] h b = absurd (omega arith)
begin_by_position e (x ∷ l) h b =
    let p = λ (y : ℕ). not (may_follow e y) in
    let whole : part 1 (length (x ∷ l) - 1) (x ∷ l) ≡ l = take_all (length (x ∷ l) - 1) l (omega arith) in
    rw b (rest_shift e 1 0 l ∙ ap (shifted 1) (faults e 0 l ∙ sym (position_from-zero p l) ∙ ap (position p) (sym whole)))

pub subkey_shift : (e : Edition) (at : ℕ) (l : List ℕ) → subkey_from e at l ≡ shifted at (subkey_from e 0 l)
unfolding subkey_from
subkey_shift e at [] = rw add-zero
subkey_shift e at (x ∷ l) = go (may_begin e x)
  where
    go : (t : Bool) → cond t (rest_of_subkey e (at + 1) l) (Some at) ≡ shifted at (cond t (rest_of_subkey e 1 l) (Some 0))
    go true = rest_shift e at 1 l
    go false = rw add-zero

pub sound_shift : (e : Edition) (at : ℕ) (l : List ℕ) → is_sound (subkey_from e at l) ≡ is_subkey e l
sound_shift e at l = ap is_sound (subkey_shift e at l) ∙ go (subkey_from e 0 l)
  where
    go : (g : Option ℕ) → is_sound (shifted at g) ≡ is_sound g
    go None = refl
    go (Some p) = refl

pub sound_is : (g : Option ℕ) → is_sound g ≡ true → g ≡ None
sound_is None h = refl
sound_is (Some p) h = absurd (true≢false (sym h))

-- A byte that may neither begin nor follow is in no subkey.
module _ (e : Edition) (x : ℕ) where
  rest_without : (at : ℕ) (l : List ℕ) → may_follow e x ≡ false → is_sound (rest_of_subkey e at l) ≡ true → Without x l
  unfolding rest_of_subkey
  rest_without at [] n h = tt
  rest_without at (y ∷ l) n h = go (may_follow e y) refl h (rest_without (at + 1) l n)
    where
      go : (t : Bool) → may_follow e y ≡ t → is_sound (cond t (rest_of_subkey e (at + 1) l) (Some at)) ≡ true
          → (is_sound (rest_of_subkey e (at + 1) l) ≡ true → Without x l) → Without x (y ∷ l)
      go true m s ih = (ne_eqb y x (λ q. true≢false (sym m ∙ ap (may_follow e) q ∙ n)), ih s)
      go false m s ih = absurd (true≢false (sym s))

  pub subkey_without : (l : List ℕ) → may_begin e x ≡ false → may_follow e x ≡ false → is_subkey e l ≡ true → Without x l
  unfolding subkey_from
  subkey_without [] b n h = tt
  subkey_without (y ∷ l) b n h = go (may_begin e y) refl h
    where
      go : (t : Bool) → may_begin e y ≡ t → is_sound (cond t (rest_of_subkey e 1 l) (Some 0)) ≡ true → Without x (y ∷ l)
      go true m s = (ne_eqb y x (λ q. true≢false (sym m ∙ ap (may_begin e) q ∙ b)), rest_without 1 l n s)
      go false m s = absurd (true≢false (sym s))

pub subkey_no_zero : (e : Edition) (l : List ℕ) → is_subkey e l ≡ true → Without 0 l
unfolding narrow_first narrow_next wide
subkey_no_zero One l = subkey_without One 0 l refl refl
subkey_no_zero Two l = subkey_without Two 0 l refl refl
subkey_no_zero Three l = subkey_without Three 0 l refl refl

pub subkey_no_slash : (e : Edition) (l : List ℕ) → is_subkey e l ≡ true → Without 47 l
unfolding narrow_first narrow_next wide
subkey_no_slash One l = subkey_without One 47 l refl refl
subkey_no_slash Two l = subkey_without Two 47 l refl refl
subkey_no_slash Three l = subkey_without Three 47 l refl refl

pub subkey_not_empty : (e : Edition) (l : List ℕ) → is_subkey e l ≡ true → 0 < length l
unfolding subkey_from
subkey_not_empty e [] h = absurd (true≢false (sym h))
subkey_not_empty e (x ∷ l) h = omega arith

-- The check of a grammar reports its place, and only 14.
pub reports_14 : {A : Type 0} (g : Option ℕ) (checks : List Check) (a : A) (p : ℕ) → Others 14 checks
    → (first_wrong (check_grammar g ∷ checks) a ≡ refused (refusal_at 14 p)) ↔ (g ≡ Some p)
reports_14 None checks a p o = (
  λ h. absurd (eqb-false 14 14 (others_reported 14 checks o a h) refl),
  λ h. absurd cc,
)
reports_14 (Some q) checks a p o = (
  λ h. let e : refusal_at 14 q ≡ refusal_at 14 p = cc in ap (λ (t : RefusalCode). Some t.place) e,
  λ h. ap (λ (g : Option ℕ). refused (refusal_at 14 (break_place g))) h,
)
