-- Strings and runs of bytes, there and back: a run, with a zero put after it where its last byte is not zero, is the text of its strings
-- (`text_ended`), so each law of strings is proved of texts, by induction on the strings, and read off for runs.
use mathlib.Core.Path.{◌≡◌, refl, sym, ap, ◌∙◌}
use mathlib.Core.Bool.{Bool, true, false, cond, ◌||◌, true≢false}
use mathlib.Core.List.{List, [], ◌∷◌, ◌++◌, append_assoc, append-nil}
use Prim.Native.Nat.{ℕ, zero, suc, ◌+◌, ◌-◌, ◌<◌, ◌≤◌}
use native.Mathlib.Numerals.{add-one}
use native.Mathlib.Omega.{arith}
use lib.Dec.{eqb, ltb, leb-suc-suc}
use lib.ListN.{length, get_or, take, drop, length-append}
use lib.Seq.{drop-append-add, drop-append-le, drop-drop}
use borrow.Author.Tests.{eqb-true, ltb-true, lt-ltb}
use Rattle.aff_format.specs.Bytes.{part, same_bytes, Without, EachWithout}
use Rattle.aff_format.specs.Path.{ahead}
use Rattle.aff_format.proofs.BytesLaws.{drop_take}
use Rattle.aff_format.specs.Strings.{strings_of, last_or, ends_in_zero, with_last_zero, places_of, text_of, up_to_zero, is_in, index_in}
use Rattle.aff_format.specs.passes.Counts.{zeros_in}
use Rattle.aff_format.proofs.SameLaws.{same_eq, same_refl, same_ne}

-- The last byte.

last_append : (d : ℕ) (s : List ℕ) (x : ℕ) (t : List ℕ) → last_or d (s ++ (x ∷ t)) ≡ last_or x t
last_append d [] x t = refl
last_append d (y ∷ s) x t = last_append y s x t

last_at : (x : ℕ) (l : List ℕ) → last_or x l ≡ get_or (x ∷ l) (length l) 0
last_at x [] = refl
last_at x (y ∷ l) = last_at y l

pub ends_in_zero_none : (l : List ℕ) → length l ≡ 0 → true ≡ ends_in_zero l
unfolding ends_in_zero
ends_in_zero_none [] h = refl
ends_in_zero_none (x ∷ l) h = absurd (omega arith)

pub ends_in_zero_last : (l : List ℕ) → 0 < length l → eqb (get_or l (length l - 1) 0) 0 ≡ ends_in_zero l
unfolding ends_in_zero
ends_in_zero_last [] h = absurd (omega arith)
ends_in_zero_last (x ∷ l) h = let n : suc (length l) - 1 ≡ length l = omega arith in rw (n, last_at x l)

pub ends_in_zero_append : (s : List ℕ) (x : ℕ) (t : List ℕ) → ends_in_zero (s ++ (x ∷ t)) ≡ ends_in_zero (x ∷ t)
unfolding ends_in_zero
ends_in_zero_append s x t = ap (λ (y : ℕ). eqb y 0) (last_append 0 s x t)

pub ends_in_zero_tail : (x : ℕ) (l : List ℕ) → ends_in_zero (x ∷ l) ≡ true → ends_in_zero l ≡ true
unfolding ends_in_zero
ends_in_zero_tail x [] h = refl
ends_in_zero_tail x (y ∷ l) h = h

pub ends_in_zero_text_of : (ss : List (List ℕ)) → ends_in_zero (text_of ss) ≡ true
unfolding ends_in_zero text_of
ends_in_zero_text_of [] = refl
ends_in_zero_text_of (s ∷ ss) = ends_in_zero_append s 0 (text_of ss) ∙ ends_in_zero_text_of ss

-- A text has its last zero.
pub with_last_zero_text_of : (ss : List (List ℕ)) → with_last_zero (text_of ss) ≡ text_of ss
unfolding with_last_zero
with_last_zero_text_of ss = rw (ends_in_zero_text_of ss, append-nil)

-- Texts.

pub text_of_append : (ss ts : List (List ℕ)) → text_of (ss ++ ts) ≡ text_of ss ++ text_of ts
unfolding text_of
text_of_append [] ts = refl
text_of_append (s ∷ ss) ts = rw (text_of_append ss ts) (simp append_assoc)

pub length_text_of : (s : List ℕ) (ss : List (List ℕ)) → length (text_of (s ∷ ss)) ≡ length s + 1 + length (text_of ss)
unfolding text_of
length_text_of s ss = length-append s (0 ∷ text_of ss) ∙ omega arith

pub text_of_snoc : (ss : List (List ℕ)) (s : List ℕ) → text_of (ss ++ (s ∷ [])) ≡ text_of ss ++ (s ++ (0 ∷ []))
unfolding text_of
text_of_snoc ss s = text_of_append ss (s ∷ [])

pub length_text_of_snoc : (ss : List (List ℕ)) (s : List ℕ) → length (text_of (ss ++ (s ∷ []))) ≡ length (text_of ss) + length s + 1
length_text_of_snoc ss s = rw text_of_snoc (simp length-append (omega arith))

-- Strings of a text, and a text from strings.

pub strings_of_one : (s r : List ℕ) → Without 0 s → strings_of (s ++ (0 ∷ r)) ≡ s ∷ strings_of r
unfolding strings_of
strings_of_one [] r w = refl
strings_of_one (x ∷ s) r w = rw (w.0, strings_of_one s r w.1)

text_then : (ss : List (List ℕ)) (t : List ℕ) → EachWithout 0 ss → strings_of (text_of ss ++ t) ≡ ss ++ strings_of t
unfolding text_of
text_then [] t w = refl
text_then (s ∷ ss) t w = rw (append_assoc s (0 ∷ text_of ss) t) (strings_of_one s (text_of ss ++ t) w.0 ∙ ap (λ (r : List (List ℕ)). s ∷ r) (text_then ss t w.1))

pub strings_of_text_of : (ss : List (List ℕ)) → EachWithout 0 ss → strings_of (text_of ss) ≡ ss
unfolding strings_of
strings_of_text_of ss w = ap strings_of (sym (append-nil (text_of ss))) ∙ text_then ss [] w ∙ append-nil ss

ahead_without : (x : ℕ) (ss : List (List ℕ)) → eqb x 0 ≡ false → EachWithout 0 ss → EachWithout 0 (ahead x ss)
ahead_without x [] h w = ((h, tt), tt)
ahead_without x (s ∷ ss) h w = ((h, w.0), w.1)

pub strings_without_zero : (l : List ℕ) → EachWithout 0 (strings_of l)
unfolding strings_of
strings_without_zero [] = tt
strings_without_zero (x ∷ l) = go (eqb x 0) refl (strings_without_zero l)
  where
    go : (b : Bool) → eqb x 0 ≡ b → EachWithout 0 (strings_of l) → EachWithout 0 (cond b ([] ∷ strings_of l) (ahead x (strings_of l)))
    go true h w = (tt, w)
    go false h w = ahead_without x (strings_of l) h w

text_ahead : (x y : ℕ) (l : List ℕ) (ss : List (List ℕ)) → text_of ss ≡ y ∷ l → text_of (ahead x ss) ≡ x ∷ y ∷ l
unfolding text_of
text_ahead x y l [] h = absurd cc
text_ahead x y l (s ∷ ss) h = ap (λ (r : List ℕ). x ∷ r) h

-- A run with its last zero is the text of its strings.
pub text_ended : (l : List ℕ) → text_of (strings_of l) ≡ with_last_zero l
unfolding strings_of text_of ends_in_zero with_last_zero
text_ended [] = refl
text_ended (x ∷ l) = go l (eqb x 0) refl (text_ended l)
  where
    go : (l : List ℕ) (b : Bool) → eqb x 0 ≡ b → text_of (strings_of l) ≡ l ++ cond (ends_in_zero l) [] (0 ∷ [])
        → text_of (cond b ([] ∷ strings_of l) (ahead x (strings_of l))) ≡ x ∷ (l ++ cond (ends_in_zero (x ∷ l)) [] (0 ∷ []))
    go l true q ih = rw (eqb-true x 0 q) (ap (λ (r : List ℕ). 0 ∷ r) ih)
    go [] false q ih = rw q
    go (y ∷ l) false q ih = text_ahead x y (l ++ cond (ends_in_zero (y ∷ l)) [] (0 ∷ [])) (strings_of (y ∷ l)) ih

pub text_of_strings_of : (l : List ℕ) → ends_in_zero l ≡ true → text_of (strings_of l) ≡ l
unfolding with_last_zero
text_of_strings_of l h = text_ended l ∙ rw (h, append-nil)

pub text_of_unended : (l : List ℕ) → ends_in_zero l ≡ false → text_of (strings_of l) ≡ l ++ (0 ∷ [])
unfolding with_last_zero
text_of_unended l h = text_ended l ∙ rw h

-- The strings of a run are the only ones without a zero byte whose text is the run with its last zero.
pub strings_with_last_zero : (l : List ℕ) (ss : List (List ℕ)) → with_last_zero l ≡ text_of ss → EachWithout 0 ss → strings_of l ≡ ss
strings_with_last_zero l ss is w =
    sym (strings_of_text_of (strings_of l) (strings_without_zero l)) ∙ ap strings_of (text_ended l ∙ is) ∙ strings_of_text_of ss w

-- The zero of the last string may be there or not: a run that is not empty and does not end in zero has the same strings with one zero after it.
pub last_zero_optional : (l : List ℕ) → ends_in_zero l ≡ false → strings_of (l ++ (0 ∷ [])) ≡ strings_of l
last_zero_optional l h = ap strings_of (sym (text_of_unended l h)) ∙ strings_of_text_of (strings_of l) (strings_without_zero l)

-- The string that begins here.

pub up_to_zero_one : (s r : List ℕ) → Without 0 s → up_to_zero (s ++ (0 ∷ r)) ≡ s
unfolding up_to_zero
up_to_zero_one [] r w = refl
up_to_zero_one (x ∷ s) r w = rw (w.0, up_to_zero_one s r w.1)

-- What comes after a zero does not matter, nor whether the last zero is there.
pub up_to_zero_append : (s r : List ℕ) → up_to_zero (s ++ (0 ∷ r)) ≡ up_to_zero s
unfolding up_to_zero
up_to_zero_append [] r = refl
up_to_zero_append (x ∷ s) r = ap (λ (t : List ℕ). cond (eqb x 0) [] (x ∷ t)) (up_to_zero_append s r)

pub up_to_zero_without : (l : List ℕ) → Without 0 (up_to_zero l)
unfolding up_to_zero
up_to_zero_without [] = tt
up_to_zero_without (x ∷ l) = go (eqb x 0) refl (up_to_zero_without l)
  where
    go : (b : Bool) → eqb x 0 ≡ b → Without 0 (up_to_zero l) → Without 0 (cond b [] (x ∷ up_to_zero l))
    go true h w = tt
    go false h w = (h, w)

pub length_up_to_zero : (l : List ℕ) → length (up_to_zero l) ≤ length l
unfolding up_to_zero
length_up_to_zero [] = omega arith
length_up_to_zero (x ∷ l) = go (eqb x 0) (length_up_to_zero l)
  where
    go : (b : Bool) → length (up_to_zero l) ≤ length l → length (cond b [] (x ∷ up_to_zero l)) ≤ suc (length l)
    go true h = omega arith
    go false h = omega arith

-- It is the front of the run.
pub take_up_to_zero : (l : List ℕ) → take (length (up_to_zero l)) l ≡ up_to_zero l
unfolding up_to_zero
take_up_to_zero [] = refl
take_up_to_zero (x ∷ l) = go (eqb x 0) (take_up_to_zero l)
  where
    go : (b : Bool) → take (length (up_to_zero l)) l ≡ up_to_zero l → take (length (cond b [] (x ∷ up_to_zero l))) (x ∷ l) ≡ cond b [] (x ∷ up_to_zero l)
    go true h = refl
    go false h = ap (λ (t : List ℕ). x ∷ t) h

-- Places.

pub length_places_of : (at : ℕ) (ss : List (List ℕ)) → length (places_of at ss) ≡ length ss
unfolding places_of
length_places_of at [] = refl
length_places_of at (s ∷ ss) = ap suc (length_places_of (at + length s + 1) ss)

-- The place of a string is after the text of those before it.
pub places_of_at : (at : ℕ) (ss : List (List ℕ)) (k : ℕ) → k < length ss → get_or (places_of at ss) k 0 ≡ at + length (text_of (take k ss))
unfolding places_of text_of
places_of_at at [] k h = absurd (omega arith)
places_of_at at (s ∷ ss) zero h = omega arith
places_of_at at (s ∷ ss) (suc k) h =
    places_of_at (at + length s + 1) ss k (omega arith) ∙ omega (arith, length_text_of s (take k ss))

pub places_of_shift : (a b : ℕ) (ss : List (List ℕ)) (k : ℕ) → k < length ss → get_or (places_of (a + b) ss) k 0 ≡ a + get_or (places_of b ss) k 0
places_of_shift a b ss k h = places_of_at (a + b) ss k h ∙ omega (arith, places_of_at b ss k h)

pub places_of_from : (at : ℕ) (ss : List (List ℕ)) (k : ℕ) → k < length ss → get_or (places_of at ss) k 0 ≡ at + get_or (places_of 0 ss) k 0
places_of_from at ss k h = places_of_at at ss k h ∙ omega (arith, places_of_at 0 ss k h)

-- A string in a text.

text_at : (ss : List (List ℕ)) (back : List ℕ) (k : ℕ) → k < length ss
    → drop (length (text_of (take k ss))) (text_of ss ++ back) ≡ get_or ss k [] ++ (0 ∷ (text_of (drop (suc k) ss) ++ back))
unfolding text_of
text_at [] back k h = absurd (omega arith)
text_at (s ∷ ss) back zero h = append_assoc s (0 ∷ text_of ss) back
text_at (s ∷ ss) back (suc k) h =
    rw (length-append s (0 ∷ text_of (take k ss)), append_assoc s (0 ∷ text_of ss) back, drop-append-add) (text_at ss back k (omega arith))

pub each_at : (x : ℕ) (ss : List (List ℕ)) (k : ℕ) → EachWithout x ss → Without x (get_or ss k [])
each_at x [] k w = tt
each_at x (s ∷ ss) zero w = w.0
each_at x (s ∷ ss) (suc k) w = each_at x ss k w.1

-- A string in a run.

pub string_begins : (l : List ℕ) (k : ℕ) → k < length (strings_of l) → get_or (places_of 0 (strings_of l)) k 0 < length l
unfolding strings_of places_of
string_begins [] k h = absurd (omega arith)
string_begins (x ∷ l) k h = go (eqb x 0) (strings_of l) k h (string_begins l)
  where
    go : (b : Bool) (ss : List (List ℕ)) (k : ℕ) → k < length (cond b ([] ∷ ss) (ahead x ss)) → ((k : ℕ) → k < length ss → get_or (places_of 0 ss) k 0 < length l)
        → get_or (places_of 0 (cond b ([] ∷ ss) (ahead x ss))) k 0 < suc (length l)
    go true ss zero h ih = omega arith
    go true ss (suc k) h ih = omega (arith, places_of_shift 1 0 ss k (omega arith), ih k (omega arith))
    go false [] zero h ih = omega arith
    go false [] (suc k) h ih = absurd (omega arith)
    go false (s ∷ ss) zero h ih = omega arith
    go false (s ∷ ss) (suc k) h ih =
        omega (arith, places_of_at (0 + suc (length s) + 1) ss k (omega arith), places_of_at (0 + length s + 1) ss k (omega arith), ih (suc k) (omega arith))

up_to_zero_ended : (s : List ℕ) (b : Bool) → up_to_zero (s ++ cond b [] (0 ∷ [])) ≡ up_to_zero s
up_to_zero_ended s true = rw append-nil
up_to_zero_ended s false = up_to_zero_append s []

pub string_at : (l : List ℕ) (k : ℕ) → k < length (strings_of l) → up_to_zero (drop (get_or (places_of 0 (strings_of l)) k 0) l) ≡ get_or (strings_of l) k []
unfolding with_last_zero
string_at l k h =
    let ss : List (List ℕ) = strings_of l in
    let p : ℕ = get_or (places_of 0 ss) k 0 in
    let z : List ℕ = cond (ends_in_zero l) [] (0 ∷ []) in
    let q : p ≡ length (text_of (take k ss)) = places_of_at 0 ss k h ∙ omega arith in
    let w : p ≤ length l = omega (arith, string_begins l k h) in
    let t : drop p (l ++ z) ≡ get_or ss k [] ++ (0 ∷ (text_of (drop (suc k) ss) ++ [])) =
    ap (drop p) (sym (text_ended l) ∙ sym (append-nil (text_of ss))) ∙ ap (λ (n : ℕ). drop n (text_of ss ++ [])) q ∙ text_at ss [] k h in
    sym (up_to_zero_ended (drop p l) (ends_in_zero l))
    ∙ ap up_to_zero (sym (drop-append-le p l z w) ∙ t)
    ∙ up_to_zero_one (get_or ss k []) (text_of (drop (suc k) ss) ++ []) (each_at 0 ss k (strings_without_zero l))

-- A string of a section that need not end in zero, read up to the section's end.
pub string_in_section : (image : List ℕ) (at n k : ℕ) → k < length (strings_of (part at n image))
    → let p = get_or (places_of at (strings_of (part at n image))) k 0 in up_to_zero (part p (at + n - p) image) ≡ get_or (strings_of (part at n image)) k []
string_in_section image at n k h =
    let ss : List (List ℕ) = strings_of (part at n image) in
    let p : ℕ = get_or (places_of at ss) k 0 in
    let q : ℕ = get_or (places_of 0 ss) k 0 in
    let e : p ≡ at + q = places_of_from at ss k h in
    let m : at + n - p ≡ n - q = omega arith in
    ap up_to_zero (rw (m, e, ← drop-drop q at image) (sym (drop_take q n (drop at image)))) ∙ string_at (part at n image) k h

-- How many.

pub zeros_in_append : (s t : List ℕ) → zeros_in (s ++ t) ≡ zeros_in s + zeros_in t
unfolding zeros_in
zeros_in_append [] t = omega arith
zeros_in_append (x ∷ s) t = go (eqb x 0) (zeros_in_append s t)
  where
    go : (b : Bool) → zeros_in (s ++ t) ≡ zeros_in s + zeros_in t → cond b (zeros_in (s ++ t) + 1) (zeros_in (s ++ t)) ≡ cond b (zeros_in s + 1) (zeros_in s) + zeros_in t
    go true h = omega arith
    go false h = h

pub zeros_in_without : (s : List ℕ) → Without 0 s → zeros_in s ≡ 0
unfolding zeros_in
zeros_in_without [] w = refl
zeros_in_without (x ∷ s) w = rw w.0 (zeros_in_without s w.1)

pub zeros_in_text_of : (ss : List (List ℕ)) → EachWithout 0 ss → zeros_in (text_of ss) ≡ length ss
unfolding zeros_in text_of
zeros_in_text_of [] w = refl
zeros_in_text_of (s ∷ ss) w = zeros_in_append s (0 ∷ text_of ss) ∙ rw (zeros_in_without s w.0, zeros_in_text_of ss w.1) (omega arith)

pub strings_zeros : (l : List ℕ) → ends_in_zero l ≡ true → length (strings_of l) ≡ zeros_in l
strings_zeros l h = sym (zeros_in_text_of (strings_of l) (strings_without_zero l)) ∙ ap zeros_in (text_of_strings_of l h)

-- A string among others.

pub index_in_within : (x : List ℕ) (ss : List (List ℕ)) → index_in x ss ≤ length ss
unfolding index_in
index_in_within x [] = omega arith
index_in_within x (s ∷ ss) = go (same_bytes s x) (index_in_within x ss)
  where
    go : (b : Bool) → index_in x ss ≤ length ss → cond b 0 (index_in x ss + 1) ≤ suc (length ss)
    go true h = omega arith
    go false h = omega arith

pub index_in_found : (x : List ℕ) (ss : List (List ℕ)) → index_in x ss < length ss → get_or ss (index_in x ss) [] ≡ x
unfolding index_in
index_in_found x [] h = absurd (omega arith)
index_in_found x (s ∷ ss) h = go (same_bytes s x) refl h (index_in_found x ss)
  where
    go : (b : Bool) → same_bytes s x ≡ b → cond b 0 (index_in x ss + 1) < suc (length ss) → (index_in x ss < length ss → get_or ss (index_in x ss) [] ≡ x)
        → get_or (s ∷ ss) (cond b 0 (index_in x ss + 1)) [] ≡ x
    go true q k ih = same_eq s x q
    go false q k ih = rw add-one (ih (omega arith))

pub index_in_lowest : (x : List ℕ) (ss : List (List ℕ)) (k : ℕ) → k < index_in x ss → get_or ss k [] ≡ x → ⊥
unfolding index_in
index_in_lowest x [] k h = absurd (omega arith)
index_in_lowest x (s ∷ ss) k h = go (same_bytes s x) refl k h (index_in_lowest x ss)
  where
    go : (b : Bool) → same_bytes s x ≡ b → (k : ℕ) → k < cond b 0 (index_in x ss + 1) → ((k : ℕ) → k < index_in x ss → get_or ss k [] ≡ x → ⊥) → get_or (s ∷ ss) k [] ≡ x → ⊥
    go true q k w ih = absurd (omega arith)
    go false q zero w ih = same_ne s x q
    go false q (suc k) w ih = ih k (omega arith)

pub is_in_index_in : (x : List ℕ) (ss : List (List ℕ)) → is_in x ss ≡ ltb (index_in x ss) (length ss)
unfolding is_in index_in
is_in_index_in x [] = refl
is_in_index_in x (s ∷ ss) = go (same_bytes s x) (is_in_index_in x ss)
  where
    go : (b : Bool) → is_in x ss ≡ ltb (index_in x ss) (length ss) → (b || is_in x ss) ≡ ltb (cond b 0 (index_in x ss + 1)) (suc (length ss))
    go true h = sym (lt-ltb 0 (suc (length ss)) (omega arith))
    go false h = rw add-one (h ∙ sym (leb-suc-suc (suc (index_in x ss)) (length ss)))

pub is_in_append : (x : List ℕ) (ss ts : List (List ℕ)) → is_in x (ss ++ ts) ≡ (is_in x ss || is_in x ts)
unfolding is_in
is_in_append x [] ts = refl
is_in_append x (s ∷ ss) ts = go (same_bytes s x) (is_in_append x ss ts)
  where
    go : (b : Bool) → is_in x (ss ++ ts) ≡ (is_in x ss || is_in x ts) → (b || is_in x (ss ++ ts)) ≡ ((b || is_in x ss) || is_in x ts)
    go true h = refl
    go false h = h

pub index_in_append : (x : List ℕ) (ss ts : List (List ℕ)) → index_in x (ss ++ ts) ≡ cond (is_in x ss) (index_in x ss) (length ss + index_in x ts)
unfolding is_in index_in
index_in_append x [] ts = omega arith
index_in_append x (s ∷ ss) ts = go (same_bytes s x) (is_in x ss) (index_in_append x ss ts)
  where
    go : (b c : Bool) → index_in x (ss ++ ts) ≡ cond c (index_in x ss) (length ss + index_in x ts)
        → cond b 0 (index_in x (ss ++ ts) + 1) ≡ cond (b || c) (cond b 0 (index_in x ss + 1)) (suc (length ss) + index_in x ts)
    go true c h = refl
    go false true h = rw h
    go false false h = rw h (omega arith)

pub is_in_at : (x : List ℕ) (ss : List (List ℕ)) (k : ℕ) → k < length ss → get_or ss k [] ≡ x → is_in x ss ≡ true
unfolding is_in
is_in_at x [] k h e = absurd (omega arith)
is_in_at x (s ∷ ss) zero h e = rw (e, same_refl)
is_in_at x (s ∷ ss) (suc k) h e = go (same_bytes s x) (is_in_at x ss k (omega arith) e)
  where
    go : (b : Bool) → is_in x ss ≡ true → (b || is_in x ss) ≡ true
    go true i = refl
    go false i = i

pub is_in_none : (x : List ℕ) (ss : List (List ℕ)) (k : ℕ) → is_in x ss ≡ false → k < length ss → get_or ss k [] ≡ x → ⊥
is_in_none x ss k n h e = true≢false (sym (is_in_at x ss k h e) ∙ n)

pub none_is_in : (x : List ℕ) (ss : List (List ℕ)) → ((k : ℕ) → k < length ss → get_or ss k [] ≡ x → ⊥) → is_in x ss ≡ false
none_is_in x ss n = is_in_index_in x ss ∙ go (ltb (index_in x ss) (length ss)) refl
  where
    go : (b : Bool) → ltb (index_in x ss) (length ss) ≡ b → b ≡ false
    go true q = let h = ltb-true _ _ q in absurd (n (index_in x ss) h (index_in_found x ss h))
    go false q = refl
