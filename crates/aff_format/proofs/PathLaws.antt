-- Paths cut at their slashes: part by part, in the code's terms; what the grammar accepts is exactly `/` or subkeys joined by slashes.
use mathlib.Core.Path.{◌≡◌, refl, sym, ap, subst, ◌∙◌}
use mathlib.Core.Bool.{Bool, true, false, cond, true≢false}
use mathlib.Core.Logic.{◌↔◌}
use mathlib.Core.List.{List, [], ◌∷◌, ◌++◌, append_assoc, append-nil}
use Prim.Native.Nat.{ℕ, zero, suc, ◌+◌, ◌-◌, ◌<◌, ◌≤◌}
use native.Mathlib.Numerals.{add-one}
use native.Mathlib.Omega.{arith}
use lib.Dec.{eqb}
use lib.ListN.{length, get_or, take, drop, length-append, length-drop}
use lib.Seq.{drop-drop, length-take-le}
use borrow.Author.Tests.{eq-eqb, ne_eqb, eqb-true}
use Rattle.aff_format.specs.Bytes.{part, Without, EachWithout}
use Rattle.aff_format.specs.Subkey.{subkey_from, is_sound, is_subkey, shifted}
use Rattle.aff_format.specs.Path.{ahead, between_slashes, or_else, parts_from, after_slash, path_grammar, is_path, joined_path, Subkeys, WellFormed, root, subkeys}
use Rattle.aff_format.specs.passes.Counts.{until_slash}
use Rattle.aff_format.proofs.SubkeyLaws.{subkey_no_zero, subkey_no_slash, subkey_shift, sound_shift, sound_is}
use Rattle.aff_format.specs.declared.edition.Edition.{Edition}
use Rattle.std.specs.Prelude.{Option, Some, None}

-- The parts after the first.
unfoldable pub later_parts : List ℕ → List (List ℕ)
later_parts [] = []
later_parts (x ∷ l) = cond (eqb x 47) (between_slashes l) (later_parts l)

pub between_first : (l : List ℕ) → between_slashes l ≡ take (until_slash l) l ∷ later_parts l
unfolding between_slashes until_slash later_parts
between_first [] = refl
between_first (x ∷ l) = go (eqb x 47) (between_first l)
  where
    go : (b : Bool) → between_slashes l ≡ take (until_slash l) l ∷ later_parts l
        → cond b ([] ∷ between_slashes l) (ahead x (between_slashes l)) ≡ take (cond b 0 (until_slash l + 1)) (x ∷ l) ∷ cond b (between_slashes l) (later_parts l)
    go true h = refl
    go false h = rw (h, add-one)

pub later_none : (l : List ℕ) → length l ≤ until_slash l → later_parts l ≡ []
unfolding until_slash later_parts
later_none [] h = refl
later_none (x ∷ l) h = go (eqb x 47) h (later_none l)
  where
    go : (b : Bool) → suc (length l) ≤ cond b 0 (until_slash l + 1) → (length l ≤ until_slash l → later_parts l ≡ []) → cond b (between_slashes l) (later_parts l) ≡ []
    go true k ih = absurd (omega arith)
    go false k ih = ih (omega arith)

pub later_some : (l : List ℕ) → until_slash l < length l → later_parts l ≡ between_slashes (drop (until_slash l + 1) l)
unfolding until_slash later_parts
later_some [] h = absurd (omega arith)
later_some (x ∷ l) h = go (eqb x 47) h (later_some l)
  where
    go : (b : Bool) → cond b 0 (until_slash l + 1) < suc (length l) → (until_slash l < length l → later_parts l ≡ between_slashes (drop (until_slash l + 1) l))
        → cond b (between_slashes l) (later_parts l) ≡ between_slashes (drop (cond b 0 (until_slash l + 1) + 1) (x ∷ l))
    go true k ih = refl
    go false k ih = rw (add-one (until_slash l + 1)) (ih (omega arith))

-- A part of a path from place at up to the next slash, at end, in which the rule finds r, counted from the part's first byte.
module _ (e : Edition) (l : List ℕ) (at end : ℕ) (r : Option ℕ) (found : end ≡ at + until_slash (drop at l)) (finds : r ≡ subkey_from e 0 (part at (end - at) l)) where
  first_part : parts_from e at (between_slashes (drop at l)) ≡ or_else (shifted at r) (parts_from e (at + length (part at (end - at) l) + 1) (later_parts (drop at l)))
  unfolding parts_from
  first_part = let n : end - at ≡ until_slash (drop at l) = omega arith in rw (finds, ← subkey_shift e at, n, between_first)

  pub parts_break : (place : ℕ) → r ≡ Some place → parts_from e at (between_slashes (drop at l)) ≡ Some (at + place)
  parts_break place h = first_part ∙ rw h

  pub parts_last : r ≡ None → end ≡ length l → parts_from e at (between_slashes (drop at l)) ≡ None
  unfolding parts_from
  parts_last h q = let k : length (drop at l) ≤ until_slash (drop at l) = simp length-drop (omega arith) in first_part ∙ rw (h, later_none (drop at l))

  pub parts_next : r ≡ None → end < length l → parts_from e at (between_slashes (drop at l)) ≡ parts_from e (end + 1) (between_slashes (drop (end + 1) l))
  parts_next h q =
      let k : until_slash (drop at l) < length (drop at l) = simp length-drop (omega arith) in
      let w : end - at ≤ length (drop at l) = simp length-drop (omega arith) in
      let n : at + (end - at) + 1 ≡ end + 1 = omega arith in
      let d : at + (until_slash (drop at l) + 1) ≡ end + 1 = omega arith in
      first_part ∙ rw (h, length-take-le (end - at) (drop at l), n, later_some (drop at l), drop-drop, d)

-- The grammar at a path's first byte.
pub grammar_empty : (e : Edition) (l : List ℕ) → length l ≡ 0 → path_grammar e l ≡ Some 0
unfolding path_grammar
grammar_empty e [] h = refl
grammar_empty e (x ∷ l) h = absurd (omega arith)

pub grammar_start : (e : Edition) (l : List ℕ) → (get_or l 0 0 ≡ 47 → ⊥) → path_grammar e l ≡ Some 0
unfolding path_grammar
grammar_start e [] n = refl
grammar_start e (x ∷ l) n = rw (ne_eqb x 47)

pub grammar_root : (e : Edition) (l : List ℕ) → get_or l 0 0 ≡ 47 → length l ≡ 1 → path_grammar e l ≡ None
unfolding path_grammar
grammar_root e [] q h = absurd (omega arith)
grammar_root e (x ∷ []) q h = rw (eq-eqb x 47)
grammar_root e (x ∷ y ∷ l) q h = absurd (omega arith)

pub grammar_parts : (e : Edition) (l : List ℕ) → get_or l 0 0 ≡ 47 → 1 < length l → path_grammar e l ≡ parts_from e 1 (between_slashes (drop 1 l))
unfolding path_grammar
grammar_parts e [] q h = absurd (omega arith)
grammar_parts e (x ∷ []) q h = absurd (omega arith)
grammar_parts e (x ∷ y ∷ l) q h = rw (eq-eqb x 47)

-- At the first slash of a run there is one.
pub until_slash_lem : (l : List ℕ) → until_slash l < length l → get_or l (until_slash l) 0 ≡ 47
unfolding until_slash
until_slash_lem [] h = absurd (omega arith)
until_slash_lem (x ∷ l) h = go (eqb x 47) refl h (until_slash_lem l)
  where
    go : (b : Bool) → eqb x 47 ≡ b → cond b 0 (until_slash l + 1) < suc (length l) → (until_slash l < length l → get_or l (until_slash l) 0 ≡ 47)
        → get_or (x ∷ l) (cond b 0 (until_slash l + 1)) 0 ≡ 47
    go true q k ih = eqb-true x 47 q
    go false q k ih = rw add-one (ih (omega arith))

-- Paths joined.
pub joined_append : (ks js : List (List ℕ)) → joined_path (ks ++ js) ≡ joined_path ks ++ joined_path js
unfolding joined_path
joined_append [] js = refl
joined_append (k ∷ ks) js = rw (joined_append ks js, append_assoc)

pub joined_more : (ks : List (List ℕ)) (k : List ℕ) → joined_path (ks ++ (k ∷ [])) ≡ joined_path ks ++ (47 ∷ k)
unfolding joined_path
joined_more ks k = joined_append ks (k ∷ []) ∙ rw append-nil

pub joined_between : (l : List ℕ) → joined_path (between_slashes l) ≡ 47 ∷ l
unfolding joined_path between_slashes
joined_between [] = refl
joined_between (x ∷ l) = go (eqb x 47) refl (between_slashes l) (joined_between l)
  where
    go : (b : Bool) → eqb x 47 ≡ b → (ps : List (List ℕ)) → joined_path ps ≡ 47 ∷ l → joined_path (cond b ([] ∷ ps) (ahead x ps)) ≡ 47 ∷ x ∷ l
    go true q ps h = rw (h, eqb-true x 47 q)
    go false q [] h = absurd cc
    go false q (p ∷ ps) h = let t : p ++ joined_path ps ≡ l = cc in rw t

between_one : (k r : List ℕ) (ps : List (List ℕ)) → Without 47 k → between_slashes r ≡ [] ∷ ps → between_slashes (k ++ r) ≡ k ∷ ps
unfolding between_slashes
between_one [] r ps w h = h
between_one (x ∷ k) r ps w h = rw (w.0, between_one k r ps w.1 h)

pub between_joined : (k : List ℕ) (ks : List (List ℕ)) → EachWithout 47 (k ∷ ks) → between_slashes (k ++ joined_path ks) ≡ k ∷ ks
unfolding joined_path between_slashes
between_joined k [] w = between_one k [] [] w.0 refl
between_joined k (j ∷ js) w =
    between_one k (47 ∷ (j ++ joined_path js)) (j ∷ js) w.0 (ap (λ (ps : List (List ℕ)). [] ∷ ps) (between_joined j js w.1))

pub subkeys_without : (e : Edition) (ks : List (List ℕ)) → Subkeys e ks → EachWithout 47 ks
subkeys_without e [] s = tt
subkeys_without e (k ∷ ks) s = (subkey_no_slash e k s.0, subkeys_without e ks s.1)

pub subkeys_no_zero : (e : Edition) (ks : List (List ℕ)) → Subkeys e ks → EachWithout 0 ks
subkeys_no_zero e [] s = tt
subkeys_no_zero e (k ∷ ks) s = (subkey_no_zero e k s.0, subkeys_no_zero e ks s.1)

pub subkeys_at : (e : Edition) (ks : List (List ℕ)) → Subkeys e ks → (i : ℕ) → i < length ks → is_subkey e (get_or ks i []) ≡ true
subkeys_at e [] s i h = absurd (omega arith)
subkeys_at e (k ∷ ks) s zero h = s.0
subkeys_at e (k ∷ ks) s (suc i) h = subkeys_at e ks s.1 i (omega arith)

pub subkeys_more : (e : Edition) (ks : List (List ℕ)) (k : List ℕ) → Subkeys e ks → is_subkey e k ≡ true → Subkeys e (ks ++ (k ∷ []))
subkeys_more e [] k s h = (h, tt)
subkeys_more e (j ∷ ks) k s h = (s.0, subkeys_more e ks k s.1 h)

-- What ends in a slash and a text without one is determined by its last slash.
slash_in : (front text : List ℕ) → Without 47 (front ++ (47 ∷ text)) → ⊥
slash_in [] text w = true≢false w.0
slash_in (x ∷ front) text w = slash_in front text w.1

pub ends_in_slash : (front text : List ℕ) → front ++ (47 ∷ text) ≡ [] → ⊥
ends_in_slash front text e = let n = length-append front (47 ∷ text) in let z = ap length e in omega arith

pub last_slash : (f g a b : List ℕ) → Without 47 a → Without 47 b → f ++ (47 ∷ a) ≡ g ++ (47 ∷ b) → (f ≡ g) × (a ≡ b)
last_slash [] [] a b w v e = (refl, cc)
last_slash [] (y ∷ g) a b w v e = let q : a ≡ g ++ (47 ∷ b) = cc in absurd (slash_in g b (subst (Without 47) q w))
last_slash (x ∷ f) [] a b w v e = let q : b ≡ f ++ (47 ∷ a) = cc in absurd (slash_in f a (subst (Without 47) q v))
last_slash (x ∷ f) (y ∷ g) a b w v e =
    let p : x ≡ y = cc in
    let q : f ++ (47 ∷ a) ≡ g ++ (47 ∷ b) = cc in
    let (r, t) = last_slash f g a b w v q in
    (rw (p, r), t)

-- Parts without a fault are subkeys.
pub parts_subkeys : (e : Edition) (at : ℕ) (ps : List (List ℕ)) → is_sound (parts_from e at ps) ≡ true → Subkeys e ps
unfolding parts_from
parts_subkeys e at [] h = tt
parts_subkeys e at (p ∷ ps) h = go (subkey_from e at p) refl h (parts_subkeys e (at + length p + 1) ps)
  where
    go : (g : Option ℕ) → subkey_from e at p ≡ g → is_sound (or_else g (parts_from e (at + length p + 1) ps)) ≡ true
        → (is_sound (parts_from e (at + length p + 1) ps) ≡ true → Subkeys e ps) → Subkeys e (p ∷ ps)
    go None q s ih = (sym (sound_shift e at p) ∙ ap is_sound q, ih s)
    go (Some place) q s ih = absurd (true≢false (sym s))

pub subkeys_parts : (e : Edition) (at : ℕ) (ps : List (List ℕ)) → Subkeys e ps → parts_from e at ps ≡ None
unfolding parts_from
subkeys_parts e at [] s = refl
subkeys_parts e at (p ∷ ps) s =
    rw (sound_is (subkey_from e at p) (sound_shift e at p ∙ s.0)) (subkeys_parts e (at + length p + 1) ps s.1)

-- What the grammar accepts is a path.
pub path_sound : (e : Edition) (l : List ℕ) → is_path e l ≡ true → WellFormed e l
unfolding path_grammar
path_sound e [] h = absurd (true≢false (sym h))
path_sound e (x ∷ l) h = go (eqb x 47) refl l h
  where
    go : (b : Bool) → eqb x 47 ≡ b → (l : List ℕ) → is_sound (cond b (after_slash e l) (Some 0)) ≡ true → WellFormed e (x ∷ l)
    go true q [] s = root (ap (λ (y : ℕ). y ∷ []) (eqb-true x 47 q))
    go true q (y ∷ l) s =
        let f : between_slashes (y ∷ l) ≡ take (until_slash (y ∷ l)) (y ∷ l) ∷ later_parts (y ∷ l) = between_first (y ∷ l) in
        subkeys (take (until_slash (y ∷ l)) (y ∷ l)) (later_parts (y ∷ l)) (rw f at (parts_subkeys e 1 (between_slashes (y ∷ l)) s))
        (ap (λ (z : ℕ). z ∷ y ∷ l) (eqb-true x 47 q) ∙ sym (joined_between (y ∷ l)) ∙ ap joined_path f)
    go false q l s = absurd (true≢false (sym s))

subkeys_path : (e : Edition) (k : List ℕ) (ks : List (List ℕ)) → Subkeys e (k ∷ ks) → is_path e (joined_path (k ∷ ks)) ≡ true
unfolding joined_path path_grammar subkey_from
subkeys_path e [] ks s = absurd (true≢false (sym s.0))
subkeys_path e (x ∷ k) ks s =
    rw (between_joined (x ∷ k) ks (subkeys_without e ((x ∷ k) ∷ ks) s), subkeys_parts e 1 ((x ∷ k) ∷ ks) s)

-- And each path is accepted.
pub path_complete : (e : Edition) (l : List ℕ) → WellFormed e l → is_path e l ≡ true
unfolding path_grammar
path_complete e l (root q) = rw q
path_complete e l (subkeys k ks s q) = rw q (subkeys_path e k ks s)

pub path_exact : (e : Edition) (l : List ℕ) → (is_path e l ≡ true) ↔ WellFormed e l
path_exact e l = (path_sound e l, path_complete e l)
