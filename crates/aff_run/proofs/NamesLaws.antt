-- The names of a tree, each once: what one name more changes. By cases on whether it is one of them already. Assumes nothing.
use mathlib.Core.Path.{◌≡◌, refl, sym, ap, ◌∙◌}
use mathlib.Core.Bool.{Bool, true, false, cond}
use mathlib.Core.List.{List, [], ◌∷◌, ◌++◌, append_assoc}
use mathlib.Core.Logic.{⊎_elim}
use Prim.Native.Nat.{ℕ, ◌+◌, ◌≤◌, ◌<◌}
use native.Mathlib.Nat.{eq-or-lt_of_le}
use native.Mathlib.Omega.{arith}
use lib.ListN.{length, get_or, drop, length-append, get_or-append}
use lib.Seq.{get_or-append_seam, take_at, drop-append-add}
use borrow.Author.Tests.{ltb-true, ltb-false}
use Rattle.aff_format.specs.Bytes.{spliced}
use Rattle.aff_format.specs.Path.{Subkeys}
use Rattle.aff_format.specs.Strings.{is_in, index_in, text_of}
use Rattle.aff_format.specs.Subkey.{is_subkey}
use Rattle.aff_format.specs.Tree.{Node, Tree}
use Rattle.aff_format.specs.declared.edition.Edition.{Edition}
use Rattle.aff_format.proofs.PathLaws.{subkeys_more}
use Rattle.aff_format.proofs.StringsLaws.{text_of_snoc, length_text_of_snoc, index_in_within, index_in_found, is_in_index_in, is_in_none}
use Rattle.aff_run.specs.TreeSizes.{add_name, names_from, names_of}

-- A run stored after a front.
name_after : (p y rest : List ℕ) → spliced (length p) y (p ++ rest) ≡ (p ++ y) ++ drop (length y) rest
unfolding spliced
name_after p y rest = rw (take_at p rest (length p), drop-append-add, append_assoc)

module _ (names : List (List ℕ)) (x : List ℕ) where
  -- The names with x, where it is one of them or not.
  abbrev with_x : Bool → List (List ℕ)
  with_x b = cond b names (names ++ (x ∷ []))

  add_is : add_name names x ≡ with_x (is_in x names)
  unfolding add_name
  add_is = refl

  index_at : (b : Bool) → is_in x names ≡ b → (index_in x names < length (with_x b)) × (get_or (with_x b) (index_in x names) [] ≡ x)
  index_at true h =
      let l : index_in x names < length names = ltb-true (index_in x names) (length names) (sym (is_in_index_in x names) ∙ h) in
      (l, index_in_found x names l)
  index_at false h =
      let l : length names ≤ index_in x names = ltb-false (index_in x names) (length names) (sym (is_in_index_in x names) ∙ h) in
      let e : index_in x names ≡ length names = omega (arith, index_in_within x names) in
      (omega (arith, length-append names (x ∷ [])), rw e (get_or-append_seam names x [] []))

  pub index_in_lem : index_in x names < length (add_name names x)
  index_in_lem = rw add_is (index_at (is_in x names) refl).0

  pub index_name : get_or (add_name names x) (index_in x names) [] ≡ x
  index_name = rw add_is (index_at (is_in x names) refl).1

  pub length_add : length (add_name names x) ≡ length names + cond (is_in x names) 0 1
  length_add = rw add_is (go (is_in x names))
    where
      go : (b : Bool) → length (with_x b) ≡ length names + cond b 0 1
      go true = omega arith
      go false = length-append names (x ∷ [])

  pub text_add : length (text_of (add_name names x)) ≡ length (text_of names) + cond (is_in x names) 0 (length x + 1)
  text_add = rw add_is (go (is_in x names))
    where
      go : (b : Bool) → length (text_of (with_x b)) ≡ length (text_of names) + cond b 0 (length x + 1)
      go true = omega arith
      go false = length_text_of_snoc names x ∙ omega arith

  pub add_longer : length names ≤ length (add_name names x)
  add_longer = omega (arith, length_add)

  -- What was there stays there.
  pub add_old : (i : ℕ) → i < length names → get_or (add_name names x) i [] ≡ get_or names i []
  add_old i h = rw add_is (go (is_in x names))
    where
      go : (b : Bool) → get_or (with_x b) i [] ≡ get_or names i []
      go true = refl
      go false = get_or-append names (x ∷ []) [] i h

  -- The text area with the name stored after the text, unless it is one of the names. What is after it then was there before.
  pub text_stored : (rest : List ℕ) → (k : ℕ)
      × (cond (is_in x names) (text_of names ++ rest) (spliced (length (text_of names)) (x ++ (0 ∷ [])) (text_of names ++ rest)) ≡ text_of (add_name names x) ++ drop k rest)
  text_stored rest = rw add_is (go (is_in x names))
    where
      go : (b : Bool) → (k : ℕ)
          × (cond b (text_of names ++ rest) (spliced (length (text_of names)) (x ++ (0 ∷ [])) (text_of names ++ rest)) ≡ text_of (with_x b) ++ drop k rest)
      go true = (0, refl)
      go false = (length (x ++ (0 ∷ [])), name_after (text_of names) (x ++ (0 ∷ [])) rest ∙ ap (λ (l : List ℕ). l ++ drop (length (x ++ (0 ∷ []))) rest) (sym (text_of_snoc names x)))

  pub subkeys_add : (e : Edition) → Subkeys e names → is_subkey e x ≡ true → Subkeys e (add_name names x)
  subkeys_add e s h = rw add_is (go (is_in x names))
    where
      go : (b : Bool) → Subkeys e (with_x b)
      go true = s
      go false = subkeys_more e names x s h

  pub distinct_add : ((i k : ℕ) → i < k → k < length names → get_or names i [] ≡ get_or names k [] → ⊥)
      → (i k : ℕ) → i < k → k < length (add_name names x) → get_or (add_name names x) i [] ≡ get_or (add_name names x) k [] → ⊥
  distinct_add d = rw add_is (go (is_in x names) refl)
    where
      go : (b : Bool) → is_in x names ≡ b → (i k : ℕ) → i < k → k < length (with_x b) → get_or (with_x b) i [] ≡ get_or (with_x b) k [] → ⊥
      go true h i k l m e = d i k l m e
      go false h i k l m e =
          let n = length-append names (x ∷ []) in
          let at_most : k ≤ length names = omega arith in
          ⊎_elim
          (λ (q : k ≡ length names).
          is_in_none x names i h (omega arith)
          (sym (get_or-append names (x ∷ []) [] i (omega arith)) ∙ e ∙ ap (λ (j : ℕ). get_or (names ++ (x ∷ [])) j []) q ∙ get_or-append_seam names x [] []))
          (λ (q : k < length names). d i k l q (sym (get_or-append names (x ∷ []) [] i (omega arith)) ∙ e ∙ get_or-append names (x ∷ []) [] k q))
          (eq-or-lt_of_le at_most)

-- One node more.
names_from_lem : (names : List (List ℕ)) (tree : Tree) (t : Node) → names_from names (tree ++ (t ∷ [])) ≡ add_name (names_from names tree) t.name
unfolding names_from
names_from_lem names [] t = refl
names_from_lem names (s ∷ tree) t = names_from_lem (add_name names s.name) tree t

pub names_snoc : (tree : Tree) (t : Node) → names_of (tree ++ (t ∷ [])) ≡ add_name (names_of tree) t.name
names_snoc tree t = names_from_lem [] tree t
