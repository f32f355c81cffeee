-- How far the path of a node goes along a given path: by its parent's fit, and whether it is the whole path. Assumes nothing.
use mathlib.Core.Path.{◌≡◌, refl, sym, ap, ◌∙◌}
use mathlib.Core.Bool.{Bool, true, false}
use mathlib.Core.List.{List, [], ◌∷◌, ◌++◌}
use mathlib.Core.Logic.{⊎_elim}
use Prim.Native.Nat.{ℕ, zero, suc, ◌+◌, ◌-◌, ◌≤◌, ◌<◌}
use native.Mathlib.Nat.{add-zero, zero-add, eq-zero-or-pos}
use native.Mathlib.Omega.{arith}
use lib.Dec.{eqb}
use lib.ListN.{length, get_or, drop, set, replicate, length-set, length-replicate, get_or-replicate, drop_of_length-le}
use lib.Seq.{get_or-set_same, get_or-set_other}
use borrow.Author.Tests.{eq-eqb, ne_eqb, eqb-true}
use Rattle.aff_format.specs.Bytes.{same_bytes}
use Rattle.aff_format.specs.Strings.{up_to_zero}
use Rattle.aff_format.specs.Tree.{reaches_by}
use Rattle.aff_format.proofs.ClimbLaws.{reaches_up}
use Rattle.aff_format.proofs.TreeLaws.{front_root, front_step}
use Rattle.aff_reader.specs.Belongs.{ReaderBelongs}
use Rattle.aff_reader.specs.declared.reader.Reader.{Reader}
use Rattle.aff_read.specs.passes.Fit.{fit_from, fit_at, settled_at, FitsSettled}
use Rattle.aff_read.specs.passes.Settled.{settled_by}
use Rattle.std.specs.Prelude.{Option, Some, None, IfSome}
use Rattle.std.specs.Option.{option_eq}
use Rattle.std.proofs.lemmas.Option.{none-some, same_Some}
use Rattle.std.proofs.lemmas.List.{drop_more}
use Rattle.aff_nodes.specs.Recall.{parent_at, name_at, path_at}
use Rattle.aff_read.proofs.FrontLaws.{front_at, path_other}
use Rattle.aff_spelling.specs.declared.spelling.Spelling.TheVariants.{Raw}

-- A text fits or it does not, and so does what begins with it.
data Fit (text path : List ℕ) (n : ℕ) : Type 0 where
  other : fit_from text path n ≡ None → ((more : List ℕ) → fit_from (text ++ more) path n ≡ None) → Fit text path n
  fits : length text ≤ length path → fit_from text path n ≡ Some (n + length text)
      → ((more : List ℕ) → fit_from (text ++ more) path n ≡ fit_from more (drop (length text) path) (n + length text)) → Fit text path n

fit_step : (x y : ℕ) (text path : List ℕ) (n : ℕ) (b : Bool) → eqb x y ≡ b → Fit text path (n + 1) → Fit (x ∷ text) (y ∷ path) n
unfolding fit_from
fit_step x y text path n false h f = other (rw h) (λ more. rw h)
fit_step x y text path n true h (other e more) = other (rw h e) (λ l. rw h (more l))
fit_step x y text path n true h (fits few e more) =
    let s : n + 1 + length text ≡ n + length (x ∷ text) = omega arith in
    fits (omega arith) (rw h (e ∙ ap Some s)) (λ l. rw h (more l ∙ ap (λ (m : ℕ). fit_from l (drop (length text) path) m) s))

fit_of : (text path : List ℕ) (n : ℕ) → Fit text path n
unfolding fit_from
fit_of [] path n = fits (omega arith) (rw add-zero) (λ more. rw add-zero)
fit_of (x ∷ text) [] n = other refl (λ more. refl)
fit_of (x ∷ text) (y ∷ path) n = fit_step x y text path n (eqb x y) refl (fit_of text path (n + 1))

-- It is the whole path where it fits with all its bytes.
whole_step : (x y : ℕ) (text path : List ℕ) (n m : ℕ) (b : Bool) → eqb x y ≡ b → option_eq eqb (fit_from text path (n + 1)) (Some m) ≡ same_bytes text path
    → option_eq eqb (fit_from (x ∷ text) (y ∷ path) n) (Some m) ≡ same_bytes (x ∷ text) (y ∷ path)
unfolding fit_from same_bytes
whole_step x y text path n m true h e = rw h e
whole_step x y text path n m false h e = rw h

fits_whole : (text path : List ℕ) (n m : ℕ) → m ≡ n + length path → option_eq eqb (fit_from text path n) (Some m) ≡ same_bytes text path
unfolding fit_from same_bytes
fits_whole [] [] n m h = eq-eqb n m (omega arith)
fits_whole [] (y ∷ path) n m h = ne_eqb n m (λ q. omega arith)
fits_whole (x ∷ text) [] n m h = refl
fits_whole (x ∷ text) (y ∷ path) n m h = whole_step x y text path n m (eqb x y) refl (fits_whole text path (n + 1) m (omega arith))

-- A byte and a text against the path from a place on.
module _ (x : ℕ) (text path : List ℕ) (at : ℕ) where
  fit_end : length path ≤ at → None ≡ fit_from (x ∷ text) (drop at path) at
  unfolding fit_from
  fit_end h = rw (drop_of_length-le path h)

  fit_differs : at < length path → (x ≡ get_or path at 0 → ⊥) → None ≡ fit_from (x ∷ text) (drop at path) at
  unfolding fit_from
  fit_differs h n = rw (drop_more path at 0 h, ne_eqb x (get_or path at 0) n)

  fit_on : at < length path → x ≡ get_or path at 0 → fit_from text (drop (at + 1) path) (at + 1) ≡ fit_from (x ∷ text) (drop at path) at
  unfolding fit_from
  fit_on h e = rw (drop_more path at 0 h, eq-eqb x (get_or path at 0) e)

-- The string that some bytes begin with, as a loop sees it: at byte k of them, and byte n of the path.
module _ (bytes : List ℕ) (k : ℕ) (path : List ℕ) (n : ℕ) where
  pub name_ends : length bytes ≤ k → Some n ≡ fit_from (up_to_zero (drop k bytes)) (drop n path) n
  unfolding fit_from up_to_zero
  name_ends h = rw (drop_of_length-le bytes h)

  module _ (within : k < length bytes) where
    pub name_fits : get_or bytes k 0 ≡ 0 → Some n ≡ fit_from (up_to_zero (drop k bytes)) (drop n path) n
    unfolding fit_from up_to_zero
    name_fits z = rw (drop_more bytes k 0 within, eq-eqb (get_or bytes k 0) 0 z)

    module _ (more : get_or bytes k 0 ≡ 0 → ⊥) where
      name_on : up_to_zero (drop k bytes) ≡ get_or bytes k 0 ∷ up_to_zero (drop (k + 1) bytes)
      unfolding up_to_zero
      name_on = rw (drop_more bytes k 0 within, ne_eqb (get_or bytes k 0) 0 more)

      pub name_cut : length path ≤ n → None ≡ fit_from (up_to_zero (drop k bytes)) (drop n path) n
      name_cut h = rw name_on (fit_end _ _ path n h)

      pub name_differs : n < length path → (get_or bytes k 0 ≡ get_or path n 0 → ⊥) → None ≡ fit_from (up_to_zero (drop k bytes)) (drop n path) n
      name_differs h d = rw name_on (fit_differs _ _ path n h d)

      pub name_goes_on : n < length path → get_or bytes k 0 ≡ get_or path n 0
          → fit_from (up_to_zero (drop (k + 1) bytes)) (drop (n + 1) path) (n + 1) ≡ fit_from (up_to_zero (drop k bytes)) (drop n path) n
      name_goes_on h e = rw name_on (fit_on _ _ path n h e)

-- What begins with a text whose fit is known.
module _ (front more path : List ℕ) where
  fit_none : None ≡ fit_from front path 0 → None ≡ fit_from (front ++ more) path 0
  fit_none h = go (fit_of front path 0)
    where
      go : Fit front path 0 → None ≡ fit_from (front ++ more) path 0
      go (other _ f) = sym (f more)
      go (fits _ e _) = absurd (none-some _ (h ∙ e))

  fit_more : (n : ℕ) → Some n ≡ fit_from front path 0 → (n ≤ length path) × (fit_from (front ++ more) path 0 ≡ fit_from more (drop n path) n)
  fit_more n h = go (fit_of front path 0)
    where
      go : Fit front path 0 → (n ≤ length path) × (fit_from (front ++ more) path 0 ≡ fit_from more (drop n path) n)
      go (other e _) = absurd (none-some _ (sym (h ∙ e)))
      go (fits few e f) =
          let a : length front ≡ n = sym (same_Some _ _ (h ∙ e) ∙ zero-add (length front)) in
          (omega arith, rw (← a) (f more ∙ ap (fit_from more (drop (length front) path)) (zero-add (length front))))

-- The fit of a node that is not the root, by its parent's.
module _ {image : List ℕ} {reader : Reader} {strings entries : List ℕ} (b : ReaderBelongs image reader strings entries)
    (path : List ℕ) (node : ℕ) (there : node ≤ reader.nodes) (other-node : 0 < node) where
  abbrev front : List ℕ
  front = front_at Raw image reader strings entries (parent_at image entries node)

  abbrev own : List ℕ
  own = name_at image reader strings entries node

  fit_is : fit_at image reader strings entries path node ≡ fit_from (front ++ (47 ∷ own)) path 0
  unfolding fit_at
  fit_is =
      ap (λ (l : List ℕ). fit_from l path 0)
      (front_step (parent_at image entries) (name_at image reader strings entries) reader.nodes node (λ q. omega arith) (b.climb_ends node other-node there))

  pub below_none : None ≡ fit_at image reader strings entries path (parent_at image entries node) → None ≡ fit_at image reader strings entries path node
  unfolding fit_at
  below_none h = fit_none front (47 ∷ own) path h ∙ sym fit_is

  module _ (n : ℕ) (reported : Some n ≡ fit_at image reader strings entries path (parent_at image entries node)) where
    below_more : (n ≤ length path) × (fit_from (front ++ (47 ∷ own)) path 0 ≡ fit_from (47 ∷ own) (drop n path) n)
    unfolding fit_at
    below_more = fit_more front (47 ∷ own) path n reported

    pub below_end : length path ≤ n → None ≡ fit_at image reader strings entries path node
    below_end h = fit_end 47 own path n h ∙ sym below_more.1 ∙ sym fit_is

    module _ (inside : n < length path) where
      pub below_other : (get_or path n 0 ≡ 47 → ⊥) → None ≡ fit_at image reader strings entries path node
      below_other d = fit_differs 47 own path n inside (λ q. d (sym q)) ∙ sym below_more.1 ∙ sym fit_is

      pub below_slash : get_or path n 0 ≡ 47 → (name : List ℕ) → name ≡ own
          → fit_from name (drop (n + 1) path) (n + 1) ≡ fit_at image reader strings entries path node
      below_slash e name is = rw is (fit_on 47 own path n inside (sym e)) ∙ sym below_more.1 ∙ sym fit_is

module _ (image : List ℕ) (reader : Reader) (strings entries path : List ℕ) where
  pub other_has : (node : ℕ) (fit : Option ℕ) → (node ≡ 0 → ⊥) → fit ≡ fit_at image reader strings entries path node
      → option_eq eqb fit (Some (length path)) ≡ same_bytes (path_at image reader strings entries node) path
  unfolding fit_at
  other_has node fit n is =
      rw (is, path_other Raw image reader strings entries node n)
      (fits_whole (front_at Raw image reader strings entries node) path 0 (length path) (omega arith))

  -- A fit lies in the path.
  pub fit_inside : (node : ℕ) (fit : Option ℕ) → fit ≡ fit_at image reader strings entries path node → (m : ℕ) → length path < m → IfSome fit (λ n. n < m)
  unfolding fit_at
  fit_inside node None is m short = tt
  fit_inside node (Some n) is m short = go (fit_of (front_at Raw image reader strings entries node) path 0)
    where
      go : Fit (front_at Raw image reader strings entries node) path 0 → n < m
      go (other e _) = absurd (none-some _ (sym (is ∙ e)))
      go (fits few e _) = let a = same_Some _ _ (is ∙ e) in omega arith

  -- At first the root alone is settled.
  pub settled_first : (n : ℕ) → reader.nodes < n → (none first : Option (Option ℕ)) → none ≡ None → first ≡ Some (Some 0)
      → FitsSettled image reader strings entries path (set (replicate n none) 0 first)
  unfolding fit_at fit_from
  settled_first n h none first none_is first_is =
      let unknown : List (Option (Option ℕ)) = replicate n none in
      let long : length unknown ≡ n = length-replicate {A = Option (Option ℕ)} n none in
      let root : settled_at (set unknown 0 first) 0 ≡ Some (Some 0) = get_or-set_same unknown 0 first None (omega arith) ∙ first_is in
      record {
        wide = omega (arith, length-set unknown 0 first);
        root = λ q. none-some _ (sym q ∙ root);
        reported = λ k f m e.
            ⊎_elim (λ (z : k ≡ 0). rw (z, front_root (parent_at image entries) (name_at image reader strings entries) reader.nodes)
            (sym (same_Some _ _ (sym root ∙ ap (settled_at (set unknown 0 first)) (sym z) ∙ e))))
            (λ (l : 0 < k).
            absurd (none-some _ (sym (get_or-set_other unknown 0 k first None (λ q. omega arith)
            ∙ get_or-replicate {A = Option (Option ℕ)} n k none None (omega arith) ∙ none_is) ∙ e)))
            (eq-zero-or-pos k);
      }

-- What a number in the table of a lookup stands for.
pub settled_more : (n : ℕ) → settled_by (n + 2) ≡ Some (Some n)
settled_more n = let e : n + 2 ≡ suc (suc n) = omega arith in rw e refl

pub settled_past : (k : ℕ) → (k ≡ 0 → ⊥) → (k ≡ 1 → ⊥) → settled_by k ≡ Some (Some (k - 2))
settled_past zero z o = absurd (z refl)
settled_past (suc zero) z o = absurd (o refl)
settled_past (suc (suc n)) z o = let e : suc (suc n) - 2 ≡ n = omega arith in rw e refl

-- The climb from a node that is not settled goes on.
pub climb_left : (parent : ℕ → ℕ) (left node p : ℕ) → 0 < node → p ≡ parent node → reaches_by parent left node ≡ true
    → (0 < left) × (reaches_by parent (left - 1) p ≡ true)
unfolding reaches_by
climb_left parent zero node p h up e = absurd (let z = eqb-true node 0 e in omega arith)
climb_left parent (suc left) node p h up e =
    let s : suc left - 1 ≡ left = omega arith in
    (omega arith, rw (s, up) (sym (reaches_up parent left node (λ q. omega arith)) ∙ e))
