-- What is printed for a name: printable bytes only, another text for another name, a subkey of edition 1 or 2 as it is, and a path by its names. Byte by
-- byte, by whether the byte is printed as it is. Assumes nothing.
use mathlib.Core.Path.{◌≡◌, refl, sym, ap, ap₂, ◌∙◌}
use mathlib.Core.Bool.{Bool, true, false, cond, not, ◌&&◌, ◌||◌, true≢false}
use mathlib.Core.List.{List, [], ◌∷◌, ◌++◌, append_assoc, append-nil}
use mathlib.Core.Logic.{◌⊎◌, inl, inr, ⊎_elim}
use Prim.Native.Nat.{ℕ, zero, suc, ◌+◌, ◌*◌, ◌/◌, ◌%◌, ◌≤◌, ◌<◌}
use native.Mathlib.Omega.{arith}
use lib.Dec.{eqb, ltb, leb}
use lib.ListN.{length, get_or}
use borrow.Author.Tests.{not-true, leb-true, eqb-true, eqb-false, ltb-true, ltb-false, le-leb, ne_eqb}
use Rattle.aff_format.specs.Bytes.{Octets}
use Rattle.aff_format.specs.Lowest.{lowest_from}
use Rattle.aff_format.specs.Subkey.{is_letter, is_digit, narrow_first, narrow_next, is_subkey, may_begin, may_follow, AllFollow, IsSubkey}
use Rattle.aff_format.specs.Tree.{front_by, path_by}
use Rattle.aff_format.specs.declared.edition.Edition.{Edition}
use Rattle.aff_format.specs.declared.edition.Edition.TheVariants.{One, Two}
use Rattle.std.specs.Prelude.{None}
use Rattle.aff_format.proofs.BreaksLaws.{subkey_exact}
use Rattle.aff_format.proofs.LowestLaws.{none_holds}
use Rattle.aff_format.proofs.TestLaws.{both}
use Rattle.aff_spelling.specs.Spelling.{hex_digit, hex_digits, is_plain, shown_byte, shown, Printable, Escapes}

-- ---- One byte.

plain_is : (x : ℕ) → is_plain x ≡ true → (33 ≤ x) × (x ≤ 126) × (x ≡ 92 → ⊥)
unfolding is_plain
plain_is x h =
    let (a, t) = both (leb 33 x) _ h in
    let (b, c) = both (leb x 126) _ t in
    (leb-true 33 x a, leb-true x 126 b, eqb-false x 92 (not-true (eqb x 92) c))

is_plain_lem : (x : ℕ) → 33 ≤ x → x ≤ 126 → (x ≡ 92 → ⊥) → is_plain x ≡ true
unfolding is_plain
is_plain_lem x a b c = rw (le-leb 33 x a, le-leb x 126 b, ne_eqb x 92 c)

digit_by : {A : Type 0} (n : ℕ) → (n < 10 → hex_digit n ≡ 48 + n → A) → (10 ≤ n → hex_digit n ≡ 87 + n → A) → A
unfolding hex_digit
digit_by {A} n f g = go (ltb n 10) refl
  where
    go : (b : Bool) → ltb n 10 ≡ b → A
    go true e = f (ltb-true n 10 e) (rw e)
    go false e = g (ltb-false n 10 e) (rw e)

-- A hex digit is a printable character, and another digit another one.
digit_range : (n : ℕ) → n < 16 → (33 ≤ hex_digit n) × (hex_digit n ≤ 126)
digit_range n h = digit_by n (λ l e. omega arith) (λ l e. omega arith)

digit_same : (m n : ℕ) → m < 16 → n < 16 → hex_digit m ≡ hex_digit n → m ≡ n
digit_same m n k l h =
    digit_by m (λ i d. digit_by n (λ j e. omega arith) (λ j e. absurd (omega arith))) (λ i d. digit_by n (λ j e. absurd (omega arith)) (λ j e. omega arith))

-- What is printed for a byte x and then for others, by whether x is printed as it is.
abbrev before : Bool → ℕ → List ℕ → List ℕ
before plain x l = cond plain (x ∷ []) (92 ∷ 120 ∷ hex_digit (x / 16) ∷ hex_digit (x % 16) ∷ []) ++ l

-- ---- Printable bytes.

printable_cons : (x : ℕ) (l : List ℕ) → (33 ≤ x) × (x ≤ 126) → Printable l → Printable (x ∷ l)
printable_cons x l h p zero s = h
printable_cons x l h p (suc i) s = p i (omega arith)

pub shown_printable : (l : List ℕ) → Octets l → Printable (shown l)
unfolding shown shown_byte
shown_printable [] o = λ i h. absurd (omega arith)
shown_printable (x ∷ l) o = go (is_plain x) refl (shown_printable l (λ i. o (suc i)))
  where
    go : (b : Bool) → is_plain x ≡ b → Printable (shown l) → Printable (before b x (shown l))
    go true e p = let (a, c, _) = plain_is x e in printable_cons x (shown l) (a, c) p
    go false e p =
        let s : x < 256 = o 0 in
        let low = hex_digit (x % 16) ∷ shown l in
        let high = hex_digit (x / 16) ∷ low in
        printable_cons 92 (120 ∷ high) (omega arith, omega arith)
        (printable_cons 120 high (omega arith, omega arith)
        (printable_cons (hex_digit (x / 16)) low (digit_range (x / 16) (omega arith)) (printable_cons (hex_digit (x % 16)) (shown l) (digit_range (x % 16) (omega arith)) p)))

-- ---- One to one.

cons_same : {x y : ℕ} {l m : List ℕ} → x ∷ l ≡ y ∷ m → (x ≡ y) × (l ≡ m)
cons_same h = (cc, cc)

-- Where a byte of each list begins, the same byte begins both.
begins_alike : (x y : ℕ) (l m : List ℕ) (b c : Bool) → x < 256 → y < 256 → is_plain x ≡ b → is_plain y ≡ c → before b x l ≡ before c y m → (x ≡ y) × (l ≡ m)
begins_alike x y l m true true s t d e h = cons_same h
begins_alike x y l m true false s t d e h = absurd ((plain_is x d).2 (cons_same h).0)
begins_alike x y l m false true s t d e h = absurd ((plain_is y e).2 (sym (cons_same h).0))
begins_alike x y l m false false s t d e h =
    let (high, i) = cons_same (cons_same (cons_same h).1).1 in
    let (low, j) = cons_same i in
    let u = digit_same (x / 16) (y / 16) (omega arith) (omega arith) high in
    let v = digit_same (x % 16) (y % 16) (omega arith) (omega arith) low in
    (omega arith, j)

pub shown_injective : (l m : List ℕ) → Octets l → Octets m → shown l ≡ shown m → l ≡ m
unfolding shown shown_byte
shown_injective [] [] o p h = refl
shown_injective [] (y ∷ m) o p h = absurd (none (is_plain y) h)
  where
    none : (b : Bool) → [] ≡ before b y (shown m) → ⊥
    none true e = let z = ap length e in omega arith
    none false e = let z = ap length e in omega arith
shown_injective (x ∷ l) [] o p h = absurd (none (is_plain x) h)
  where
    none : (b : Bool) → before b x (shown l) ≡ [] → ⊥
    none true e = let z = ap length e in omega arith
    none false e = let z = ap length e in omega arith
shown_injective (x ∷ l) (y ∷ m) o p h =
    let (e, q) = begins_alike x y (shown l) (shown m) (is_plain x) (is_plain y) (o 0) (p 0) refl refl h in
    ap₂ (λ (z : ℕ) (k : List ℕ). z ∷ k) e (shown_injective l m (λ i. o (suc i)) (λ i. p (suc i)) q)

-- ---- Lengths.

pub length_shown : (l : List ℕ) → (length l ≤ length (shown l)) × (length (shown l) ≤ 4 * length l)
unfolding shown shown_byte
length_shown [] = omega arith
length_shown (x ∷ l) = go (is_plain x) (length_shown l)
  where
    go : (b : Bool) → (length l ≤ length (shown l)) × (length (shown l) ≤ 4 * length l)
        → (suc (length l) ≤ length (before b x (shown l))) × (length (before b x (shown l)) ≤ 4 * suc (length l))
    go true h = omega arith
    go false h = omega arith

-- ---- Lists in parts, and paths.

pub shown_append : (l m : List ℕ) → shown (l ++ m) ≡ shown l ++ shown m
unfolding shown
shown_append [] m = refl
shown_append (x ∷ l) m = ap (λ (k : List ℕ). shown_byte x ++ k) (shown_append l m) ∙ sym (append_assoc (shown_byte x) (shown l) (shown m))

pub shown_one : (x : ℕ) → shown (x ∷ []) ≡ shown_byte x
unfolding shown
shown_one x = simp append-nil

shown_nil : shown [] ≡ []
unfolding shown
shown_nil = refl

-- A byte that is printed as it is, before others.
shown_plain : (x : ℕ) (l : List ℕ) → is_plain x ≡ true → shown (x ∷ l) ≡ x ∷ shown l
unfolding shown shown_byte
shown_plain x l h = rw h

slash_plain : is_plain 47 ≡ true
unfolding is_plain
slash_plain = refl

module _ (parent : ℕ → ℕ) (name : ℕ → List ℕ) where
  shown_front : (steps n : ℕ) → shown (front_by parent name steps n) ≡ front_by parent (λ k. shown (name k)) steps n
  unfolding front_by shown
  shown_front zero n = refl
  shown_front (suc steps) n = go (eqb n 0) (shown_front steps (parent n))
    where
      go : (b : Bool) → shown (front_by parent name steps (parent n)) ≡ front_by parent (λ k. shown (name k)) steps (parent n)
          → shown (cond b [] (front_by parent name steps (parent n) ++ (47 ∷ name n)))
          ≡ cond b [] (front_by parent (λ k. shown (name k)) steps (parent n) ++ (47 ∷ shown (name n)))
      go true h = refl
      go false h = shown_append (front_by parent name steps (parent n)) (47 ∷ name n) ∙ ap₂ ◌++◌ h (shown_plain 47 (name n) slash_plain)

  pub shown_path : (steps n : ℕ) → shown (path_by parent name steps n) ≡ path_by parent (λ k. shown (name k)) steps n
  shown_path steps n = go (eqb n 0)
    where
      go : (b : Bool) → shown (cond b (47 ∷ []) (front_by parent name steps n)) ≡ cond b (47 ∷ []) (front_by parent (λ k. shown (name k)) steps n)
      go true = shown_plain 47 [] slash_plain ∙ ap (λ (k : List ℕ). 47 ∷ k) shown_nil
      go false = shown_front steps n

-- ---- One byte alone.

one_plain : (x : ℕ) → 33 ≤ x → x ≤ 126 → (x ≡ 92 → ⊥) → shown (x ∷ []) ≡ x ∷ []
one_plain x a b c = shown_plain x [] (is_plain_lem x a b c) ∙ ap (λ (l : List ℕ). x ∷ l) shown_nil

not_plain : (x : ℕ) → (x < 33) ⊎ ((126 < x) ⊎ (x ≡ 92)) → is_plain x ≡ false
not_plain x h = go (is_plain x) refl
  where
    go : (b : Bool) → is_plain x ≡ b → b ≡ false
    go false e = refl
    go true e =
        let (a, b, c) = plain_is x e in
        absurd (⊎_elim (λ (i : x < 33). omega arith) (⊎_elim (λ (i : 126 < x). omega arith) c) h)

-- Whether a digit is not the one in the list; of none below 16, by computation.
unlisted : ℕ → Bool
unlisted n = not (eqb (hex_digit n) (get_or hex_digits n 0))

none_unlisted : lowest_from unlisted 16 0 ≡ None
unfolding lowest_from unlisted hex_digit
none_unlisted = refl

digit_listed : (n : ℕ) → n < 16 → hex_digit n ≡ get_or hex_digits n 0
unfolding unlisted
digit_listed n h = go (eqb (hex_digit n) (get_or hex_digits n 0)) refl (none_holds unlisted 16 0 none_unlisted n (omega arith) (omega arith))
  where
    go : (b : Bool) → eqb (hex_digit n) (get_or hex_digits n 0) ≡ b → not b ≡ false → hex_digit n ≡ get_or hex_digits n 0
    go true e q = eqb-true (hex_digit n) (get_or hex_digits n 0) e
    go false e q = absurd (true≢false q)

one_escaped : (x : ℕ) → x < 256 → (x < 33) ⊎ ((126 < x) ⊎ (x ≡ 92))
    → shown (x ∷ []) ≡ 92 ∷ 120 ∷ get_or hex_digits (x / 16) 0 ∷ get_or hex_digits (x % 16) 0 ∷ []
unfolding shown_byte
one_escaped x s h =
    shown_one x
    ∙ ap (λ (b : Bool). cond b (x ∷ []) (92 ∷ 120 ∷ hex_digit (x / 16) ∷ hex_digit (x % 16) ∷ [])) (not_plain x h)
    ∙ ap₂ (λ (a b : ℕ). 92 ∷ 120 ∷ a ∷ b ∷ []) (digit_listed (x / 16) (omega arith)) (digit_listed (x % 16) (omega arith))

-- ---- Subkeys of editions 1 and 2.

or_by : {A : Type 0} (a b : Bool) → (a ≡ true → A) → (b ≡ true → A) → (a || b) ≡ true → A
or_by true b f g h = f refl
or_by false b f g h = g h

between_plain : (low x high : ℕ) → 33 ≤ low → high ≤ 126 → (high < 92) ⊎ (92 < low) → (leb low x && leb x high) ≡ true → is_plain x ≡ true
between_plain low x high a b c h =
    let (i, j) = both (leb low x) (leb x high) h in
    let l = leb-true low x i in
    let m = leb-true x high j in
    is_plain_lem x (omega arith) (omega arith) (λ q. ⊎_elim (λ (k : high < 92). omega arith) (λ (k : 92 < low). omega arith) c)

equal_plain : (x y : ℕ) → is_plain y ≡ true → eqb x y ≡ true → is_plain x ≡ true
equal_plain x y p h = rw (eqb-true x y h) p

first_plain : (x : ℕ) → narrow_first x ≡ true → is_plain x ≡ true
unfolding narrow_first is_plain
first_plain x =
    or_by (is_letter x) _
    (or_by (leb 65 x && leb x 90) _ (between_plain 65 x 90 (omega arith) (omega arith) (inl (omega arith))) (between_plain 97 x 122 (omega arith) (omega arith) (inr (omega arith))))
    (or_by (eqb x 95) _ (equal_plain x 95 refl) (equal_plain x 58 refl))

next_plain : (x : ℕ) → narrow_next x ≡ true → is_plain x ≡ true
unfolding narrow_next is_plain
next_plain x =
    or_by (narrow_first x) _ (first_plain x)
    (or_by (is_digit x) _ (between_plain 48 x 57 (omega arith) (omega arith) (inl (omega arith))) (or_by (eqb x 46) _ (equal_plain x 46 refl) (equal_plain x 45 refl)))

-- An edition all of whose bytes in names are printed as they are.
module _ (e : Edition) (first : (x : ℕ) → may_begin e x ≡ true → is_plain x ≡ true) (next : (x : ℕ) → may_follow e x ≡ true → is_plain x ≡ true) where
  follow_shown : (l : List ℕ) → AllFollow e l → shown l ≡ l
  follow_shown [] h = shown_nil
  follow_shown (x ∷ l) (m, h) = shown_plain x l (next x m) ∙ ap (λ (k : List ℕ). x ∷ k) (follow_shown l h)

  named_shown : (l : List ℕ) → IsSubkey e l → shown l ≡ l
  named_shown [] h = absurd h
  named_shown (x ∷ l) (m, h) = shown_plain x l (first x m) ∙ ap (λ (k : List ℕ). x ∷ k) (follow_shown l h)

  subkey_shown : (l : List ℕ) → is_subkey e l ≡ true → shown l ≡ l
  subkey_shown l h = named_shown l ((subkey_exact e l).0 h)

pub shown_narrow : (l : List ℕ) → (is_subkey One l ≡ true) ⊎ (is_subkey Two l ≡ true) → shown l ≡ l
shown_narrow l = ⊎_elim (subkey_shown One first_plain next_plain l) (subkey_shown Two first_plain next_plain l)

pub escapes : Escapes
escapes =
    record {
      as_is = one_plain;
      escaped = one_escaped;
      joined = shown_append;
      printable = shown_printable;
      one_to_one = shown_injective;
      narrow = shown_narrow;
      sizes = length_shown;
      path = shown_path;
    }
