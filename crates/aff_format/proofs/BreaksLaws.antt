-- Where subkeys and paths break: the place that the grammar functions find is the one that Breaks states, for every list of bytes.
-- Both grammars can be read by a machine, byte by byte, and the induction is made once, over any such machine. Assumes nothing.
use mathlib.Core.Path.{◌≡◌, refl, sym, ap, subst, ◌∙◌}
use mathlib.Core.Bool.{Bool, true, false, cond, not, ◌&&◌, ◌||◌, true≢false}
use mathlib.Core.Logic.Iff
use mathlib.Core.Logic.{◌↔◌}
use mathlib.Core.List.{List, [], ◌∷◌, ◌++◌, append_assoc}
use Prim.Native.Nat.{ℕ, suc, ◌+◌, ◌-◌, ◌<◌}
use native.Mathlib.Numerals.{add-one}
use native.Mathlib.Nat.{add-zero}
use native.Mathlib.Omega.{arith}
use lib.Dec.{eqb}
use lib.ListN.{length, take, drop}
use lib.Seq.{take-add}
use borrow.Author.Tests.{eqb-true}
use Rattle.aff_format.specs.Subkey.{narrow_first, wide, may_begin, may_follow, rest_of_subkey, subkey_from, is_sound, is_subkey, AllFollow, IsSubkey}
use Rattle.aff_format.specs.Path.{ahead, between_slashes, or_else, parts_from, path_grammar, WellFormed}
use Rattle.aff_format.specs.Breaks.{Viable, Breaks}
use Rattle.aff_format.proofs.PathLaws.{path_exact}
use Rattle.aff_format.specs.declared.edition.Edition.{Edition}
use Rattle.aff_format.specs.declared.edition.Edition.TheVariants.{One, Two, Three}
use Rattle.std.specs.Prelude.{Option, Some, None}

-- A list breaks at one place at most: the beginnings of a viable list are viable.
not_later : (In : List ℕ → Type 0) (l : List ℕ) (p q : ℕ) → Breaks In l p → Breaks In l q → p < q → ⊥
not_later In l p q b c h =
    let (more, holds) = c.before in
    let within = c.within in
    let rest = take (q - (p + 1)) (drop (p + 1) l) in
    let n : q ≡ p + 1 + (q - (p + 1)) = omega arith in
    let cut : take q l ≡ take (p + 1) l ++ rest = ap (λ (k : ℕ). take k l) n ∙ take-add (p + 1) (q - (p + 1)) l in
    b.at (omega arith) (rest ++ more, rw append_assoc at (subst (λ (k : List ℕ). In (k ++ more)) cut holds))

pub breaks_once : (In : List ℕ → Type 0) (l : List ℕ) (p q : ℕ) → Breaks In l p → Breaks In l q → p ≡ q
breaks_once In l p q b c =
    let n : p < q → ⊥ = not_later In l p q b c in
    let m : q < p → ⊥ = not_later In l q p c b in
    omega arith

-- A verdict on l is right: l is in the language, or it breaks at the place found, counted from place at.
abbrev Judged : (List ℕ → Type 0) → ℕ → List ℕ → Option ℕ → Type 0
Judged In at l None = In l
Judged In at l (Some place) = (p : ℕ) × (place ≡ at + p) × Breaks In l p

-- What follows from a right verdict. It is right for every language with the same lists.
module _ (In : List ℕ → Type 0) (l : List ℕ) where
  sound_exact : (g : Option ℕ) → Judged In 0 l g → (is_sound g ≡ true) ↔ In l
  sound_exact None h = (λ s. h, λ i. refl)
  sound_exact (Some place) (p, e, b) = (λ s. absurd (true≢false (sym s)), λ i. absurd (b.not_in i))

  breaks_exact : (p : ℕ) (g : Option ℕ) → Judged In 0 l g → (g ≡ Some p) ↔ Breaks In l p
  breaks_exact p None h = (λ s. absurd (true≢false (ap is_sound s)), λ b. absurd (b.not_in h))
  breaks_exact p (Some place) (q, e, b) = (
    λ s. let k : place ≡ p = cc in let n : q ≡ p = omega arith in rw n at b,
    λ c. let n : q ≡ p = breaks_once In l q p b c in let k : place ≡ p = omega arith in rw k,
  )

  not_in_breaks : (g : Option ℕ) → Judged In 0 l g → (In l → ⊥) → (p : ℕ) × Breaks In l p
  not_in_breaks None h n = absurd (n h)
  not_in_breaks (Some place) (p, e, b) n = (p, b)

  judged_same : (In' : List ℕ → Type 0) → ((k : List ℕ) → In k ↔ In' k) → (at : ℕ) (g : Option ℕ) → Judged In at l g → Judged In' at l g
  judged_same In' same at None h = (same l).0 h
  judged_same In' same at (Some place) (p, e, b) = (
    p,
    e,
    record {
      not_in = λ i. b.not_in ((same l).1 i);
      within = b.within;
      before = (b.before.0, (same (take p l ++ b.before.0)).0 b.before.1);
      at = λ h v. b.at h (v.0, (same (take (p + 1) l ++ v.0)).1 v.1);
    },
  )

-- A machine: which bytes it takes in a state, the state after one, and whether a list may end there.
record Machine : Type 1 where
  State : Type 0
  may : State → ℕ → Bool
  next : State → ℕ → State
  ends : State → Bool

abbrev Accepts : (m : Machine) → m.State → List ℕ → Type 0
Accepts m s [] = m.ends s ≡ true
Accepts m s (x ∷ l) = (m.may s x ≡ true) × Accepts m (m.next s x) l

-- Grammar functions, one for each state, that follow the machine. If an end can be reached from every state, their verdicts are right.
module _ (m : Machine) (judge : m.State → ℕ → List ℕ → Option ℕ)
    (at_end : (s : m.State) (at : ℕ) → judge s at [] ≡ cond (m.ends s) None (Some at))
    (at_byte : (s : m.State) (at x : ℕ) (l : List ℕ) → judge s at (x ∷ l) ≡ cond (m.may s x) (judge (m.next s x) (at + 1) l) (Some at))
    (alive : (s : m.State) → Viable (Accepts m s) []) where
  stops : (s : m.State) (at : ℕ) (l : List ℕ) → (Accepts m s l → ⊥) → (0 < length l → Viable (Accepts m s) (take 1 l) → ⊥)
      → Judged (Accepts m s) at l (Some at)
  stops s at l n f = (0, sym (add-zero at), record { not_in = n; within = omega arith; before = alive s; at = f })

  goes_on : (s : m.State) (at x : ℕ) (l : List ℕ) → m.may s x ≡ true → (g : Option ℕ) → Judged (Accepts m (m.next s x)) (at + 1) l g
      → Judged (Accepts m s) at (x ∷ l) g
  goes_on s at x l q None h = (q, h)
  goes_on s at x l q (Some place) (p, e, b) = (
    suc p,
    omega arith,
    record {
      not_in = λ i. b.not_in i.1;
      within = omega (arith, b.within);
      before = (b.before.0, (q, b.before.1));
      at = λ h. rw (add-one (suc p)) (λ v. b.at (omega arith) (rw add-one (v.0, v.1.1)));
    },
  )

  judged : (l : List ℕ) (s : m.State) (at : ℕ) → Judged (Accepts m s) at l (judge s at l)
  judged [] s at = rw (at_end s at) (go (m.ends s) refl)
    where
      go : (b : Bool) → m.ends s ≡ b → Judged (Accepts m s) at [] (cond b None (Some at))
      go true q = q
      go false q = stops s at [] (λ i. true≢false (sym i ∙ q)) (λ h. absurd (omega arith))
  judged (x ∷ l) s at = rw (at_byte s at x l) (go (m.may s x) refl (judge (m.next s x) (at + 1) l) (judged l (m.next s x) (at + 1)))
    where
      go : (b : Bool) → m.may s x ≡ b → (g : Option ℕ) → Judged (Accepts m (m.next s x)) (at + 1) l g → Judged (Accepts m s) at (x ∷ l) (cond b g (Some at))
      go true q g h = goes_on s at x l q g h
      go false q g h = stops s at (x ∷ l) (λ i. true≢false (sym i.0 ∙ q)) (λ z v. true≢false (sym v.1.0 ∙ q))

-- `a` may begin a subkey, and a slash may not.
begins : (e : Edition) → (may_begin e 97 ≡ true) × (may_begin e 47 ≡ false)
unfolding narrow_first wide
begins One = (refl, refl)
begins Two = (refl, refl)
begins Three = (refl, refl)

-- Subkeys. The state is whether the first byte has been read.
module _ (e : Edition) where
  abbrev key_may : Bool → ℕ → Bool
  key_may false x = may_begin e x
  key_may true x = may_follow e x

  abbrev key_machine : Machine
  key_machine = record { State = Bool; may = key_may; next = λ begun x. true; ends = λ begun. begun }

  abbrev key_from : Bool → ℕ → List ℕ → Option ℕ
  key_from false at l = subkey_from e at l
  key_from true at l = rest_of_subkey e at l

  key_end : (begun : Bool) (at : ℕ) → key_from begun at [] ≡ cond begun None (Some at)
  unfolding subkey_from rest_of_subkey
  key_end false at = refl
  key_end true at = refl

  key_byte : (begun : Bool) (at x : ℕ) (l : List ℕ) → key_from begun at (x ∷ l) ≡ cond (key_may begun x) (rest_of_subkey e (at + 1) l) (Some at)
  unfolding subkey_from rest_of_subkey
  key_byte false at x l = refl
  key_byte true at x l = refl

  key_alive : (begun : Bool) → Viable (Accepts key_machine begun) []
  key_alive false = (97 ∷ [], ((begins e).0, refl))
  key_alive true = ([], refl)

  accepts_follow : (l : List ℕ) → Accepts key_machine true l ↔ AllFollow e l
  accepts_follow [] = (λ q. tt, λ u. refl)
  accepts_follow (x ∷ l) = Iff.and Iff.rfl (accepts_follow l)

  accepts_subkey : (l : List ℕ) → Accepts key_machine false l ↔ IsSubkey e l
  accepts_subkey [] = (λ q. true≢false (sym q), λ n. absurd n)
  accepts_subkey (x ∷ l) = Iff.and Iff.rfl (accepts_follow l)

  subkey_judged : (l : List ℕ) → Judged (IsSubkey e) 0 l (subkey_from e 0 l)
  subkey_judged l =
      judged_same (Accepts key_machine false) l (IsSubkey e) accepts_subkey 0 (subkey_from e 0 l) (judged key_machine key_from key_end key_byte key_alive l false 0)

  pub subkey_exact : (l : List ℕ) → (is_subkey e l ≡ true) ↔ IsSubkey e l
  subkey_exact l = sound_exact (IsSubkey e) l (subkey_from e 0 l) (subkey_judged l)

  pub subkey_breaks : (l : List ℕ) (p : ℕ) → (subkey_from e 0 l ≡ Some p) ↔ Breaks (IsSubkey e) l p
  subkey_breaks l p = breaks_exact (IsSubkey e) l p (subkey_from e 0 l) (subkey_judged l)

  pub no_subkey_breaks : (l : List ℕ) → (IsSubkey e l → ⊥) → (p : ℕ) × Breaks (IsSubkey e) l p
  no_subkey_breaks l = not_in_breaks (IsSubkey e) l (subkey_from e 0 l) (subkey_judged l)

-- Paths. The states: nothing read; the first slash read; in a subkey, whose first byte has been read or not.
data Spot : Type 0 where
  start root : Spot
  part : Bool → Spot

abbrev path_next : Spot → ℕ → Spot
path_next start x = root
path_next root x = part (not (eqb x 47))
path_next (part begun) x = part (not (eqb x 47))

abbrev path_ends : Spot → Bool
path_ends start = false
path_ends root = true
path_ends (part begun) = begun

-- A test of one byte, taken out of or_else.
or_cond : (b : Bool) (at : ℕ) (g h : Option ℕ) → or_else (cond b g (Some at)) h ≡ cond b (or_else g h) (Some at)
or_cond true at g h = refl
or_cond false at g h = refl

module _ (e : Edition) where
  abbrev path_may : Spot → ℕ → Bool
  path_may start x = eqb x 47
  path_may root x = may_begin e x
  path_may (part begun) x = (begun && eqb x 47) || key_may e begun x

  abbrev path_machine : Machine
  path_machine = record { State = Spot; may = path_may; next = path_next; ends = path_ends }

  -- Parts; the first byte of the first part may have been read before.
  abbrev parts_in : Bool → ℕ → List (List ℕ) → Option ℕ
  parts_in begun at [] = None
  parts_in begun at (p ∷ ps) = or_else (key_from e begun at p) (parts_from e (at + length p + 1) ps)

  abbrev root_from : ℕ → List ℕ → Option ℕ
  root_from at [] = None
  root_from at (x ∷ l) = parts_in false at (between_slashes (x ∷ l))

  abbrev path_from : Spot → ℕ → List ℕ → Option ℕ
  path_from start at [] = Some at
  path_from start at (x ∷ l) = cond (eqb x 47) (root_from (at + 1) l) (Some at)
  path_from root at l = root_from at l
  path_from (part begun) at l = parts_in begun at (between_slashes l)

  parts_in_lem : (at : ℕ) (ps : List (List ℕ)) → parts_from e at ps ≡ parts_in false at ps
  unfolding parts_from
  parts_in_lem at [] = refl
  parts_in_lem at (p ∷ ps) = refl

  path_from_lem : (l : List ℕ) → path_grammar e l ≡ path_from start 0 l
  unfolding path_grammar
  path_from_lem [] = refl
  path_from_lem (x ∷ []) = refl
  path_from_lem (x ∷ y ∷ l) = rw (parts_in_lem 1 (between_slashes (y ∷ l)))

  ahead_byte : (begun : Bool) (at x : ℕ) (ps : List (List ℕ)) → parts_in begun at (ahead x ps) ≡ cond (key_may e begun x) (parts_in true (at + 1) ps) (Some at)
  unfolding parts_from rest_of_subkey
  ahead_byte begun at x [] = rw (key_byte e begun at x []) (or_cond (key_may e begun x) at None None)
  ahead_byte begun at x (p ∷ ps) =
      let n : at + suc (length p) + 1 ≡ at + 1 + length p + 1 = omega arith in
      rw (key_byte e begun at x p, n) (or_cond (key_may e begun x) at (rest_of_subkey e (at + 1) p) (parts_from e (at + 1 + length p + 1) ps))

  parts_byte : (begun : Bool) (at x : ℕ) (l : List ℕ)
      → parts_in begun at (between_slashes (x ∷ l)) ≡ cond (path_may (part begun) x) (parts_in (not (eqb x 47)) (at + 1) (between_slashes l)) (Some at)
  unfolding between_slashes
  parts_byte begun at x l = go begun (eqb x 47) refl (between_slashes l)
    where
      go : (begun slash : Bool) → eqb x 47 ≡ slash → (ps : List (List ℕ))
          → parts_in begun at (cond slash ([] ∷ ps) (ahead x ps)) ≡ cond ((begun && slash) || key_may e begun x) (parts_in (not slash) (at + 1) ps) (Some at)
      go false true q ps = rw (eqb-true x 47 q, (begins e).1, key_end e false at)
      go true true q ps = rw (key_end e true at, add-zero) (parts_in_lem (at + 1) ps)
      go false false q ps = ahead_byte false at x ps
      go true false q ps = ahead_byte true at x ps

  path_end : (s : Spot) (at : ℕ) → path_from s at [] ≡ cond (path_ends s) None (Some at)
  unfolding between_slashes parts_from
  path_end start at = refl
  path_end root at = refl
  path_end (part begun) at = rw (key_end e begun at) (or_cond begun at None None)

  path_byte : (s : Spot) (at x : ℕ) (l : List ℕ) → path_from s at (x ∷ l) ≡ cond (path_may s x) (path_from (path_next s x) (at + 1) l) (Some at)
  path_byte start at x l = refl
  path_byte root at x l = parts_byte false at x l
  path_byte (part begun) at x l = parts_byte begun at x l

  path_alive : (s : Spot) → Viable (Accepts path_machine s) []
  path_alive start = (47 ∷ [], (refl, refl))
  path_alive root = ([], refl)
  path_alive (part false) = (97 ∷ [], ((begins e).0, refl))
  path_alive (part true) = ([], refl)

  accepts_judged : (l : List ℕ) → Judged (Accepts path_machine start) 0 l (path_grammar e l)
  accepts_judged l = rw (path_from_lem l) (judged path_machine path_from path_end path_byte path_alive l start 0)

  accepts_path : (l : List ℕ) → Accepts path_machine start l ↔ WellFormed e l
  accepts_path l = Iff.trans (Iff.symm (sound_exact (Accepts path_machine start) l (path_grammar e l) (accepts_judged l))) (path_exact e l)

  path_judged : (l : List ℕ) → Judged (WellFormed e) 0 l (path_grammar e l)
  path_judged l = judged_same (Accepts path_machine start) l (WellFormed e) accepts_path 0 (path_grammar e l) (accepts_judged l)

  pub path_breaks : (l : List ℕ) (p : ℕ) → (path_grammar e l ≡ Some p) ↔ Breaks (WellFormed e) l p
  path_breaks l p = breaks_exact (WellFormed e) l p (path_grammar e l) (path_judged l)

  pub no_path_breaks : (l : List ℕ) → (WellFormed e l → ⊥) → (p : ℕ) × Breaks (WellFormed e) l p
  no_path_breaks l = not_in_breaks (WellFormed e) l (path_grammar e l) (path_judged l)
