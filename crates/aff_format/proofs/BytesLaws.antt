-- Parts of a run of bytes, and a run written over another. Assumes nothing.
use mathlib.Core.Path.{◌≡◌, refl, sym, ap, ◌∙◌}
use mathlib.Core.List.{List, [], ◌∷◌, ◌++◌, append_assoc}
use Prim.Native.Nat.{ℕ, zero, suc, ◌+◌, ◌-◌, ◌≤◌, ◌<◌}
use native.Mathlib.Nat.{add-zero, add_assoc}
use native.Mathlib.Numerals.{add-one}
use native.Mathlib.Omega.{arith}
use lib.ListN.{length, get_or, set, take, drop, length-append, length-drop, take-append-drop}
use lib.Seq.{length-take-le, take-nil, take_at, drop_at, drop-drop, drop-cons, take-add, take-take, take-set-le, drop-set-add, set_split, get_or-drop, take-append-le, drop-append-le, drop-append-add}
use Rattle.aff_format.specs.Bytes.{Octets, part, spliced}

-- Parts.
pub length_part : (at n : ℕ) (l : List ℕ) → at + n ≤ length l → length (part at n l) ≡ n
length_part at n l h = length-take-le n (drop at l) (simp length-drop (omega arith))

pub part_add : (at m n : ℕ) (l : List ℕ) → part at (m + n) l ≡ part at m l ++ part (at + m) n l
part_add at m n l = take-add m n (drop at l) ∙ rw drop-drop

-- A part from at to end, as a loop over it sees it.
pub part_cons : (l : List ℕ) (at end : ℕ) → at < end → end ≤ length l → part at (end - at) l ≡ get_or l at 0 ∷ part (at + 1) (end - (at + 1)) l
part_cons l at end h k = let n : end - at ≡ suc (end - (at + 1)) = omega arith in let m : at < length l = omega arith in rw (n, drop-cons l at 0, add-one)

pub part_empty : (l : List ℕ) (at end : ℕ) → end ≤ at → part at (end - at) l ≡ []
part_empty l at end h = let n : end - at ≡ 0 = omega arith in rw n

pub drop_take : (q n : ℕ) (l : List ℕ) → drop q (take n l) ≡ take (n - q) (drop q l)
drop_take zero n l = let e : n - 0 ≡ n = omega arith in rw e
drop_take (suc q) zero l = let e : 0 - suc q ≡ 0 = omega arith in rw e
drop_take (suc q) (suc n) [] = rw take-nil
drop_take (suc q) (suc n) (x ∷ l) = let e : suc n - suc q ≡ n - q = omega arith in rw e (drop_take q n l)

-- A part of a part.
pub part_part : (at n j w : ℕ) (l : List ℕ) → j + w ≤ n → part j w (part at n l) ≡ part (at + j) w l
part_part at n j w l h = ap (take w) (drop_take j n (drop at l)) ∙ take-take w (n - j) (drop j (drop at l)) (omega arith) ∙ rw drop-drop

-- A part of the middle one of three runs.
pub part_middle : (p x y : List ℕ) (at n : ℕ) → length p ≤ at → at + n ≤ length p + length x → part at n (p ++ (x ++ y)) ≡ part (at - length p) n x
part_middle p x y at n lo hi =
    let j = at - length p in
    let e : at ≡ length p + j = omega arith in
    let m : n ≤ length (drop j x) = simp length-drop (omega arith) in
    ap (λ (i : ℕ). part i n (p ++ (x ++ y))) e
    ∙ ap (take n) (drop-append-add p (x ++ y) j ∙ drop-append-le j x y (omega arith))
    ∙ take-append-le n (drop j x) y m

-- A run laid out in pieces; piece j comes after those before it.
abbrev pub laid : List (List ℕ) → List ℕ → List ℕ
laid [] rest = rest
laid (p ∷ ps) rest = p ++ laid ps rest

abbrev pub total : List (List ℕ) → ℕ
total [] = 0
total (p ∷ ps) = length p + total ps

pub part_laid : (ps : List (List ℕ)) (rest : List ℕ) (j at n : ℕ)
    → total (take j ps) ≡ at → length (get_or ps j []) ≡ n → part at n (laid ps rest) ≡ get_or ps j []
part_laid [] rest j at n d e = rw (← e)
part_laid (p ∷ ps) rest zero at n d e = rw (← d) (take_at p (laid ps rest) n e)
part_laid (p ∷ ps) rest (suc j) at n d e = rw (← d, drop-append-add) (part_laid ps rest j (total (take j ps)) n refl e)

-- A run over another.
pub length_spliced : (at : ℕ) (x l : List ℕ) → at + length x ≤ length l → length (spliced at x l) ≡ length l
unfolding spliced
length_spliced at x l h =
    let t = length-take-le at l (omega arith) in
    simp (length-append, length-drop, t) (omega arith)

pub spliced_nil : (at : ℕ) (l : List ℕ) → spliced at [] l ≡ l
unfolding spliced
spliced_nil at l = rw add-zero (take-append-drop at l)

-- One run and another after it.
pub spliced_more : (at : ℕ) (x y l : List ℕ) → at + length x ≤ length l → spliced (at + length x) y (spliced at x l) ≡ spliced at (x ++ y) l
unfolding spliced
spliced_more at x y l h =
    let q = drop (at + length x) l in
    let front = take at l ++ x in
    let e : length front ≡ at + length x = length-append (take at l) x ∙ ap (λ (k : ℕ). k + length x) (length-take-le at l (omega arith)) in
    let d : drop (at + length x + length y) (front ++ q) ≡ drop (at + length x + length y) l =
    sym (drop-drop (length y) (at + length x) (front ++ q))
    ∙ ap (drop (length y)) (drop_at front q (at + length x) e)
    ∙ drop-drop (length y) (at + length x) l in
    ap (λ (s : List ℕ). take (at + length x) s ++ (y ++ drop (at + length x + length y) s)) (sym (append_assoc (take at l) x q))
    ∙ ap (λ (s : List ℕ). s ++ (y ++ drop (at + length x + length y) (front ++ q))) (take_at front q (at + length x) e)
    ∙ ap (λ (s : List ℕ). front ++ (y ++ s)) d
    ∙ simp (append_assoc, length-append, add_assoc)

pub spliced_next : (at next : ℕ) (x y l₀ l₁ l₂ : List ℕ)
    → at + length x ≡ next → next ≤ length l₀ → l₁ ≡ spliced at x l₀ → l₂ ≡ spliced next y l₁ → l₂ ≡ spliced at (x ++ y) l₀
spliced_next at next x y l₀ l₁ l₂ n f h₁ h₂ = h₂ ∙ rw (h₁, ← n) (spliced_more at x y l₀ (omega arith))

-- A store is a run of one; a store after a run makes the run longer.
pub set_spliced : (at v : ℕ) (l : List ℕ) → at < length l → set l at v ≡ spliced at (v ∷ []) l
unfolding spliced
set_spliced at v l h = set_split l at v h ∙ rw add-one

pub spliced_set : (at v : ℕ) (x l : List ℕ) → at + length x < length l → spliced at x (set l (at + length x) v) ≡ spliced at (x ++ (v ∷ [])) l
unfolding spliced
spliced_set at v x l h =
    let n = at + length x in
    let d : drop n (set l n v) ≡ v ∷ drop (suc n) l =
    ap (λ (k : ℕ). drop n (set l k v)) (sym (add-zero n)) ∙ drop-set-add n l 0 v ∙ rw (drop-cons l n 0 h) in
    let e : at + length (x ++ (v ∷ [])) ≡ suc n = simp length-append (omega arith) in
    ap (λ (s : List ℕ). s ++ (x ++ drop n (set l n v))) (take-set-le at l n v (omega arith))
    ∙ ap (λ (s : List ℕ). take at l ++ (x ++ s)) d
    ∙ rw (e, append_assoc x (v ∷ []) (drop (suc n) l))

-- What is in the run, before it and after it.
pub part_spliced : (at : ℕ) (x l : List ℕ) → at + length x ≤ length l → part at (length x) (spliced at x l) ≡ x
unfolding spliced
part_spliced at x l h =
    rw (drop_at (take at l) (x ++ drop (at + length x) l) at (length-take-le at l (omega arith))) (take_at x (drop (at + length x) l) (length x) refl)

pub take_spliced : (at n : ℕ) (x l : List ℕ) → n ≤ at → at + length x ≤ length l → take n (spliced at x l) ≡ take n l
unfolding spliced
take_spliced at n x l h f =
    let e = length-take-le at l (omega arith) in
    take-append-le n (take at l) (x ++ drop (at + length x) l) (omega arith) ∙ take-take n at l h

pub drop_spliced : (at : ℕ) (x l : List ℕ) → at + length x ≤ length l → drop (at + length x) (spliced at x l) ≡ drop (at + length x) l
unfolding spliced
drop_spliced at x l h =
    let e = length-take-le at l (omega arith) in
    ap (drop (at + length x)) (sym (append_assoc (take at l) x (drop (at + length x) l)))
    ∙ drop_at (take at l ++ x) (drop (at + length x) l) (at + length x) (length-append (take at l) x ∙ omega arith)

-- Bytes.
pub octets_nil : Octets []
octets_nil i = omega arith

pub octets_cons : (x : ℕ) (l : List ℕ) → x < 256 → Octets l → Octets (x ∷ l)
octets_cons x l h o zero = h
octets_cons x l h o (suc i) = o i

pub octets_append : (s t : List ℕ) → Octets s → Octets t → Octets (s ++ t)
octets_append [] t o p i = p i
octets_append (x ∷ s) t o p zero = o 0
octets_append (x ∷ s) t o p (suc i) = octets_append s t (λ j. o (suc j)) p i

pub octets_drop : (n : ℕ) (l : List ℕ) → Octets l → Octets (drop n l)
octets_drop n l o i = rw get_or-drop (o (n + i))

pub octets_take : (n : ℕ) (l : List ℕ) → Octets l → Octets (take n l)
octets_take zero l o i = octets_nil i
octets_take (suc n) [] o i = octets_nil i
octets_take (suc n) (x ∷ l) o zero = o 0
octets_take (suc n) (x ∷ l) o (suc i) = octets_take n l (λ j. o (suc j)) i

pub octets_part : (at n : ℕ) (l : List ℕ) → Octets l → Octets (part at n l)
octets_part at n l o = octets_take n (drop at l) (octets_drop at l o)
