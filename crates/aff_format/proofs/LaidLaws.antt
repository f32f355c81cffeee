-- Places laid over an area, and the walk that stores them one by one: what is stored, with the places left laid after it, is the whole.
-- Assumes nothing.
use mathlib.Core.Path.{◌≡◌, refl, sym, ap, ◌∙◌}
use mathlib.Core.List.{List, [], ◌∷◌, ◌++◌}
use Prim.Native.Nat.{ℕ, zero, suc, ◌+◌, ◌≤◌, ◌<◌}
use native.Mathlib.Numerals.{add-one}
use native.Mathlib.Omega.{arith}
use lib.ListN.{length, get_or, set, take, drop, length-set, take-append-drop, drop_of_length-le}
use lib.Seq.{take-suc-set, drop-cons, drop-set-lt, append_snoc}
use Rattle.aff_format.specs.Bytes.{laid_over}

pub laid_nothing : (area : List ℕ) → laid_over area [] ≡ area
unfolding laid_over
laid_nothing [] = refl
laid_nothing (x ∷ area) = refl

pub length_laid : (area places : List ℕ) → length (laid_over area places) ≡ length area
unfolding laid_over
length_laid [] places = refl
length_laid (x ∷ area) [] = refl
length_laid (x ∷ area) (p ∷ places) = ap suc (length_laid area places)

pub laid_at : (area places : List ℕ) (k : ℕ) → k < length places → k < length area → get_or (laid_over area places) k 0 ≡ get_or places k 0
unfolding laid_over
laid_at [] places k h f = absurd (omega arith)
laid_at (x ∷ area) [] k h f = absurd (omega arith)
laid_at (x ∷ area) (p ∷ places) zero h f = refl
laid_at (x ∷ area) (p ∷ places) (suc k) h f = laid_at area places k (omega arith) (omega arith)

pub laid_front : (area places : List ℕ) → length places ≤ length area → take (length places) (laid_over area places) ≡ places
unfolding laid_over
laid_front area [] h = refl
laid_front [] (p ∷ places) h = absurd (omega arith)
laid_front (x ∷ area) (p ∷ places) h = ap (λ (l : List ℕ). p ∷ l) (laid_front area places (omega arith))

-- n of all the places are in the area; `rest` is to be laid after them.
pub record Laid (area₀ all area : List ℕ) (n : ℕ) (rest : List ℕ) : Type 0 where
  pub long : length area ≡ length area₀
  pub within : n ≤ length area
  pub count : n + length rest ≡ length all
  pub laid : take n area ++ laid_over (drop n area) rest ≡ laid_over area₀ all

module _ {area₀ all area : List ℕ} {n : ℕ} where
  pub laid_store : {p : ℕ} {rest : List ℕ} → Laid area₀ all area n (p ∷ rest) → n < length area → Laid area₀ all (set area n p) (n + 1) rest
  unfolding laid_over
  laid_store {p} {rest} l h =
      let s : n < suc n = omega arith in
      let c = l.count in
      record {
        long = simp length-set l.long;
        within = simp length-set (omega arith);
        count = omega arith;
        laid =
            rw (add-one, take-suc-set area n p, drop-set-lt (suc n) area n p) (append_snoc (take n area) p (laid_over (drop (suc n) area) rest))
            ∙ rw (drop-cons area n 0) at l.laid;
      }

  pub laid_all : Laid area₀ all area n [] → (n ≡ length all) × ((n ≤ length area₀) × (area ≡ laid_over area₀ all))
  laid_all l =
      let c = l.count in
      let w = l.within in
      let e = l.long in
      (omega arith, (omega arith, sym (take-append-drop n area) ∙ rw laid_nothing at l.laid))

  pub laid_full : {p : ℕ} {rest : List ℕ} → Laid area₀ all area n (p ∷ rest) → length area ≤ n
      → (length area₀ < length all) × (area ≡ laid_over area₀ all)
  unfolding laid_over
  laid_full l h =
      let c = l.count in
      let e = l.long in
      let d = drop_of_length-le area h in
      (omega arith, sym (take-append-drop n area) ∙ rw d (rw d at l.laid))
