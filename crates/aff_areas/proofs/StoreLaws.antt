-- Byte stores: the first of them, stores after stores, and a run of stores as a run written over the buffer. By induction on the stores.
-- Assumes nothing.
use mathlib.Core.Path.{◌≡◌, refl, sym, ap, ◌∙◌}
use mathlib.Core.List.{List, [], ◌∷◌, ◌++◌, append_assoc}
use Prim.Native.Nat.{ℕ, zero, suc, ◌+◌, ◌-◌, ◌≤◌}
use native.Mathlib.Nat.{add-zero, sub-zero}
use native.Mathlib.Numerals.{add-one}
use native.Mathlib.Omega.{arith}
use lib.ListN.{length, set, take, drop, length-set, length-append}
use Rattle.std.specs.Prelude.{min}
use Rattle.std.proofs.lemmas.List.{take_min}
use lib.Seq.{sets, sets-eq, length-take-le}
use Rattle.aff_format.specs.Bytes.{spliced}
use Rattle.aff_areas.specs.Stores.{Store, apply_stores, stores_from}

-- The stores of a run.

pub length_stores_from : (at : ℕ) (bs : List ℕ) → length (stores_from at bs) ≡ length bs
unfolding stores_from
length_stores_from at [] = refl
length_stores_from at (b ∷ bs) = ap suc (length_stores_from (at + 1) bs)

pub take_stores_from : (k at : ℕ) (bs : List ℕ) → take k (stores_from at bs) ≡ stores_from at (take k bs)
unfolding stores_from
take_stores_from zero at bs = refl
take_stores_from (suc k) at [] = refl
take_stores_from (suc k) at (b ∷ bs) = ap (λ (ss : List Store). record { at = at; byte = b } ∷ ss) (take_stores_from k (at + 1) bs)

pub stores_from_append : (at : ℕ) (a b : List ℕ) → stores_from at (a ++ b) ≡ stores_from at a ++ stores_from (at + length a) b
unfolding stores_from
stores_from_append at [] b = rw add-zero
stores_from_append at (x ∷ a) b =
    let e : at + 1 + length a ≡ at + suc (length a) = omega arith in
    ap (λ (ss : List Store). record { at = at; byte = x } ∷ ss) (stores_from_append (at + 1) a b ∙ rw e)

-- The buffer after them.

pub apply_append : (buffer : List ℕ) (a b : List Store) → apply_stores buffer (a ++ b) ≡ apply_stores (apply_stores buffer a) b
unfolding apply_stores
apply_append buffer [] b = refl
apply_append buffer (s ∷ a) b = apply_append (set buffer s.at s.byte) a b

pub apply_length : (buffer : List ℕ) (a : List Store) → length (apply_stores buffer a) ≡ length buffer
unfolding apply_stores
apply_length buffer [] = refl
apply_length buffer (s ∷ a) = apply_length (set buffer s.at s.byte) a ∙ length-set buffer s.at s.byte

apply_sets : (buffer : List ℕ) (at : ℕ) (bs : List ℕ) → apply_stores buffer (stores_from at bs) ≡ sets buffer at bs
unfolding apply_stores stores_from
apply_sets buffer at [] = refl
apply_sets buffer at (b ∷ bs) = apply_sets (set buffer at b) (at + 1) bs ∙ rw add-one

pub apply_spliced : (at : ℕ) (bs buffer : List ℕ) → at + length bs ≤ length buffer → apply_stores buffer (stores_from at bs) ≡ spliced at bs buffer
unfolding spliced
apply_spliced at bs buffer h = apply_sets buffer at bs ∙ sets-eq bs buffer at h ∙ append_assoc (take at buffer) bs (drop (at + length bs) buffer)

-- The first k of one list and another.

pub take_append : {A : Type 0} (k : ℕ) (a b : List A) → take k (a ++ b) ≡ take k a ++ take (k - length a) b
take_append zero a b = let z : 0 - length a ≡ 0 = omega arith in rw z
take_append (suc k) [] b = rw sub-zero
take_append {A} (suc k) (x ∷ a) b =
    let e : suc k - suc (length a) ≡ k - length a = omega arith in
    rw e (ap (λ (r : List A). x ∷ r) (take_append k a b))

-- The same by how many of the first were taken.
pub take_both : {A : Type 0} (k : ℕ) (a b : List A) → take k (a ++ b) ≡ take k a ++ take (k - length (take k a)) b
take_both zero a b = refl
take_both (suc k) [] b = rw sub-zero
take_both {A} (suc k) (x ∷ a) b =
    let e : suc k - suc (length (take k a)) ≡ k - length (take k a) = omega arith in
    rw e (ap (λ (r : List A). x ∷ r) (take_both k a b))

pub length_take_most : {A : Type 0} (k : ℕ) (a : List A) → length (take k a) ≤ k
length_take_most zero a = omega arith
length_take_most (suc k) [] = omega arith
length_take_most (suc k) (x ∷ a) = let h = length_take_most k a in omega arith

-- How many, and the buffer.
abbrev pub Stored : List ℕ → ℕ → List ℕ → ℕ → List ℕ → ℕ → Type 0
Stored buffer₀ at bytes allowance buffer i =
    (i ≡ length (take allowance bytes)) × (buffer ≡ apply_stores buffer₀ (take allowance (stores_from at bytes)))

-- The front of a run that the allowance admits, by one put.
pub copied_stores : (at made allowance : ℕ) (bytes buffer : List ℕ) → at + length bytes ≤ length buffer → made ≡ min allowance (length bytes)
    → spliced at (take made bytes) buffer ≡ apply_stores buffer (take allowance (stores_from at bytes))
copied_stores at made allowance bytes buffer h m =
    let e : take made bytes ≡ take allowance bytes = rw m (take_min allowance bytes) in
    let n : length (take made bytes) ≡ made = length-take-le made bytes (omega arith) in
    ap (λ (r : List ℕ). spliced at r buffer) e
    ∙ sym (apply_spliced at (take allowance bytes) buffer (omega (arith, ap length e)))
    ∙ ap (apply_stores buffer) (sym (take_stores_from allowance at bytes))

-- One run and another under one allowance.
module _ (buffer₀ : List ℕ) (at : ℕ) (bytes : List ℕ) (then : ℕ) (more : List ℕ) (allowance : ℕ) (buffer₁ buffer₂ : List ℕ) (first second : ℕ)
    (one : Stored buffer₀ at bytes allowance buffer₁ first) (two : Stored buffer₁ then more (allowance - first) buffer₂ second) where
  both_stores : take allowance (stores_from at bytes ++ stores_from then more) ≡ take allowance (stores_from at bytes) ++ take (allowance - first) (stores_from then more)
  both_stores =
      take_both allowance (stores_from at bytes) (stores_from then more)
      ∙ rw (one.0, take_stores_from allowance at bytes, length_stores_from at (take allowance bytes))

  pub both_made : first + second ≡ length (take allowance (stores_from at bytes ++ stores_from then more))
  both_made =
      let a : length (take allowance (stores_from at bytes)) ≡ first = rw (take_stores_from allowance at bytes, length_stores_from at (take allowance bytes)) (sym one.0) in
      let b : length (take (allowance - first) (stores_from then more)) ≡ second =
      rw (take_stores_from (allowance - first) then more, length_stores_from then (take (allowance - first) more)) (sym two.0) in
      sym
      (ap length both_stores
      ∙ length-append (take allowance (stores_from at bytes)) (take (allowance - first) (stores_from then more))
      ∙ omega arith)

  pub both_buffer : buffer₂ ≡ apply_stores buffer₀ (take allowance (stores_from at bytes ++ stores_from then more))
  both_buffer =
      two.1
      ∙ ap (λ (r : List ℕ). apply_stores r (take (allowance - first) (stores_from then more))) one.1
      ∙ sym (apply_append buffer₀ (take allowance (stores_from at bytes)) (take (allowance - first) (stores_from then more)))
      ∙ ap (apply_stores buffer₀) (sym both_stores)
