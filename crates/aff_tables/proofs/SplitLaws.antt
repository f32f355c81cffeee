-- The walk that splits a section at its zeros: it is in a string that began at `start` and has no zero so far. Assumes nothing.
use mathlib.Core.Path.{◌≡◌, sym, ◌∙◌}
use mathlib.Core.Bool.{false}
use mathlib.Core.List.{List, [], ◌∷◌, ◌++◌}
use Prim.Native.Nat.{ℕ, suc, ◌+◌, ◌-◌, ◌≤◌, ◌<◌}
use native.Mathlib.Numerals.{add-one}
use native.Mathlib.Omega.{arith}
use lib.Dec.{eqb}
use lib.ListN.{length, get_or, set, drop, length-drop, take-append-drop, drop_of_length-le}
use lib.Seq.{drop-cons, drop-drop, take-suc, take_all, get_or-drop}
use borrow.Author.Tests.{ne_eqb, le-leb, lt-leb}
use Rattle.aff_format.specs.Bytes.{part, Without, laid_over}
use Rattle.aff_format.specs.Strings.{strings_of, places_of}
use Rattle.aff_format.proofs.BytesLaws.{length_part}
use Rattle.aff_format.proofs.StringsLaws.{strings_of_one, length_places_of}
use Rattle.aff_tables.specs.passes.Results.{split_of}
use Rattle.std.specs.Prelude.{Option, Some, None}
use Rattle.aff_format.proofs.LaidLaws.{Laid, laid_store, laid_all, laid_full}

-- One byte more.

without_snoc : (s : List ℕ) (y : ℕ) → Without 0 s → eqb y 0 ≡ false → Without 0 (s ++ (y ∷ []))
without_snoc [] y w h = (h, tt)
without_snoc (x ∷ s) y w h = (w.0, without_snoc s y w.1 h)

part_snoc : (l : List ℕ) (start at : ℕ) → start ≤ at → at < length l → part start (at + 1 - start) l ≡ part start (at - start) l ++ (get_or l at 0 ∷ [])
part_snoc l start at h k =
    let m : at + 1 - start ≡ suc (at - start) = omega arith in
    let p : start + (at - start) ≡ at = omega arith in
    let f : at - start < length (drop start l) = rw length-drop (omega arith) in
    rw (m, take-suc (drop start l) (at - start) 0 f, get_or-drop start l (at - start) 0, p)

-- A run with no zero is one string.
strings_last : (x : ℕ) (s : List ℕ) → Without 0 (x ∷ s) → strings_of (x ∷ s) ≡ (x ∷ s) ∷ []
unfolding strings_of
strings_last x [] w = rw w.0
strings_last x (y ∷ s) w = rw (w.0, strings_last y s w.1)

strings_open : (s : List ℕ) → 0 < length s → Without 0 s → strings_of s ≡ s ∷ []
strings_open [] h w = absurd (omega arith)
strings_open (x ∷ s) h w = strings_last x s w

-- n places are stored; the string in progress began at `start`; `at` is the next byte.
pub record Splitting (section : List ℕ) (first : ℕ) (area₀ area : List ℕ) (n start at : ℕ) : Type 0 where
  pub at_end : at ≤ length section
  pub start_at : start ≤ at
  pub no_zero : Without 0 (part start (at - start) section)
  pub laid : Laid area₀ (places_of first (strings_of section)) area n (places_of (first + start) (strings_of (drop start section)))

-- The answer and the area of a split.
abbrev pub Split : List ℕ → ℕ → List ℕ → List ℕ → Option ℕ → Type 0
Split section first area₀ area r =
    (r ≡ split_of (length area₀) (length (strings_of section))) × (area ≡ laid_over area₀ (places_of first (strings_of section)))

module _ {section : List ℕ} {first : ℕ} {area₀ area : List ℕ} {n start at : ℕ} (s : Splitting section first area₀ area n start at) where
  from_start : drop start section ≡ part start (at - start) section ++ drop at section
  from_start =
      let h = s.start_at in
      let e : start + (at - start) ≡ at = omega arith in
      sym (take-append-drop (at - start) (drop start section)) ∙ rw (drop-drop, e)

  open_length : length (part start (at - start) section) ≡ at - start
  open_length = let h = s.start_at in let e = s.at_end in length_part start (at - start) section (omega arith)

  -- A byte that is not zero.
  pub split_skip : at < length section → (get_or section at 0 ≡ 0 → ⊥) → Splitting section first area₀ area n start (at + 1)
  split_skip h z =
      let l = s.start_at in
      record {
        at_end = omega arith;
        start_at = omega arith;
        no_zero = rw (part_snoc section start at l h) (without_snoc (part start (at - start) section) (get_or section at 0) s.no_zero (ne_eqb (get_or section at 0) 0 z));
        laid = s.laid;
      }

  -- The place of the string that ends here, and those after it.
  places_here : at < length section → get_or section at 0 ≡ 0
      → places_of (first + start) (strings_of (drop start section)) ≡ (first + start) ∷ places_of (first + (at + 1)) (strings_of (drop (at + 1) section))
  unfolding places_of
  places_here h z =
      let l = s.start_at in
      let e : first + start + (at - start) + 1 ≡ first + (at + 1) = omega arith in
      rw (from_start, drop-cons section at 0 h, z, strings_of_one (part start (at - start) section) (drop (suc at) section) s.no_zero, open_length, e, add-one)

  pub split_store : at < length section → get_or section at 0 ≡ 0 → n < length area
      → Splitting section first area₀ (set area n (first + start)) (n + 1) (at + 1) (at + 1)
  split_store h z r =
      let e : at + 1 - (at + 1) ≡ 0 = omega arith in
      record { at_end = omega arith; start_at = omega arith; no_zero = rw e tt; laid = laid_store (rw (places_here h z) at s.laid) r }

  too_many : {p : ℕ} {rest : List ℕ} → places_of (first + start) (strings_of (drop start section)) ≡ p ∷ rest → length area ≤ n
      → Split section first area₀ area None
  too_many e r =
      let f = laid_full (rw e at s.laid) r in
      let m : length area₀ < length (strings_of section) = omega (arith, f.0, length_places_of first (strings_of section)) in
      (rw (lt-leb (length (strings_of section)) (length area₀) m), f.1)

  pub split_full : at < length section → get_or section at 0 ≡ 0 → length area ≤ n → Split section first area₀ area None
  split_full h z = too_many (places_here h z)

  -- After the last byte: no string is open, or the last one has no zero.
  places_none : length section ≤ at → start ≡ at → places_of (first + start) (strings_of (drop start section)) ≡ []
  unfolding places_of strings_of
  places_none h e = rw (e, drop_of_length-le section h)

  places_last : length section ≤ at → (start ≡ at → ⊥) → places_of (first + start) (strings_of (drop start section)) ≡ (first + start) ∷ []
  unfolding places_of
  places_last h n =
      let l = s.start_at in
      let m = s.at_end in
      let w : length (drop start section) ≤ at - start = rw length-drop (omega arith) in
      let k : 0 < length (drop start section) = rw length-drop (omega arith) in
      rw (strings_open (drop start section) k (rw (take_all (at - start) (drop start section) w) at s.no_zero))

  stored : {area : List ℕ} {n : ℕ} → Laid area₀ (places_of first (strings_of section)) area n [] → Split section first area₀ area (Some n)
  stored {area} {n} l =
      let f = laid_all l in
      let e : n ≡ length (strings_of section) = f.0 ∙ length_places_of first (strings_of section) in
      (rw (← e, le-leb n (length area₀) f.1.0), f.1.1)

  pub split_ended : length section ≤ at → start ≡ at → Split section first area₀ area (Some n)
  split_ended h e = stored (rw (places_none h e) at s.laid)

  module _ (h : length section ≤ at) (e : start ≡ at → ⊥) where
    pub split_last_full : length area ≤ n → Split section first area₀ area None
    split_last_full = too_many (places_last h e)

    pub split_last : n < length area → Split section first area₀ (set area n (first + start)) (Some (n + 1))
    split_last r = stored (laid_store (rw (places_last h e) at s.laid) r)
