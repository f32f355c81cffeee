-- What is printed for some bytes, as the passes measure and write it, byte after byte; and how far a name must be read to measure it. Assumes nothing.
use mathlib.Core.Path.{◌≡◌, refl, sym, ap, ◌∙◌}
use mathlib.Core.List.{List, [], ◌∷◌, ◌++◌}
use mathlib.Core.Logic.{⊎_elim}
use Prim.Native.Nat.{ℕ, ◌+◌, ◌-◌, ◌≤◌, ◌<◌}
use native.Mathlib.Numerals.{add-one}
use native.Mathlib.Omega.{arith}
use lib.ListN.{length, get_or, take, drop, length-append, take-append-drop, drop_of_length-le}
use lib.Seq.{take-suc, take_all, drop-cons, length-take-le}
use Rattle.aff_format.specs.passes.Written.{Written}
use Rattle.aff_format.proofs.ClimbLaws.{le_or_lt}
use Rattle.aff_format.proofs.WrittenLaws.{written_none, written_same, written_more, written_length}
use Rattle.std.specs.Prelude.{Option, Some, None}
use Rattle.aff_spelling.specs.Spelling.{shown_byte, shown, spelled}
use Rattle.aff_spelling.specs.Within.{within}
use Rattle.aff_spelling.specs.declared.spelling.Spelling.{Spelling}
use Rattle.aff_spelling.specs.declared.spelling.Spelling.TheVariants.{Raw, Escaped}
use Rattle.aff_spelling.proofs.SpellingLaws.{length_shown, shown_append, shown_one}
use Rattle.aff_spelling.proofs.WithinLaws.{within_some, within_none}

-- ---- Byte after byte.

module _ (run : List ℕ) (k : ℕ) (more : k < length run) where
  shown_next : shown (take (k + 1) run) ≡ shown (take k run) ++ shown_byte (get_or run k 0)
  shown_next = rw (add-one, take-suc run k 0) (shown_append (take k run) (get_or run k 0 ∷ []) ∙ ap (λ (l : List ℕ). shown (take k run) ++ l) (shown_one (get_or run k 0)))

  shown_rest : length (shown (drop k run)) ≡ length (shown_byte (get_or run k 0)) + length (shown (drop (k + 1) run))
  unfolding shown
  shown_rest =
      ap (λ (l : List ℕ). length (shown l)) (drop-cons run k 0 more ∙ ap (λ (n : ℕ). get_or run k 0 ∷ drop n run) (sym (add-one k)))
      ∙ length-append (shown_byte (get_or run k 0)) (shown (drop (k + 1) run))

shown_none : (run : List ℕ) (k : ℕ) → length run ≤ k → shown (drop k run) ≡ []
unfolding shown
shown_none run k h = let e : drop k run ≡ [] = drop_of_length-le run {i = k} h in rw e

-- The first k bytes are counted; `left` of the limit may still be.
pub record Counted (run : List ℕ) (limit left k : ℕ) : Type 0 where
  pub few : left ≤ limit
  pub counted : limit - left + length (shown (drop k run)) ≡ length (shown run)

module _ {run : List ℕ} {limit left k : ℕ} (c : Counted run limit left k) where
  pub counted_all : length run ≤ k → Some (limit - left) ≡ within limit (length (shown run))
  counted_all h =
      let e : limit - left ≡ length (shown run) = omega (arith, c.counted, ap length (shown_none run k h)) in
      ap Some e ∙ within_some limit (length (shown run)) (omega arith)

  module _ (more : k < length run) {own : ℕ} (is : own ≡ length (shown_byte (get_or run k 0))) where
    pub counted_past : left < own → None ≡ within limit (length (shown run))
    counted_past h = within_none limit (length (shown run)) (omega (arith, c.few, c.counted, shown_rest run k more))

    pub counted_next : own ≤ left → Counted run limit (left - own) (k + 1)
    counted_next h = record { few = omega (arith, c.few); counted = omega (arith, c.few, c.counted, shown_rest run k more) }

-- The first k bytes are written from place `at` on.
pub record PutShown (at : ℕ) (run o p : List ℕ) (end k : ℕ) : Type 0 where
  pub most : k ≤ length run
  pub written : Written at (shown (take k run)) o p end

pub put_none : (at : ℕ) (run o : List ℕ) → PutShown at run o o at 0
unfolding shown
put_none at run o = record { most = omega arith; written = written_none at [] o refl }

module _ {at : ℕ} {run o p : List ℕ} {end k : ℕ} (size : at + length (shown run) ≤ length o) (c : PutShown at run o p end k) where
  taken_fits : at + length (shown (take k run)) + length (shown (drop k run)) ≤ length o
  taken_fits =
      let e = ap length (ap shown (sym (take-append-drop k run)) ∙ shown_append (take k run) (drop k run)) ∙ length-append (shown (take k run)) (shown (drop k run)) in
      omega arith

  pub put_length : length p ≡ length o
  put_length = written_length c.written (omega (arith, taken_fits))

  module _ (more : k < length run) where
    pub byte_fits : end + length (shown_byte (get_or run k 0)) ≤ length p
    byte_fits = omega (arith, c.written.ends, put_length, taken_fits, shown_rest run k more)

    pub put_next : {next : ℕ} {q : List ℕ} → Written end (shown_byte (get_or run k 0)) p q next → PutShown at run o q next (k + 1)
    put_next w = record { most = omega arith; written = written_same (sym (shown_next run k more)) (written_more c.written (omega (arith, taken_fits)) w) }

-- ---- As far as the limit.

pub spelled_nil : (s : Spelling) → spelled s [] ≡ []
unfolding shown
spelled_nil Raw = refl
spelled_nil Escaped = refl

-- A name is no shorter as it is written.
spelled_long : (s : Spelling) (l : List ℕ) → length l ≤ length (spelled s l)
spelled_long Raw l = omega arith
spelled_long Escaped l = (length_shown l).0

-- One byte more than the limit decides how long a name is as it is written, where it is within the limit.
pub spelled_front : (s : Spelling) (limit : ℕ) (l : List ℕ) → within limit (length (spelled s (take (limit + 1) l))) ≡ within limit (length (spelled s l))
spelled_front s limit l =
    ⊎_elim (λ (h : length l ≤ limit + 1). ap (λ (m : List ℕ). within limit (length (spelled s m))) (take_all (limit + 1) l h))
    (λ (h : limit + 1 < length l).
    let n = length-take-le (limit + 1) l (omega arith) in
    sym (within_none limit (length (spelled s (take (limit + 1) l))) (omega (arith, spelled_long s (take (limit + 1) l))))
    ∙ within_none limit (length (spelled s l)) (omega (arith, spelled_long s l)))
    (le_or_lt (length l) (limit + 1))
