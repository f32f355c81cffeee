-- Runs written one after the other. Assumes nothing.
use mathlib.Core.Path.{◌≡◌, refl, sym, ap, ◌∙◌}
use mathlib.Core.Bool.{Bool, true, false}
use mathlib.Core.List.{List, [], ◌∷◌, ◌++◌}
use Prim.Native.Nat.{ℕ, ◌+◌, ◌≤◌, ◌<◌}
use native.Mathlib.Nat.{add-zero, zero-add}
use native.Mathlib.Omega.{arith}
use lib.Dec.{ltb}
use lib.ListN.{length, take, drop, set, length-append}
use lib.Seq.{take_at}
use borrow.Author.Tests.{le-ltb, ltb-true, ltb-false}
use Rattle.aff_format.specs.Answer.{accepted, refused, check, refusal, unless}
use Rattle.aff_format.specs.Bytes.{spliced}
use Rattle.aff_format.specs.declared.refusal.RefusalCode.{RefusalCode}
use Rattle.aff_format.proofs.AnswerLaws.{not_both, passed, passed_value}
use Rattle.aff_format.proofs.BytesLaws.{length_spliced, spliced_nil, spliced_next, set_spliced}
use Rattle.aff_format.specs.passes.Written.{Written, text_answer}

pub written_none : (at : ℕ) (x o : List ℕ) → x ≡ [] → Written at x o o at
written_none at x o e = rw e (record { ends = sym (add-zero at); area = sym (spliced_nil at o) })

pub written_same : {at end : ℕ} {x y o p : List ℕ} → x ≡ y → Written at x o p end → Written at y o p end
written_same e w = rw (sym e) w

-- One number stored.
pub written_one : (at v : ℕ) (o : List ℕ) → at < length o → Written at (v ∷ []) o (set o at v) (at + 1)
written_one at v o h = record { ends = refl; area = set_spliced at v o h }

module _ {at mid : ℕ} {x o p : List ℕ} (v : Written at x o p mid) (fits : at + length x ≤ length o) where
  pub written_length : length p ≡ length o
  written_length = rw v.area (length_spliced at x o fits)

  -- One run and another after it.
  pub written_more : {end : ℕ} {y q : List ℕ} → Written mid y p q end → Written at (x ++ y) o q end
  written_more {end} {y} {q} w =
      record {
        ends = omega (arith, v.ends, w.ends, length-append x y);
        area = spliced_next at mid x y o p q (sym v.ends) (omega (arith, v.ends)) v.area w.area;
      }

-- One number stored, and a run after it.
pub written_cons : (at v : ℕ) (x o : List ℕ) {end : ℕ} {q : List ℕ} → at + length (v ∷ x) ≤ length o → Written (at + 1) x (set o at v) q end → Written at (v ∷ x) o q end
written_cons at v x o h w =
    let fits : at + length {A = ℕ} (v ∷ []) ≤ length o = omega arith in
    written_more (written_one at v o (omega arith)) fits w

-- A text of two parts, for an output that is long enough.
pub record TwoParts (x y whole o : List ℕ) : Type 0 where
  pub is : whole ≡ x ++ y
  pub fits : length whole ≤ length o

-- The first part is written at the front of the output, then the other after it.
module _ {x y whole o : List ℕ} (t : TwoParts x y whole o) where
  whole_length : length whole ≡ length x + length y
  whole_length = ap length t.is ∙ length-append x y

  pub first_fits : length x ≤ length o
  first_fits = omega (arith, whole_length, t.fits)

  module _ {mid : ℕ} {p : List ℕ} (w : Written 0 x o p mid) where
    pub other_fits : length p ≡ length o → mid + length y ≤ length p
    other_fits e = omega (arith, whole_length, t.fits, w.ends)

    pub both_written : {end : ℕ} {q : List ℕ} → Written mid y p q end → Written 0 whole o q end
    both_written v = written_same (sym t.is) (written_more w (omega (arith, first_fits)) v)

-- At the front of an area.
pub written_front : {end : ℕ} {x o p : List ℕ} → Written 0 x o p end → (end ≡ length x) × (p ≡ x ++ drop (length x) o)
unfolding spliced
written_front w = (omega (arith, w.ends), w.area ∙ rw zero-add)

pub written_taken : {end : ℕ} {x o p : List ℕ} → Written 0 x o p end → take end p ≡ x
written_taken {end} {x} {o} w = let f = written_front w in rw f.1 (take_at x (drop (length x) o) end (sym f.0))

-- A text that fits, written at the front of an output: the answer, and the output after it.
pub text_written : {end : ℕ} {text o p : List ℕ} → length text ≤ length o → Written 0 text o p end
    → (accepted end ≡ text_answer (length o) text) × (p ≡ text ++ drop (length text) o)
text_written {end} {text} {o} h w = let f = written_front w in (rw (le-ltb (length o) (length text) h) (ap accepted f.0), f.1)

-- What the answer of a text says of the output's size.
pub text_accepted : (size : ℕ) (text : List ℕ) {n : ℕ} → text_answer size text ≡ accepted n → (n ≡ length text) × (length text ≤ size)
text_accepted size text h =
    let checks = check (ltb size (length text)) (refusal 21) ∷ [] in
    (sym (passed_value checks (length text) h), ltb-false size (length text) (passed checks (length text) h).0)

pub text_refused : (size : ℕ) (text : List ℕ) {t : RefusalCode} → text_answer size text ≡ refused t → (t ≡ refusal 21) × (size < length text)
text_refused size text h = go (ltb size (length text)) refl h
  where
    go : (b : Bool) → ltb size (length text) ≡ b → {t : RefusalCode} → unless b (refusal 21) (accepted (length text)) ≡ refused t → (t ≡ refusal 21) × (size < length text)
    go true l e = (cc, ltb-true size (length text) l)
    go false l e = not_both (sym e)
