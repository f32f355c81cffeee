-- Laws of the editions' layouts. Those that differ from edition to edition are proved by the edition; all others are about any edition. Assumes nothing.
use mathlib.Core.Path.{◌≡◌, refl, sym, ap, ◌∙◌}
use mathlib.Core.Bool.{Bool, true, false, cond}
use mathlib.Core.List.{List, [], ◌∷◌, append-nil}
use mathlib.Core.Logic.{◌⊎◌, inl, inr, ⊎_elim, ◌↔◌}
use Prim.Native.Nat.{ℕ, zero, suc, ◌+◌, ◌*◌, ◌≤◌, ◌<◌}
use native.Mathlib.Omega.{arith}
use lib.Dec.{eqb}
use lib.ListN.{length}
use borrow.Author.Tests.{eqb-true}
use Rattle.aff_format.specs.Edition.{editions, edition_number, signature_text, section_header_size, has_counts, header_order, is_written, section_rank, section_at, section_header_at, section_sum_at, header_sum_at, header_size, number_form, first_edition, edition_of, is_known, or_two, edition_by, is_found_written, names_written, NamesWritten}
use Rattle.aff_format.specs.Layouts.{Layouts}
use Rattle.aff_format.specs.Bytes.{spliced, same_bytes}
use Rattle.aff_format.specs.Number.{be_bytes}
use Rattle.aff_format.specs.declared.section.Section.{Section}
use Rattle.aff_format.specs.declared.section.Section.TheVariants.{Symbol, Tree, Data}
use Rattle.aff_format.specs.declared.edition.Edition.{Edition}
use Rattle.aff_format.specs.declared.edition.Edition.TheVariants.{One, Two, Three}
use Rattle.std.specs.Prelude.{Option, Some, None}
use Rattle.aff_format.proofs.ClimbLaws.{absurd_bool}
use Rattle.aff_format.proofs.NumberLaws.{length_be_bytes}

-- ---- By the edition.

-- A property that each edition of the list has, every edition has.
abbrev pub Each : (Edition → Type 0) → List Edition → Type 0
Each P [] = Unit {0}
Each P (e ∷ es) = P e × Each P es

pub each_edition : (P : Edition → Type 0) → Each P editions → (e : Edition) → P e
each_edition P h One = h.0
each_edition P h Two = h.1.0
each_edition P h Three = h.1.1.0

pub edition_of_number : (e : Edition) → edition_of (edition_number e) ≡ Some e
edition_of_number One = refl
edition_of_number Two = refl
edition_of_number Three = refl

pub length_signature_text : (e : Edition) → length (signature_text e) ≡ 20
unfolding signature_text
length_signature_text One = refl
length_signature_text Two = refl
length_signature_text Three = refl

-- No two editions have one text.
pub edition_of_text : (e : Edition) → first_edition (λ d. same_bytes (signature_text e) (signature_text d)) editions ≡ Some e
unfolding signature_text same_bytes
edition_of_text One = refl
edition_of_text Two = refl
edition_of_text Three = refl

-- The first signature byte is `L` in every edition, so it is not zero.
pub first_byte : (e : Edition) → (rest : List ℕ) × (signature_text e ≡ 76 ∷ rest)
unfolding signature_text
first_byte One = (_, refl)
first_byte Two = (_, refl)
first_byte Three = (_, refl)

-- A section header has offset, size and sum, and the record count where the edition has one.
pub section_header_parts : (e : Edition) → section_header_size e ≡ 16 + cond (has_counts e) 8 0 + 16
section_header_parts One = refl
section_header_parts Two = refl
section_header_parts Three = refl

-- A written edition has record counts.
pub written_counts : (e : Edition) → is_written e ≡ true → has_counts e ≡ true
written_counts One h = absurd_bool h
written_counts Two h = refl
written_counts Three h = refl

-- The order has each section once: rank and order are inverse to each other.
pub order_is : (e : Edition) → header_order e ≡ section_at e 0 ∷ section_at e 1 ∷ section_at e 2 ∷ []
order_is One = refl
order_is Two = refl
order_is Three = refl

pub section_at_rank : (e : Edition) (s : Section) → section_at e (section_rank e s) ≡ s
section_at_rank One Symbol = refl
section_at_rank One Tree = refl
section_at_rank One Data = refl
section_at_rank Two Symbol = refl
section_at_rank Two Tree = refl
section_at_rank Two Data = refl
section_at_rank Three Symbol = refl
section_at_rank Three Tree = refl
section_at_rank Three Data = refl

pub rank_below : (e : Edition) (s : Section) → section_rank e s < 3
rank_below One Symbol = omega arith
rank_below One Tree = omega arith
rank_below One Data = omega arith
rank_below Two Symbol = omega arith
rank_below Two Tree = omega arith
rank_below Two Data = omega arith
rank_below Three Symbol = omega arith
rank_below Three Tree = omega arith
rank_below Three Data = omega arith

pub rank_of_section : (e : Edition) → (section_rank e (section_at e 0) ≡ 0) × (section_rank e (section_at e 1) ≡ 1) × (section_rank e (section_at e 2) ≡ 2)
rank_of_section One = (refl, refl, refl)
rank_of_section Two = (refl, refl, refl)
rank_of_section Three = (refl, refl, refl)

pub section_header_sizes : (e : Edition) → (32 ≤ section_header_size e) × (section_header_size e ≤ 40)
section_header_sizes One = (omega arith, omega arith)
section_header_sizes Two = (omega arith, omega arith)
section_header_sizes Three = (omega arith, omega arith)

-- ---- Of any edition.

-- The header size written over the last four bytes of a form.
pub form_written : (n m : ℕ) → n ≡ m → spliced 8 (be_bytes 4 n) (0 ∷ 64 ∷ 2 ∷ 53 ∷ 4 ∷ 0 ∷ 3 ∷ 253 ∷ 0 ∷ 0 ∷ 0 ∷ 0 ∷ []) ≡ 0 ∷ 64 ∷ 2 ∷ 53 ∷ 4 ∷ 0 ∷ 3 ∷ 253 ∷ be_bytes 4 m
unfolding spliced
form_written n m h = rw (h, length_be_bytes 4 m, append-nil)

pub length_number_form : (e : Edition) → length (number_form e) ≡ 12
unfolding number_form
length_number_form e = simp length_be_bytes

pub header_least : (e : Edition) → 144 ≤ header_size e
header_least e = omega (arith, section_header_sizes e)

pub header_most : (e : Edition) → header_size e ≤ 168
header_most e = omega (arith, section_header_sizes e)

ranks_fit : (r n : ℕ) → r < 3 → r * n + n ≤ 3 * n
ranks_fit zero n h = omega arith
ranks_fit (suc zero) n h = omega arith
ranks_fit (suc (suc zero)) n h = omega arith
ranks_fit (suc (suc (suc r))) n h = absurd (omega arith)

pub section_header_most : (e : Edition) (s : Section) → section_header_at e s + section_header_size e ≤ header_sum_at e
section_header_most e s = omega (arith, ranks_fit (section_rank e s) (section_header_size e) (rank_below e s))

pub section_sum_last : (e : Edition) (s : Section) → section_sum_at e s + 16 ≡ section_header_at e s + section_header_size e
section_sum_last e s = omega (arith, section_header_sizes e)

-- ---- The edition of a number.

no_edition : {A : Type 0} {e : Edition} → None ≡ Some e → A
no_edition h = absurd_bool (ap is_known h)

-- The edition found passes the test.
pub found_passes : (test : Edition → Bool) (es : List Edition) {e : Edition} → first_edition test es ≡ Some e → test e ≡ true
found_passes test [] h = no_edition h
found_passes test (d ∷ es) {e} h = go (test d) refl h (λ q. found_passes test es q)
  where
    go : (b : Bool) → test d ≡ b → cond b (Some d) (first_edition test es) ≡ Some e → (first_edition test es ≡ Some e → test e ≡ true) → test e ≡ true
    go true t q rest = ap test (sym (ap or_two q)) ∙ t
    go false t q rest = rest q

pub number_of_edition : (n : ℕ) {e : Edition} → edition_of n ≡ Some e → edition_number e ≡ n
number_of_edition n {e} h = sym (eqb-true n (edition_number e) (found_passes (λ d. eqb n (edition_number d)) editions h))

-- A number names a written edition exactly when the test says so. The edition is then the one by that number.
pub names_written_lem : (n : ℕ) → names_written n ≡ true → NamesWritten n
names_written_lem n h = go (edition_of n) refl h
  where
    go : (f : Option Edition) → edition_of n ≡ f → is_found_written f ≡ true → NamesWritten n
    go (Some e) q w = (e, number_of_edition n q, w)
    go None q w = absurd_bool w

pub written_named : (n : ℕ) → NamesWritten n → names_written n ≡ true
written_named n (e, is, w) = rw (← is, edition_of_number e) w

pub edition_by_number : (e : Edition) → edition_by (edition_number e) ≡ e
edition_by_number e = ap or_two (edition_of_number e)

pub written_edition : (n : ℕ) → NamesWritten n → is_written (edition_by n) ≡ true
written_edition n (e, is, w) = rw (← is, edition_by_number e) w

-- Which numbers name an edition, and which one that is written.
pub edition_numbers : (n : ℕ) → ((e : Edition) × (edition_number e ≡ n)) ↔ ((1 ≤ n) × (n ≤ 3))
edition_numbers n = (to, from n)
  where
    to : (e : Edition) × (edition_number e ≡ n) → (1 ≤ n) × (n ≤ 3)
    to (One, is) = (omega (arith, is), omega (arith, is))
    to (Two, is) = (omega (arith, is), omega (arith, is))
    to (Three, is) = (omega (arith, is), omega (arith, is))

    from : (m : ℕ) → (1 ≤ m) × (m ≤ 3) → (e : Edition) × (edition_number e ≡ m)
    from zero (l, h) = absurd (omega arith)
    from (suc zero) (l, h) = (One, refl)
    from (suc (suc zero)) (l, h) = (Two, refl)
    from (suc (suc (suc zero))) (l, h) = (Three, refl)
    from (suc (suc (suc (suc m)))) (l, h) = absurd (omega arith)

pub written_numbers : (n : ℕ) → NamesWritten n ↔ ((n ≡ 2) ⊎ (n ≡ 3))
written_numbers n = (to, ⊎_elim (λ p. (Two, sym p, refl)) (λ p. (Three, sym p, refl)))
  where
    to : NamesWritten n → (n ≡ 2) ⊎ (n ≡ 3)
    to (One, is, w) = absurd_bool w
    to (Two, is, w) = inl (sym is)
    to (Three, is, w) = inr (sym is)

-- ---- The layouts in numbers.

text_is : (e : Edition) → signature_text e
    ≡ 76 ∷ 72 ∷ 80 ∷ 67 ∷ 32 ∷ 65 ∷ 70 ∷ 70 ∷ 32 ∷ 118 ∷ 101 ∷ 114 ∷ 115 ∷ 105 ∷ 111 ∷ 110 ∷ 32 ∷ (48 + edition_number e) ∷ 46 ∷ 48 ∷ []
unfolding signature_text
text_is One = refl
text_is Two = refl
text_is Three = refl

pub layouts : Layouts
layouts =
    record {
      one = record { symbols_at = refl; tree_at = refl; data_at = refl; sum_at = refl; size_is = refl; counts_are = refl };
      two = record { symbols_at = refl; tree_at = refl; data_at = refl; sum_at = refl; size_is = refl; counts_are = refl };
      three = record { symbols_at = refl; tree_at = refl; data_at = refl; sum_at = refl; size_is = refl; counts_are = refl };
      text = text_is;
      least = refl;
      most = refl;
    }
