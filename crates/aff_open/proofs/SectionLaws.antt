-- Laws of the text, the header and the sections of an image. Assumes nothing.
use mathlib.Core.Path.{◌≡◌, refl}
use mathlib.Core.Bool.{false, not, true≢false}
use mathlib.Core.List.{List}
use Prim.Native.Nat.{ℕ, ◌+◌, ◌≤◌}
use lib.ListN.{length, take}
use borrow.Author.Tests.{ltb-false}
use Rattle.aff_format.specs.Answer.{accepted, first_wrong}
use Rattle.aff_format.specs.Bytes.{same_bytes}
use Rattle.aff_format.specs.Edition.{editions, header_size, signature_text, is_known, or_two}
use Rattle.aff_format.specs.declared.section.Section.{Section}
use Rattle.aff_format.specs.declared.section.Section.TheVariants.{Symbol, Tree, Data}
use Rattle.aff_format.specs.declared.edition.Edition.{Edition}
use Rattle.std.specs.Prelude.{Option, Some, None}
use Rattle.aff_format.proofs.AnswerLaws.{passed}
use Rattle.aff_format.proofs.EditionLaws.{found_passes, edition_of_text}
use Rattle.aff_format.proofs.SameLaws.{same_eq}
use Rattle.aff_open.specs.Sections.{text_edition, edition_in, section_offset, section_size, ends_past, sum_wrong}
use Rattle.aff_open.specs.Opening.{header_checks, section_checks}

-- The text of an edition: the image begins with it, and with no other's.
pub text_known : (e : Edition) (image : List ℕ) → text_edition image ≡ Some e → take 20 image ≡ signature_text e
unfolding text_edition
text_known e image h = same_eq _ _ (found_passes (λ d. same_bytes (take 20 image) (signature_text d)) editions h)

pub known_text : (e : Edition) (image : List ℕ) → take 20 image ≡ signature_text e → text_edition image ≡ Some e
unfolding text_edition same_bytes signature_text
known_text e image h = rw h (edition_of_text e)

-- A section that does not end past the image.
pub ends_inside : (e : Edition) (s : Section) (image : List ℕ) → ends_past e s image ≡ false
    → section_offset e s image + section_size e s image ≤ length image
unfolding ends_past
ends_inside e s image h = ltb-false _ _ h

-- What is known after accepted checks: those of the header, 6, and 6 and 7.
pub known_is : (f : Option Edition) → not (is_known f) ≡ false → f ≡ Some (or_two f)
known_is (Some e) h = refl
known_is None h = absurd (true≢false h)

module _ {A : Type 0} (image : List ℕ) (a : A) {b : A} where
  pub header_clear : (form : List ℕ) → first_wrong (header_checks image form) a ≡ accepted b
      → (text_edition image ≡ Some (edition_in image)) × (header_size (edition_in image) ≤ length image)
  header_clear form h = let p = passed (header_checks image form) a h in (known_is (text_edition image) p.1.0, ltb-false _ _ p.1.1.0)

  pub section_clear : (e : Edition) → first_wrong (section_checks e image) a ≡ accepted b
      → (s : Section) → (ends_past e s image ≡ false) × (sum_wrong e s image ≡ false)
  section_clear e h Symbol = let p = passed (section_checks e image) a h in (p.0, p.1.1.1.0)
  section_clear e h Tree = let p = passed (section_checks e image) a h in (p.1.0, p.1.1.1.1.0)
  section_clear e h Data = let p = passed (section_checks e image) a h in (p.1.1.0, p.1.1.1.1.1.0)
