-- A header is written part after part over an area, and each part has its length: laws for the code that writes it. Assumes nothing.
use mathlib.Core.Path.{◌≡◌, ap, ◌∙◌}
use mathlib.Core.Bool.{Bool, true, false, cond}
use mathlib.Core.List.{List, [], ◌++◌, map, append_assoc, append-nil}
use Prim.Native.Nat.{ℕ, ◌+◌, ◌-◌, ◌≤◌}
use native.Mathlib.Omega.{arith}
use lib.ListN.{length, take, drop, length-append}
use lib.Seq.{take_at, length-take-le}
use Rattle.aff_md5.specs.Md5.{md5}
use Rattle.aff_md5.proofs.DigestLaws.{length_md5}
use Rattle.aff_format.specs.Bytes.{spliced, joined}
use Rattle.aff_format.specs.Edition.{signature_text, has_counts, header_order, section_at, signature_size, sum_size, section_header_size, header_sum_at, header_size}
use Rattle.aff_format.specs.Number.{be_bytes}
use Rattle.aff_format.specs.declared.edition.Edition.{Edition}
use Rattle.aff_format.specs.declared.section.Section.{Section}
use Rattle.aff_format.proofs.BytesLaws.{spliced_next}
use Rattle.aff_format.proofs.EditionLaws.{length_signature_text, section_header_parts, order_is}
use Rattle.aff_format.proofs.NumberLaws.{length_be_bytes}
use Rattle.aff_header.specs.Header.{section_numbers, section_header, header_front, with_sum}

-- ---- Lengths.

pub length_section_numbers : (e : Edition) (offset size count : ℕ) → length (section_numbers e offset size count) ≡ 16 + cond (has_counts e) 8 0
unfolding section_numbers
length_section_numbers e offset size count = go (has_counts e)
  where
    go : (b : Bool) → length (be_bytes 8 offset ++ (be_bytes 8 size ++ cond b (be_bytes 8 count) [])) ≡ 16 + cond b 8 0
    go true = simp (length-append, length_be_bytes)
    go false = simp (length-append, length_be_bytes)

pub length_section_header : (e : Edition) (offset count : ℕ) (bytes : List ℕ) → length (section_header e offset count bytes) ≡ section_header_size e
unfolding section_header
length_section_header e offset count bytes =
    length-append (section_numbers e offset (length bytes) count) (md5 bytes)
    ∙ omega (arith, length_section_numbers e offset (length bytes) count, length_md5 bytes, section_header_parts e)

-- The three section headers of an edition, in its order.
pub three_headers : (e : Edition) (h : Section → List ℕ)
    → joined (map h (header_order e)) ≡ h (section_at e 0) ++ (h (section_at e 1) ++ h (section_at e 2))
three_headers e h = ap (λ (order : List Section). joined (map h order)) (order_is e) ∙ simp append-nil

pub length_header_front : (e : Edition) (form : List ℕ) (h : Section → List ℕ) → length form ≡ 12 → ((s : Section) → length (h s) ≡ section_header_size e)
    → length (header_front e form h) ≡ header_sum_at e
unfolding header_front
length_header_front e form h f n =
    rw (three_headers e h)
    (simp (length-append, length_signature_text, f, n)
    (omega arith))

pub length_with_sum : (e : Edition) (front : List ℕ) → length front ≡ header_sum_at e → length (with_sum front) ≡ header_size e
unfolding with_sum
length_with_sum e front h = simp (length-append, length_md5) (omega (arith, h))

-- The front of an area is the run that was written there.
pub take_front : (n : ℕ) (x l : List ℕ) → length x ≡ n → take n (spliced 0 x l) ≡ x
unfolding spliced
take_front n x l h = take_at x (drop (0 + length x) l) n h

-- ---- Parts written one after the other.

-- Two numbers of 8 bytes, and a third one where the edition has counts.
module _ (e : Edition) (at a b c : ℕ) (l₀ l₁ l₂ : List ℕ) (f : at + section_header_size e ≤ length l₀)
    (h₁ : l₁ ≡ spliced at (be_bytes 8 a) l₀) (h₂ : l₂ ≡ spliced (at + 8) (be_bytes 8 b) l₁) where
  two_numbers : l₂ ≡ spliced at (be_bytes 8 a ++ be_bytes 8 b) l₀
  two_numbers = spliced_next at (at + 8) (be_bytes 8 a) (be_bytes 8 b) l₀ l₁ l₂ (simp length_be_bytes) (omega (arith, section_header_parts e)) h₁ h₂

  pub with_count : (l₃ : List ℕ) → has_counts e ≡ true → l₃ ≡ spliced (at + 16) (be_bytes 8 c) l₂ → l₃ ≡ spliced at (section_numbers e a b c) l₀
  unfolding section_numbers
  with_count l₃ k h₃ =
      let m : at + length (be_bytes 8 a ++ be_bytes 8 b) ≡ at + 16 = simp (length-append, length_be_bytes) in
      spliced_next at (at + 16) (be_bytes 8 a ++ be_bytes 8 b) (be_bytes 8 c) l₀ l₂ l₃ m (omega (arith, section_header_parts e)) two_numbers h₃
      ∙ rw (k, append_assoc)

  pub without_count : has_counts e ≡ false → l₂ ≡ spliced at (section_numbers e a b c) l₀
  unfolding section_numbers
  without_count k = two_numbers ∙ rw (k, append-nil)

-- The sum after them.
pub section_over : (e : Edition) (at offset count n : ℕ) (bytes sum l₀ l₁ l₂ : List ℕ) → at + section_header_size e ≤ length l₀ → n ≡ section_header_size e
    → l₁ ≡ spliced at (section_numbers e offset (length bytes) count) l₀ → sum ≡ md5 bytes → l₂ ≡ spliced (at + (n - sum_size)) sum l₁
    → l₂ ≡ spliced at (section_header e offset count bytes) l₀
unfolding section_header
section_over e at offset count n bytes sum l₀ l₁ l₂ f i h₁ s h₂ =
    let x = section_numbers e offset (length bytes) count in
    let m : at + length x ≡ at + (n - sum_size) = omega (arith, i, length_section_numbers e offset (length bytes) count, section_header_parts e) in
    spliced_next at (at + (n - sum_size)) x sum l₀ l₁ l₂ m (omega arith) h₁ h₂ ∙ rw s

-- The signature: its text, and the form after it.
pub signature_over : (e : Edition) (text form l₀ l₁ l₂ : List ℕ) → signature_size ≤ length l₀
    → text ≡ signature_text e → l₁ ≡ spliced 0 text l₀ → l₂ ≡ spliced 20 form l₁ → l₂ ≡ spliced 0 (signature_text e ++ form) l₀
signature_over e text form l₀ l₁ l₂ f t h₁ h₂ =
    let m : 0 + length text ≡ 20 = rw t (omega (arith, length_signature_text e)) in
    spliced_next 0 20 text form l₀ l₁ l₂ m (omega arith) h₁ h₂ ∙ rw t

-- The header sum after the front.
pub sum_over : (e : Edition) (at : ℕ) (sum l₀ l₁ : List ℕ) → header_size e ≤ length l₀ → at ≡ header_sum_at e → sum ≡ md5 (take at l₀) → l₁ ≡ spliced at sum l₀
    → take (header_size e) l₁ ≡ with_sum (take (header_sum_at e) l₀)
unfolding spliced with_sum
sum_over e at sum l₀ l₁ f i s h =
    let front = take (header_sum_at e) l₀ in
    let k : sum ≡ md5 front = s ∙ rw i in
    let n : length (front ++ md5 front) ≡ header_size e = length-append front (md5 front) ∙ omega (arith, length-take-le (header_sum_at e) l₀ (omega arith), length_md5 front) in
    ap (take (header_size e)) (h ∙ rw (i, k, ← append_assoc)) ∙ take_at (front ++ md5 front) (drop (header_sum_at e + length (md5 front)) l₀) (header_size e) n
