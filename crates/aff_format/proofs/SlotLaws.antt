-- A slot is the entry's bytes written over zeros, one number after another: laws for the code that writes it. Assumes nothing.
use mathlib.Core.Path.{◌≡◌, ap, ◌∙◌}
use mathlib.Core.Bool.{true, false}
use mathlib.Core.List.{List, ◌∷◌, ◌++◌, append_assoc, append-nil}
use Prim.Native.Nat.{ℕ, ◌-◌}
use native.Mathlib.Numerals.{one-add}
use native.Mathlib.Omega.{arith}
use lib.ListN.{length, drop, replicate, length-append}
use Rattle.std.proofs.lemmas.List.{drop-replicate}
use Rattle.aff_format.specs.Bytes.{spliced}
use Rattle.aff_format.specs.Number.{be_bytes}
use Rattle.aff_format.specs.Kind.{kind_code, entry_size, is_void}
use Rattle.aff_format.specs.Entry.{entry_bytes, slot_bytes}
use Rattle.aff_format.specs.declared.entry.Entry.{Entry}
use Rattle.aff_format.proofs.BytesLaws.{spliced_next}
use Rattle.aff_format.proofs.NumberLaws.{length_be_bytes}
use Rattle.aff_format.proofs.EntryLaws.{length_entry_bytes}

over_zeros : (k : ℕ) (x : List ℕ) → spliced 1 x (k ∷ replicate 24 0) ≡ k ∷ (x ++ drop (length x) (replicate 24 0))
unfolding spliced
over_zeros k x = rw (one-add (length x))

slot_over : (e : Entry) (k : ℕ) (x : List ℕ) → k ∷ x ≡ entry_bytes e → spliced 1 x (k ∷ replicate 24 0) ≡ slot_bytes e
unfolding slot_bytes
slot_over e k x h =
    let n : 24 - length x ≡ 25 - entry_size e.kind = omega (arith, ap length h, length_entry_bytes e) in
    over_zeros k x ∙ rw (drop-replicate {X = ℕ} (length x) 24 0, n, ← h)

bytes_void : (e : Entry) → is_void e.kind ≡ true → kind_code e.kind ∷ (be_bytes 8 e.parent ++ be_bytes 4 e.string) ≡ entry_bytes e
unfolding entry_bytes
bytes_void e v = rw (v, append-nil)

bytes_full : (e : Entry) → is_void e.kind ≡ false
    → kind_code e.kind ∷ (((be_bytes 8 e.parent ++ be_bytes 4 e.string) ++ be_bytes 4 e.count) ++ be_bytes 8 e.offset) ≡ entry_bytes e
unfolding entry_bytes
bytes_full e v = rw v (simp append_assoc)

-- What the area holds at first and after each number.
module _ (e : Entry) (l₀ l₁ l₂ : List ℕ) (h₀ : l₀ ≡ kind_code e.kind ∷ replicate 24 0)
    (h₁ : l₁ ≡ spliced 1 (be_bytes 8 e.parent) l₀) (h₂ : l₂ ≡ spliced 9 (be_bytes 4 e.string) l₁) where
  two : l₂ ≡ spliced 1 (be_bytes 8 e.parent ++ be_bytes 4 e.string) l₀
  two = spliced_next 1 9 (be_bytes 8 e.parent) (be_bytes 4 e.string) l₀ l₁ l₂ (simp length_be_bytes) (rw h₀ (omega arith)) h₁ h₂

  pub slot_void : is_void e.kind ≡ true → l₂ ≡ slot_bytes e
  slot_void v = two ∙ rw h₀ (slot_over e (kind_code e.kind) (be_bytes 8 e.parent ++ be_bytes 4 e.string) (bytes_void e v))

  pub slot_full : is_void e.kind ≡ false
      → (l₃ l₄ : List ℕ) → l₃ ≡ spliced 13 (be_bytes 4 e.count) l₂ → l₄ ≡ spliced 17 (be_bytes 8 e.offset) l₃ → l₄ ≡ slot_bytes e
  slot_full v l₃ l₄ h₃ h₄ =
      let x = be_bytes 8 e.parent ++ be_bytes 4 e.string in
      let y = x ++ be_bytes 4 e.count in
      let three : l₃ ≡ spliced 1 y l₀ =
      spliced_next 1 13 x (be_bytes 4 e.count) l₀ l₂ l₃ (simp (length-append, length_be_bytes)) (rw h₀ (omega arith)) two h₃ in
      spliced_next 1 17 y (be_bytes 8 e.offset) l₀ l₃ l₄ (simp (length-append, length_be_bytes)) (rw h₀ (omega arith)) three h₄
      ∙ rw h₀ (slot_over e (kind_code e.kind) (y ++ be_bytes 8 e.offset) (bytes_full e v))
