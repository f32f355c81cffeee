-- A run copied byte by byte. Assumes nothing.
use mathlib.Core.Path.{◌≡◌, refl, sym, ap, ◌∙◌}
use mathlib.Core.List.{List, [], ◌∷◌}
use Prim.Native.Nat.{ℕ, ◌+◌, ◌≤◌, ◌<◌}
use native.Mathlib.Numerals.{add-one}
use native.Mathlib.Omega.{arith}
use lib.ListN.{length, get_or, set, take, length-set}
use lib.Seq.{take-suc, take-length, length-take-le}
use Rattle.aff_format.specs.Bytes.{spliced}
use Rattle.aff_format.proofs.BytesLaws.{spliced_nil, spliced_next, set_spliced}

-- A loop has copied the first i bytes of a text to place at.
pub record Copied (at : ℕ) (text out₀ out : List ℕ) (i : ℕ) : Type 0 where
  pub few : i ≤ length text
  pub written : out ≡ spliced at (take i text) out₀
  pub sized : length out ≡ length out₀

module _ {at : ℕ} {text out₀ : List ℕ} where
  pub copied_none : Copied at text out₀ out₀ 0
  copied_none = record { few = omega arith; written = sym (spliced_nil at out₀); sized = refl }

  pub copied_next : {out : List ℕ} {i : ℕ} → at + length text ≤ length out₀ → Copied at text out₀ out i → i < length text
      → Copied at text out₀ (set out (at + i) (get_or text i 0)) (i + 1)
  copied_next {out} {i} size c h =
      let n : at + length (take i text) ≡ at + i = ap (λ (k : ℕ). at + k) (length-take-le i text c.few) in
      record {
        few = omega arith;
        written =
            spliced_next at (at + i) (take i text) (get_or text i 0 ∷ []) out₀ out (set out (at + i) (get_or text i 0)) n (omega arith) c.written
            (set_spliced (at + i) (get_or text i 0) out (omega (arith, c.sized)))
            ∙ rw (add-one, take-suc text i 0);
        sized = length-set out (at + i) (get_or text i 0) ∙ c.sized;
      }

  pub copied_all : {out : List ℕ} {i : ℕ} → Copied at text out₀ out i → length text ≤ i → out ≡ spliced at text out₀
  copied_all {out} {i} c h =
      let e : i ≡ length text = omega (arith, c.few) in
      c.written ∙ rw (e, take-length)
