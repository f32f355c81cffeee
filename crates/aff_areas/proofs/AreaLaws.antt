-- Laws of the strings and nodes so far: one node more, and the sizes of the entries. By induction on the nodes. Assumes nothing.
use mathlib.Core.Path.{◌≡◌, refl, sym, ap, ◌∙◌}
use mathlib.Core.List.{List, [], ◌∷◌, ◌++◌}
use Prim.Native.Nat.{ℕ, zero, suc, ◌+◌, ◌*◌, ◌≤◌, ◌<◌}
use native.Mathlib.Numerals.{add-one}
use native.Mathlib.Omega.{arith}
use lib.ListN.{length, set, take, drop, length-append}
use borrow.Author.Tests.{ne_eqb}
use Rattle.aff_format.specs.Bytes.{spliced}
use Rattle.aff_format.specs.Kind.{entry_size}
use Rattle.aff_format.specs.Limits.{node_limit, tree_area}
use Rattle.aff_format.proofs.BytesLaws.{length_part, length_spliced, spliced_next, set_spliced}
use Rattle.aff_format.proofs.KindLaws.{entry_size_bounds}
use Rattle.aff_format.specs.Entry.{or_none}
use Rattle.aff_areas.specs.Areas.{slot_at, found_slot, slot_entry, entry_sizes, entries_out}

-- The bytes of node k's entry in a file.
abbrev pub entry_part : List ℕ → ℕ → List ℕ
entry_part tree k = take (entry_size (slot_entry tree k).kind) (drop (slot_at k) tree)

module _ (tree : List ℕ) where
  -- The entry of a node is the one found in its slot.
  pub slot_found : (k : ℕ) → 0 < k → slot_entry tree k ≡ or_none (found_slot tree k)
  unfolding slot_entry
  slot_found k h = rw (ne_eqb k 0 (λ q. omega arith))

  -- One node more.
  pub entry_sizes_more : (n : ℕ) → entry_sizes tree (n + 1) ≡ entry_sizes tree n + entry_size (slot_entry tree (n + 1)).kind
  unfolding entry_sizes
  entry_sizes_more n = ap (entry_sizes tree) (add-one n)

  pub entries_out_more : (n : ℕ) → entries_out tree (n + 1) ≡ entries_out tree n ++ entry_part tree (n + 1)
  unfolding entries_out
  entries_out_more n = ap (entries_out tree) (add-one n)

  -- At most 25 bytes a node.
  pub entry_sizes_most : (n : ℕ) → entry_sizes tree n ≤ 25 * n
  unfolding entry_sizes
  entry_sizes_most zero = omega arith
  entry_sizes_most (suc n) = omega (arith, entry_sizes_most n, entry_size_bounds (slot_entry tree (n + 1)).kind)

  -- A slot lies inside the tree area.
  pub length_slot : (k n : ℕ) → 0 < k → k ≤ node_limit → n ≤ 25 → length tree ≡ tree_area → length (take n (drop (slot_at k) tree)) ≡ n
  length_slot k n l h f a = length_part (slot_at k) n tree (omega arith)

  pub length_entry_part : (k : ℕ) → 0 < k → k ≤ node_limit → length tree ≡ tree_area → length (entry_part tree k) ≡ entry_size (slot_entry tree k).kind
  length_entry_part k l h a = length_slot k (entry_size (slot_entry tree k).kind) l h (entry_size_bounds (slot_entry tree k).kind).1 a

  -- The entries put out have the entries' sizes.
  pub length_entries_out : (n : ℕ) → n ≤ node_limit → length tree ≡ tree_area → length (entries_out tree n) ≡ entry_sizes tree n
  unfolding entry_sizes entries_out
  length_entries_out zero h a = refl
  length_entries_out (suc n) h a =
      length-append (entries_out tree n) (entry_part tree (n + 1))
      ∙ omega (arith, length_entries_out n (omega arith) a, length_entry_part (n + 1) (omega arith) (omega arith) a)

  pub length_entries_out_more : (n : ℕ) → n < node_limit → length tree ≡ tree_area
      → length (entries_out tree (n + 1)) ≡ length (entries_out tree n) + entry_size (slot_entry tree (n + 1)).kind
  length_entries_out_more n h a =
      length_entries_out (n + 1) (omega arith) a ∙ entry_sizes_more n ∙ omega (arith, length_entries_out n (omega arith) a)

  -- An area with the entries of the first n nodes at its front, and one more after them.
  pub entries_next : (n at : ℕ) (o₀ o₁ o₂ : List ℕ) → at ≡ length (entries_out tree n) → at ≤ length o₀
      → o₁ ≡ spliced 0 (entries_out tree n) o₀ → o₂ ≡ spliced at (entry_part tree (n + 1)) o₁ → o₂ ≡ spliced 0 (entries_out tree (n + 1)) o₀
  entries_next n at o₀ o₁ o₂ e f h₁ h₂ =
      spliced_next 0 at (entries_out tree n) (entry_part tree (n + 1)) o₀ o₁ o₂ (omega arith) f h₁ h₂
      ∙ ap (λ (l : List ℕ). spliced 0 l o₀) (sym (entries_out_more n))

-- A name and its zero after it.
pub name_stored : (at : ℕ) (name l₀ l₁ : List ℕ) → at + length name < length l₀ → l₁ ≡ spliced at name l₀
    → set l₁ (at + length name) 0 ≡ spliced at (name ++ (0 ∷ [])) l₀
name_stored at name l₀ l₁ h e =
    let n : length l₁ ≡ length l₀ = ap length e ∙ length_spliced at name l₀ (omega arith) in
    spliced_next at (at + length name) name (0 ∷ []) l₀ l₁ (set l₁ (at + length name) 0) refl (omega arith) e
    (set_spliced (at + length name) 0 l₁ (omega arith))
