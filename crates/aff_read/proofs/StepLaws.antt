-- A climb along a path, for a record that belongs: what is counted on the way, step by step. Assumes nothing.
use mathlib.Core.Path.{◌≡◌, refl, sym, ap, ◌∙◌}
use mathlib.Core.List.{List, ◌∷◌}
use Prim.Native.Nat.{ℕ, ◌+◌, ◌-◌, ◌≤◌, ◌<◌}
use native.Mathlib.Omega.{arith}
use lib.ListN.{length, length-append}
use Rattle.aff_reader.specs.Belongs.{ReaderBelongs}
use Rattle.aff_reader.specs.declared.reader.Reader.{Reader}
use Rattle.aff_reader.proofs.BelongsLaws.{parent_within}
use Rattle.std.specs.Prelude.{Option, Some, None}
use Rattle.aff_nodes.specs.Recall.{parent_at}
use Rattle.aff_read.specs.Paths.{spelled_path_at}
use Rattle.aff_spelling.specs.declared.spelling.Spelling.{Spelling}
use Rattle.aff_spelling.specs.Within.{within}
use Rattle.aff_spelling.proofs.WithinLaws.{within_some, within_none, within_past, within_exact}
use Rattle.aff_read.proofs.FrontLaws.{written_name, front_at, front_root_at, path_other, path_front}

-- From `node` the climb is at `at`; `left` of the limit may still be counted.
pub record Measured (s : Spelling) (image : List ℕ) (reader : Reader) (strings entries : List ℕ) (node limit left at : ℕ) : Type 0 where
  pub there : at ≤ reader.nodes
  pub few : left ≤ limit
  pub counted : limit - left + length (spelled_path_at s image reader strings entries at) ≡ length (spelled_path_at s image reader strings entries node)

module _ (s : Spelling) {image : List ℕ} {reader : Reader} {strings entries : List ℕ} (b : ReaderBelongs image reader strings entries) where
  path_length : (at p : ℕ) → at ≤ reader.nodes → p ≡ parent_at image entries at
      → length (spelled_path_at s image reader strings entries at) ≡ length (front_at s image reader strings entries p) + (length (written_name s image reader strings entries at) + 1)
  path_length at p there up =
      let q = ap length (path_front s image reader strings entries b at there p up) ∙ length-append (front_at s image reader strings entries p) (47 ∷ written_name s image reader strings entries at) in
      omega arith

module _ {s : Spelling} {image : List ℕ} {reader : Reader} {strings entries : List ℕ} (b : ReaderBelongs image reader strings entries) where
  module _ {node limit left at : ℕ} (m : Measured s image reader strings entries node limit left at) where
    pub measure_past : None ≡ within left (length (written_name s image reader strings entries at) + 1) → None ≡ within limit (length (spelled_path_at s image reader strings entries node))
    measure_past is =
        let o = within_past left (length (written_name s image reader strings entries at) + 1) is in
        let q = path_length s b at (parent_at image entries at) m.there refl in
        within_none limit (length (spelled_path_at s image reader strings entries node)) (omega (arith, m.counted, m.few))

    module _ {own : ℕ} (p : ℕ) (is : Some own ≡ within left (length (written_name s image reader strings entries at) + 1)) (up : p ≡ parent_at image entries at) where
      own_exact : (own ≡ length (written_name s image reader strings entries at) + 1) × (own ≤ left)
      own_exact = let e = within_exact left (length (written_name s image reader strings entries at) + 1) is in (e.0, omega (arith, e.0, e.1))

      step_length : length (spelled_path_at s image reader strings entries at) ≡ length (front_at s image reader strings entries p) + own
      step_length = let e = own_exact.0 in let q = path_length s b at p m.there up in omega arith

      pub measure_done : p ≡ 0 → Some (limit - (left - own)) ≡ within limit (length (spelled_path_at s image reader strings entries node))
      measure_done z =
          let q = step_length in
          let f = ap length (front_root_at (parent_at image entries) (written_name s image reader strings entries) reader.nodes p z) in
          let e : length (spelled_path_at s image reader strings entries node) ≡ limit - (left - own) = omega (arith, m.counted, m.few, own_exact.1) in
          ap Some (sym e) ∙ within_some limit (length (spelled_path_at s image reader strings entries node)) (omega arith)

      module _ (other : p ≡ 0 → ⊥) where
        on_length : length (spelled_path_at s image reader strings entries at) ≡ length (spelled_path_at s image reader strings entries p) + own
        on_length = rw (path_other s image reader strings entries p other) step_length

        pub measure_less : length (spelled_path_at s image reader strings entries p) < length (spelled_path_at s image reader strings entries at)
        measure_less = let q = on_length in let e = own_exact.0 in omega arith

        pub measure_on : Measured s image reader strings entries node limit (left - own) p
        measure_on =
            let q = on_length in
            record { there = rw up (parent_within b at m.there); few = omega (arith, m.few); counted = omega (arith, m.counted, m.few, own_exact.1) }
