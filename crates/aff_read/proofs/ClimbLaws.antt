-- The table of a climb: a node stored in it, the whole climb stored, and the front that is written from it. Assumes nothing.
use mathlib.Core.Path.{◌≡◌, refl, sym, ap, ◌∙◌}
use mathlib.Core.Bool.{Bool, true, false}
use mathlib.Core.List.{List, ◌∷◌}
use mathlib.Core.Logic.{⊎_elim}
use Prim.Native.Nat.{ℕ, zero, suc, ◌+◌, ◌≤◌, ◌<◌}
use native.Mathlib.Nat.{eq-or-lt_of_le, le_of_suc-le-suc}
use native.Mathlib.Omega.{arith}
use lib.Dec.{eqb}
use lib.ListN.{length, get_or, set, replicate, length-append}
use lib.Seq.{get_or-set_same, get_or-set_other}
use borrow.Author.Tests.{eqb-true, eqb-false}
use Rattle.aff_format.specs.Tree.{front_by}
use Rattle.aff_format.proofs.TreeLaws.{front_step}
use Rattle.aff_reader.specs.Belongs.{ReaderBelongs}
use Rattle.aff_reader.specs.declared.reader.Reader.{Reader}
use Rattle.aff_reader.proofs.BelongsLaws.{parent_within}
use Rattle.aff_read.specs.passes.Climb.{above, noted_at, noted_name, table_front, NotedInside, TableInside, NodeNoted, NotedMore, ClimbNoted}
use Rattle.aff_read.specs.declared.paths.Noted.{Noted}
use Rattle.aff_nodes.specs.Recall.{symbols_end, parent_at, name_at}
use Rattle.aff_read.proofs.FrontLaws.{written_name, front_at, path_other, own_name}
use Rattle.aff_read.specs.Paths.{spelled_path_at}
use Rattle.aff_spelling.specs.declared.spelling.Spelling.{Spelling}
use Rattle.aff_spelling.specs.declared.spelling.Spelling.TheVariants.{Raw}
use Rattle.aff_nodes.proofs.SpanLaws.{name_from_lem}
use Rattle.aff_format.proofs.RecordedLaws.{name_ends, name_part}
use Rattle.aff_format.specs.Recorded.{recorded_entry, name_from}

abbrev none : Noted
none = record { parent = 0; from = 0; end = 0 }

-- A table of zeros.
pub zeros_inside : (image : List ℕ) (z : Noted) → (z.parent ≡ 0) × ((z.from ≡ 0) × (z.end ≡ 0)) → (n : ℕ) → TableInside image (replicate n z)
zeros_inside image z is = go
  where
    go : (n k : ℕ) → NotedInside image (noted_at (replicate n z) k)
    go zero k = record { parent = omega arith; begins = omega arith; ends = omega arith }
    go (suc n) zero = record { parent = omega (arith, is.0); begins = omega (arith, is.1.0, is.1.1); ends = omega (arith, is.1.1) }
    go (suc n) (suc k) = go n k

-- What holds of all that a table holds, and of what is stored for node k, holds after.
stored_all : (table : List Noted) (k : ℕ) (n : Noted) → k < length table → (Q : ℕ → Noted → Type 0) → Q k n
    → (j : ℕ) → Q j (noted_at table j) → Q j (noted_at (set table k n) j)
stored_all table k n within Q q j h = go (eqb j k) refl
  where
    go : (b : Bool) → eqb j k ≡ b → Q j (noted_at (set table k n) j)
    go true t = rw (eqb-true j k t, get_or-set_same table k n none within) q
    go false t = rw (get_or-set_other table k j n none (eqb-false j k t)) h

-- A node stored as the record has it.
module _ {image : List ℕ} {reader : Reader} {strings entries : List ℕ} (b : ReaderBelongs image reader strings entries) (node : ℕ) (there : node ≤ reader.nodes)
    (other : 0 < node) (n : Noted) (up : n.parent ≡ parent_at image entries node) (from : n.from ≡ get_or strings (recorded_entry image entries node).string 0)
    (end : n.end ≡ n.from + length (name_from image (symbols_end reader) n.from)) where
  starts : n.from ≤ symbols_end reader
  starts = omega (arith, name_from_lem b node there other)

  text : noted_name image n ≡ name_at image reader strings entries node
  text =
      name_part image (symbols_end reader) n.from n.end starts b.symbols_inside end
      ∙ ap (name_from image (symbols_end reader)) from ∙ sym (own_name image reader strings entries node (λ q. omega arith))

  stored_inside : NotedInside image n
  stored_inside =
      record {
        parent = omega (arith, parent_within b node there, b.few_nodes);
        begins = omega arith;
        ends = omega (arith, name_ends image (symbols_end reader) n.from starts b.symbols_inside, b.symbols_inside);
      }

  pub note_more : {table : List Noted} → TableInside image table → node < length table → NotedMore image reader strings entries table (set table node n) node
  note_more {table} inside within =
      let same : noted_at (set table node n) node ≡ n = get_or-set_same table node n none within in
      record {
        inside = λ k. stored_all table node n within (λ j m. NotedInside image m) stored_inside k (inside k);
        here = record { parent = ap (λ (m : Noted). m.parent) same ∙ up; name = ap (noted_name image) same ∙ text };
        stays = λ j m.
            let q = stored_all table node n within
            (λ j m. (m.parent ≡ parent_at image entries j) × (noted_name image m ≡ name_at image reader strings entries j)) (up, text) j (m.parent, m.name) in
            record { parent = q.0; name = q.1 };
      }

-- One step of a climb.
pub above_next : (parent : ℕ → ℕ) (i n : ℕ) → above parent (suc i) n ≡ parent (above parent i n)
unfolding above
above_next parent zero n = refl
above_next parent (suc i) n = above_next parent i (parent n)

-- From `node` the climb has reached `at`, and the nodes below that are in the table.
pub record Climbing (image : List ℕ) (reader : Reader) (strings entries : List ℕ) (node : ℕ) (table : List Noted) (at : ℕ) : Type 0 where
  pub there : at ≤ reader.nodes
  pub inside : TableInside image table
  pub steps : ℕ
  pub is : above (parent_at image entries) steps node ≡ at
  pub noted : (j : ℕ) → j < steps → NodeNoted image reader strings entries table (above (parent_at image entries) j node)

pub climbing_start : {image : List ℕ} {reader : Reader} (strings entries : List ℕ) (node : ℕ) {table : List Noted} → node ≤ reader.nodes
    → TableInside image table → Climbing image reader strings entries node table node
unfolding above
climbing_start strings entries node there inside =
    record { there = there; inside = inside; steps = 0; is = refl; noted = λ j l. absurd (omega arith) }

module _ {image : List ℕ} {reader : Reader} {strings entries : List ℕ} {node : ℕ} {table : List Noted} {at : ℕ}
    (c : Climbing image reader strings entries node table at) where
  module _ (b : ReaderBelongs image reader strings entries) (other : at ≡ 0 → ⊥) (p : ℕ) (up : p ≡ parent_at image entries at) where
    pub climbing_less : length (front_at Raw image reader strings entries p) < length (front_at Raw image reader strings entries at)
    climbing_less =
        let q =
        ap length (front_step (parent_at image entries) (name_at image reader strings entries) reader.nodes at other (b.climb_ends at (omega arith) c.there))
        ∙ length-append (front_at Raw image reader strings entries (parent_at image entries at)) (47 ∷ name_at image reader strings entries at) in
        rw up (omega arith)

    module _ {after : List Noted} (more : NotedMore image reader strings entries table after at) where
      step_noted : (j : ℕ) → j < suc c.steps → NodeNoted image reader strings entries after (above (parent_at image entries) j node)
      step_noted j l =
          ⊎_elim (λ (z : j ≡ c.steps). rw (z, c.is) more.here) (λ (z : j < c.steps). more.stays (above (parent_at image entries) j node) (c.noted j z))
          (eq-or-lt_of_le (le_of_suc-le-suc l))

      pub climbing_next : Climbing image reader strings entries node after p
      climbing_next =
          record {
            there = rw up (parent_within b at c.there);
            inside = more.inside;
            steps = suc c.steps;
            is = above_next (parent_at image entries) c.steps node ∙ rw c.is (sym up);
            noted = step_noted;
          }

-- The front by the table of a climb is the front by the record.
module _ {image : List ℕ} {reader : Reader} {strings entries : List ℕ} {table : List Noted} where
  front_by_lem : (s : Spelling) (left steps n : ℕ) → above (parent_at image entries) steps n ≡ 0
      → ((j : ℕ) → j < steps → NodeNoted image reader strings entries table (above (parent_at image entries) j n))
      → table_front s image table left n ≡ front_by (parent_at image entries) (written_name s image reader strings entries) left n
  unfolding above front_by
  front_by_lem s zero steps n z h = refl
  front_by_lem s (suc left) zero n z h = rw z
  front_by_lem s (suc left) (suc steps) n z h =
      let here = h 0 (omega arith) in
      rw (here.parent, here.name, front_by_lem s left steps (parent_at image entries n) z (λ j l. h (suc j) (omega arith)))

  pub table_front_lem : {node : ℕ} → ClimbNoted image reader strings entries table node
      → (s : Spelling) (left : ℕ) → table_front s image table left node ≡ front_by (parent_at image entries) (written_name s image reader strings entries) left node
  table_front_lem {node} c s left = front_by_lem s left c.steps node c.ends c.noted

  -- So the path of a node that is not the root is written.
  pub noted_path : {node : ℕ} → ClimbNoted image reader strings entries table node → (node ≡ 0 → ⊥)
      → (s : Spelling) → table_front s image table reader.nodes node ≡ spelled_path_at s image reader strings entries node
  noted_path c other s = table_front_lem c s reader.nodes ∙ sym (path_other s image reader strings entries _ other)
