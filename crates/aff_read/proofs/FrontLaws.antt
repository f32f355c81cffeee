-- The path of a node whose record belongs is its parent's front, a slash and its name, also for the root; and its name is a part of the
-- image. Assumes nothing.
use mathlib.Core.Path.{◌≡◌, refl, sym, ap, ◌∙◌}
use mathlib.Core.Bool.{Bool, true, false, cond}
use mathlib.Core.List.{List, [], ◌∷◌, ◌++◌}
use mathlib.Core.Logic.{◌⊎◌, ⊎_elim}
use Prim.Native.Nat.{ℕ, min, zero, suc, ◌+◌, ◌-◌, ◌≤◌, ◌<◌}
use native.Mathlib.Omega.{arith}
use lib.Dec.{eqb}
use lib.ListN.{length, get_or, take}
use Rattle.std.proofs.lemmas.List.{take_min}
use borrow.Author.Tests.{eq-eqb, ne_eqb}
use Rattle.aff_format.specs.Tree.{front_by}
use Rattle.aff_format.specs.Strings.{up_to_zero}
use Rattle.std.specs.Prelude.{Option, Some, None}
use Rattle.aff_spelling.specs.Within.{within}
use Rattle.aff_spelling.proofs.WithinLaws.{within_some, within_none, within_past, within_exact}
use Rattle.aff_read.specs.passes.Held.{symbols_from}
use native.Mathlib.Nat.{eq-zero-or-pos}
use Rattle.aff_format.proofs.TreeLaws.{front_root, front_up, front_step}
use Rattle.aff_format.proofs.TreeLaws as tree
use Rattle.aff_reader.specs.Belongs.{ReaderBelongs}
use Rattle.aff_format.specs.Recorded.{recorded_entry, name_from}
use Rattle.aff_reader.specs.declared.reader.Reader.{Reader}
use Rattle.aff_format.proofs.RecordedLaws.{name_part}
use Rattle.aff_nodes.specs.Recall.{symbols_end, parent_at, name_at, name_span, span_bytes}
use Rattle.aff_read.specs.Paths.{spelled_path_at}
use Rattle.aff_spelling.specs.Spelling.{spelled}
use Rattle.aff_spelling.specs.declared.spelling.Spelling.{Spelling}
use Rattle.aff_spelling.proofs.ShownLaws.{spelled_nil, spelled_front}
use Rattle.aff_format.proofs.WrittenLaws.{TwoParts}
use Rattle.aff_nodes.proofs.SpanLaws.{part_between, name_from_lem}

-- The first bytes of a run have the first bytes of its string.
up_to_zero_take : (n : ℕ) (l : List ℕ) → up_to_zero (take n l) ≡ take n (up_to_zero l)
unfolding up_to_zero
up_to_zero_take zero l = refl
up_to_zero_take (suc n) [] = refl
up_to_zero_take (suc n) (x ∷ l) = go (eqb x 0) (up_to_zero_take n l)
  where
    go : (b : Bool) → up_to_zero (take n l) ≡ take n (up_to_zero l) → cond b [] (x ∷ up_to_zero (take n l)) ≡ take (suc n) (cond b [] (x ∷ up_to_zero l))
    go true h = refl
    go false h = ap (λ (m : List ℕ). x ∷ m) h

-- A length that was answered is within the limit.
pub counted_fits : {limit n r : ℕ} {o : Option ℕ} → o ≡ Some r → o ≡ within limit n → n ≤ limit
counted_fits {limit} {n} is answered = (within_exact limit n (sym is ∙ answered)).1

module _ (parent : ℕ → ℕ) (name : ℕ → List ℕ) where
  -- In the code's terms.
  front_left : (left n p : ℕ) → p ≡ parent n → (left ≡ 0 → ⊥) → (n ≡ 0 → ⊥) → front_by parent name left n ≡ front_by parent name (left - 1) p ++ (47 ∷ name n)
  front_left zero n p up f g = absurd (f refl)
  front_left (suc left) n p up f g = let e : suc left - 1 ≡ left = omega arith in rw (e, up) (front_up parent name left n g)

  pub front_parted : (left n p : ℕ) → p ≡ parent n → (left ≡ 0 → ⊥) → (n ≡ 0 → ⊥) → (o : List ℕ) → length (front_by parent name left n) ≤ length o
      → TwoParts (front_by parent name (left - 1) p) (47 ∷ name n) (front_by parent name left n) o
  front_parted left n p up f g o h = record { is = front_left left n p up f g; fits = h }

  front_none : (left n : ℕ) → left ≡ 0 → front_by parent name left n ≡ []
  unfolding front_by
  front_none left n e = rw e

  pub front_root_at : (left n : ℕ) → n ≡ 0 → front_by parent name left n ≡ []
  front_root_at left n e = rw e (front_root parent name left)

  pub front_empty : (left n : ℕ) → (left ≡ 0) ⊎ ((left ≡ 0 → ⊥) × (n ≡ 0)) → front_by parent name left n ≡ []
  front_empty left n h = ⊎_elim (front_none left n) (λ z. front_root_at left n z.1) h

name_of_root : (image : List ℕ) (reader : Reader) (strings entries : List ℕ) → name_at image reader strings entries 0 ≡ []
unfolding name_at
name_of_root image reader strings entries = refl

-- In either spelling.
module _ (s : Spelling) (image : List ℕ) (reader : Reader) (strings entries : List ℕ) where
  abbrev pub written_name : ℕ → List ℕ
  written_name k = spelled s (name_at image reader strings entries k)

  abbrev pub front_at : ℕ → List ℕ
  front_at = front_by (parent_at image entries) written_name reader.nodes

  root_name : written_name 0 ≡ []
  root_name = ap (spelled s) (name_of_root image reader strings entries) ∙ spelled_nil s

  pub path_other : (node : ℕ) → (node ≡ 0 → ⊥) → spelled_path_at s image reader strings entries node ≡ front_at node
  path_other = tree.path_other (parent_at image entries) written_name reader.nodes

  path_root : spelled_path_at s image reader strings entries 0 ≡ front_at (parent_at image entries 0) ++ (47 ∷ written_name 0)
  unfolding recorded_entry
  path_root = rw (front_root (parent_at image entries) written_name reader.nodes, root_name)

  pub path_front : ReaderBelongs image reader strings entries → (node : ℕ) → node ≤ reader.nodes → (p : ℕ) → p ≡ parent_at image entries node
      → spelled_path_at s image reader strings entries node ≡ front_at p ++ (47 ∷ written_name node)
  path_front b node there p up =
      rw up
      (⊎_elim (λ (z : node ≡ 0). rw z path_root)
      (λ (h : 0 < node).
      let n : node ≡ 0 → ⊥ = λ q. omega arith in
      path_other node n ∙ front_step (parent_at image entries) written_name reader.nodes node n (b.climb_ends node h there))
      (eq-zero-or-pos node))

module _ (image : List ℕ) (reader : Reader) (strings entries : List ℕ) where
  module _ (b : ReaderBelongs image reader strings entries) (node : ℕ) (there : node ≤ reader.nodes) where
    -- What is where its name is.
    pub name_bytes : span_bytes image (name_span image reader strings entries node) ≡ name_at image reader strings entries node
    unfolding name_span name_at
    name_bytes =
        ⊎_elim (λ (z : node ≡ 0). rw (eq-eqb node 0 z))
        (λ (h : 0 < node).
        let from : ℕ = get_or strings (recorded_entry image entries node).string 0 in
        let size : ℕ = length (name_from image (symbols_end reader) from) in
        rw (ne_eqb node 0 (λ q. omega arith))
        (sym (part_between image from size) ∙ name_part image (symbols_end reader) from (from + size) (name_from_lem b node there h) b.symbols_inside refl))
        (eq-zero-or-pos node)

  -- The name of a node that is not the root.
  module _ (node : ℕ) (other : node ≡ 0 → ⊥) where
    pub own_name : name_at image reader strings entries node
        ≡ name_from image (symbols_end reader) (get_or strings (recorded_entry image entries node).string 0)
    unfolding name_at
    own_name = rw (ne_eqb node 0 other)

    pub own_string : name_at image reader strings entries node
        ≡ up_to_zero (symbols_from image reader strings entries (recorded_entry image entries node).string)
    unfolding name_from
    own_string = own_name

    -- The first bytes of a name, one more than a limit less one.
    front_run : (limit : ℕ) (symbols : List ℕ) {run : List ℕ} → (limit ≡ 0 → ⊥)
        → symbols ≡ symbols_from image reader strings entries (recorded_entry image entries node).string
        → run ≡ up_to_zero (take (min limit (length symbols)) symbols) → run ≡ take (limit - 1 + 1) (name_at image reader strings entries node)
    front_run limit symbols some from read =
        let few : limit ≡ limit - 1 + 1 = omega arith in
        read ∙ ap up_to_zero (take_min limit symbols) ∙ up_to_zero_take limit symbols
        ∙ ap (λ (l : List ℕ). take limit (up_to_zero l)) from ∙ ap (take limit) (sym own_string) ∙ ap (λ (k : ℕ). take k (name_at image reader strings entries node)) few

    -- The length of a slash and the name as it is written, where it is within a limit, from no more bytes of the name.
    module _ (s : Spelling) (limit : ℕ) (symbols : List ℕ) {run : List ℕ} (some : limit ≡ 0 → ⊥)
        (from : symbols ≡ symbols_from image reader strings entries (recorded_entry image entries node).string)
        (read : run ≡ up_to_zero (take (min limit (length symbols)) symbols)) where
      read_within : within (limit - 1) (length (spelled s run)) ≡ within (limit - 1) (length (written_name s image reader strings entries node))
      read_within =
          ap (λ (l : List ℕ). within (limit - 1) (length (spelled s l))) (front_run limit symbols some from read)
          ∙ spelled_front s (limit - 1) (name_at image reader strings entries node)

      pub name_past : None ≡ within (limit - 1) (length (spelled s run)) → None ≡ within limit (length (written_name s image reader strings entries node) + 1)
      name_past e =
          let l = within_past (limit - 1) (length (written_name s image reader strings entries node)) (e ∙ read_within) in
          within_none limit (length (written_name s image reader strings entries node) + 1) (omega arith)

      pub name_counted : {n : ℕ} → Some n ≡ within (limit - 1) (length (spelled s run)) → Some (n + 1) ≡ within limit (length (written_name s image reader strings entries node) + 1)
      name_counted {n} e =
          let x = within_exact (limit - 1) (length (written_name s image reader strings entries node)) (e ∙ read_within) in
          let same : n + 1 ≡ length (written_name s image reader strings entries node) + 1 = omega (arith, x.0) in
          ap Some same ∙ within_some limit (length (written_name s image reader strings entries node) + 1) (omega (arith, x.1))

  -- The root has no name.
  pub own_root : (s : Spelling) (node limit : ℕ) → (limit ≡ 0 → ⊥) → node ≡ 0 → Some 1 ≡ within limit (length (written_name s image reader strings entries node) + 1)
  own_root s node limit some z = rw (z, ap length (root_name s image reader strings entries)) (within_some limit 1 (omega arith))
