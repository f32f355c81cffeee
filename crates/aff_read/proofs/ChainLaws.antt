-- The chain of nodes that a lookup settles, made on the way up. Assumes nothing.
use mathlib.Core.Path.{◌≡◌, refl, sym, ap, ◌∙◌}
use mathlib.Core.Bool.{true}
use mathlib.Core.List.{List, [], ◌∷◌, ◌++◌}
use mathlib.Core.Logic.{⊎_elim}
use Prim.Native.Nat.{ℕ, ◌+◌, ◌-◌, ◌≤◌, ◌<◌}
use native.Mathlib.Nat.{eq-or-lt_of_le}
use native.Mathlib.Numerals.{add-one}
use native.Mathlib.Omega.{arith}
use lib.ListN.{length, get_or, set, take, length-set}
use lib.Seq.{get_or-set_same, get_or-set_other, take-take, take-length, take-append_seam}
use Rattle.std.proofs.lemmas.List.{get_or_default, get_or-take, get_or_push, length_push}
use Rattle.std.specs.Prelude.{Option, None}
use Rattle.aff_format.specs.Tree.{reaches_by}
use Rattle.aff_format.specs.declared.entry.Entry.{Entry}
use Rattle.aff_reader.specs.Belongs.{ReaderBelongs}
use Rattle.aff_format.specs.Recorded.{recorded_entry}
use Rattle.aff_reader.specs.declared.reader.Reader.{Reader}
use Rattle.aff_reader.proofs.BelongsLaws.{parent_within}
use Rattle.aff_read.specs.declared.paths.Step.{Step}
use Rattle.aff_read.specs.passes.Climb.{above}
use Rattle.aff_read.specs.passes.Fit.{settled_at, step_of, step_at, Chain}
use Rattle.aff_format.specs.Limits.{node_limit}
use Rattle.aff_nodes.specs.Recall.{parent_at}
use Rattle.aff_read.proofs.ClimbLaws.{above_next}
use Rattle.aff_read.proofs.FitLaws.{climb_left}

abbrev none : Step
none = record { node = 0; string = 0 }

-- The climb from `node` has reached `at`, and what is before is stored.
pub record Chaining (image : List ℕ) (reader : Reader) (strings entries : List ℕ) (fits : List (Option (Option ℕ))) (node : ℕ)
    (steps : List Step) (count at : ℕ) : Type 0 where
  pub belongs : ReaderBelongs image reader strings entries
  pub few : reader.nodes ≤ node_limit
  pub root : settled_at fits 0 ≡ None → ⊥
  pub long : length steps ≡ 2048
  pub made : Chain image reader strings entries node steps count
  pub last : above (parent_at image entries) count node ≡ at
  pub reaches : reaches_by (parent_at image entries) (reader.nodes - count) at ≡ true

pub chaining_start : {image : List ℕ} {reader : Reader} {strings entries : List ℕ} {fits : List (Option (Option ℕ))} {node : ℕ} {steps : List Step}
    → ReaderBelongs image reader strings entries → node ≤ reader.nodes → 0 < node → (settled_at fits 0 ≡ None → ⊥) → length steps ≡ 2048
    → Chaining image reader strings entries fits node steps 0 node
unfolding above
chaining_start {reader} {node = node} b there other root long =
    record {
      belongs = b;
      few = b.few_nodes;
      root = root;
      long = long;
      made =
          record {
            few = omega arith;
            exist = λ j h. let z : j ≡ 0 = omega arith in rw z there;
            others = λ j h. absurd (omega arith);
            stored = λ j h. absurd (omega arith);
          };
      last = refl;
      reaches = let z : reader.nodes - 0 ≡ reader.nodes = omega arith in rw z (b.climb_ends node other there);
    }

module _ {image : List ℕ} {reader : Reader} {strings entries : List ℕ} {fits : List (Option (Option ℕ))} {node : ℕ} {steps : List Step} {count at : ℕ}
    (g : Chaining image reader strings entries fits node steps count at) where
  at_exists : at ≤ reader.nodes
  at_exists = rw (sym g.last) (g.made.exist count (omega arith))

  pub unsettled_at : (d : Option (Option ℕ)) → length fits ≡ 2049 → get_or fits at d ≡ None → settled_at fits at ≡ None
  unsettled_at d wide is = sym (get_or_default fits at d None (omega (arith, at_exists, g.few, wide))) ∙ is

  module _ (unsettled : settled_at fits at ≡ None) where
    at_other : 0 < at
    at_other = ⊎_elim (λ (z : 0 ≡ at). absurd (g.root (ap (settled_at fits) z ∙ unsettled))) (λ (l : 0 < at). l) (eq-or-lt_of_le (omega arith))

    more : (p : ℕ) → p ≡ parent_at image entries at → (0 < reader.nodes - count) × (reaches_by (parent_at image entries) (reader.nodes - count - 1) p ≡ true)
    more p up = climb_left (parent_at image entries) (reader.nodes - count) at p at_other up g.reaches

    pub few_more : count < reader.nodes
    few_more = let h = (more (parent_at image entries at) refl).0 in omega arith

    module _ (e : Entry) (is : e ≡ recorded_entry image entries at) where
      abbrev next : List Step
      next = set steps count (record { node = at; string = e.string })

      up : e.parent ≡ parent_at image entries at
      up = ap (λ (x : Entry). x.parent) is

      reached : above (parent_at image entries) (count + 1) node ≡ e.parent
      reached = rw (add-one count) (above_next (parent_at image entries) count node) ∙ ap (parent_at image entries) g.last ∙ sym up

      exist_next : (j : ℕ) → j ≤ count + 1 → above (parent_at image entries) j node ≤ reader.nodes
      exist_next j h =
          ⊎_elim (λ (z : j ≡ count + 1). rw (z, reached, up) (parent_within g.belongs at at_exists))
          (λ (z : j < count + 1). g.made.exist j (omega arith)) (eq-or-lt_of_le h)

      below : (P : ℕ → Type 0) → P count → ((j : ℕ) → j < count → P j) → (j : ℕ) → j < count + 1 → P j
      below P here rest j h =
          let le : j ≤ count = omega arith in
          ⊎_elim (λ (z : j ≡ count). rw z here) (λ (z : j < count). rest j z) (eq-or-lt_of_le le)

      stored_here : step_at next count ≡ step_of image entries (above (parent_at image entries) count node)
      stored_here =
          get_or-set_same steps count _ _ (let h = few_more in omega (arith, g.long, g.few))
          ∙ rw (g.last, is)

      pub chaining_next : Chaining image reader strings entries fits node next (count + 1) e.parent
      chaining_next =
          record {
            belongs = g.belongs;
            few = g.few;
            root = g.root;
            long = length-set steps count _ ∙ g.long;
            made =
                record {
                  few = let h = few_more in omega arith;
                  exist = exist_next;
                  others = below (λ j. 0 < above (parent_at image entries) j node) (rw g.last at_other) g.made.others;
                  stored = below (λ j. step_at next j ≡ step_of image entries (above (parent_at image entries) j node)) stored_here
                      (λ j h. get_or-set_other steps count j _ _ (λ q. omega arith) ∙ g.made.stored j h);
                };
            last = reached;
            reaches =
                let z : reader.nodes - (count + 1) ≡ reader.nodes - count - 1 = omega arith in
                rw z (more e.parent up).1;
          }

-- The steps stored, as a list of their own.
pub chain_front : {image : List ℕ} {reader : Reader} {strings entries : List ℕ} {node : ℕ} {steps : List Step} {count : ℕ}
    → Chain image reader strings entries node steps count → {all : List Step} → all ≡ take count steps → length all ≡ count
    → Chain image reader strings entries node all (length all)
chain_front {steps} {count} chain {all} e l =
    record {
      few = omega (arith, chain.few);
      exist = λ j h. chain.exist j (omega arith);
      others = λ j h. chain.others j (omega arith);
      stored = λ j h. ap (λ (s : List Step). get_or s j none) e ∙ get_or-take count steps j none (omega arith) ∙ chain.stored j (omega arith);
    }

-- What is left of some steps, the last of them first.
pub record Left (steps rest : List Step) : Type 0 where
  pub few : length rest ≤ length steps
  pub front : rest ≡ take (length rest) steps

pub left_all : (steps : List Step) → Left steps steps
left_all steps = record { few = omega arith; front = sym (take-length steps) }

-- The last of the rest is a step of the chain, and the node after it is its parent.
module _ {image : List ℕ} {reader : Reader} {strings entries : List ℕ} {node : ℕ} {steps : List Step}
    (chain : Chain image reader strings entries node steps (length steps)) {rest : List Step} (left : Left steps rest) (next : List Step) (step : Step) (last : rest ≡ next ++ (step ∷ [])) where
  all : length rest ≡ length next + 1
  all = ap length last ∙ length_push next step

  is : step ≡ step_at steps (length next)
  is =
      sym (get_or_push next step none (length next) refl) ∙ ap (λ (s : List Step). get_or s (length next) none) (sym last ∙ left.front)
      ∙ get_or-take (length rest) steps (length next) none (omega (arith, all))

  step_stored : step ≡ step_of image entries (above (parent_at image entries) (length next) node)
  step_stored = is ∙ chain.stored (length next) (omega (arith, all, left.few))

  pub step_node : step.node ≡ above (parent_at image entries) (length next) node
  step_node = ap (λ (s : Step). s.node) step_stored

  pub step_exists : step.node ≤ reader.nodes
  step_exists = rw step_node (chain.exist (length next) (omega (arith, all, left.few)))

  pub step_other : 0 < step.node
  step_other = rw step_node (chain.others (length next) (omega (arith, all, left.few)))

  pub step_string : step.string ≡ (recorded_entry image entries step.node).string
  step_string = rw step_node (ap (λ (s : Step). s.string) step_stored)

  pub step_parent : above (parent_at image entries) (length rest) node ≡ parent_at image entries step.node
  step_parent =
      ap (λ (j : ℕ). above (parent_at image entries) j node) (all ∙ add-one (length next)) ∙ above_next (parent_at image entries) (length next) node
      ∙ ap (parent_at image entries) (sym step_node)

  pub left_next : Left steps next
  left_next =
      record {
        few = omega (arith, all, left.few);
        front =
            sym (take-append_seam next (step ∷ [])) ∙ ap (take (length next)) (sym last ∙ left.front)
            ∙ take-take (length next) (length rest) steps (omega (arith, all));
      }

pub above_none : (parent : ℕ → ℕ) (k n : ℕ) → k ≤ 0 → above parent k n ≡ n
unfolding above
above_none parent k n h = let z : k ≡ 0 = omega arith in rw z
