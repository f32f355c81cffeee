-- What a record that belongs says of parents, and what the stores into the links make. Assumes nothing.
use mathlib.Core.Path.{◌≡◌, refl, sym, ap, ◌∙◌}
use mathlib.Core.Bool.{Bool, true, false}
use mathlib.Core.List.{List}
use mathlib.Core.Logic.{◌⊎◌, inl, inr, ⊎_elim}
use Prim.Native.Nat.{ℕ, ◌+◌, ◌≤◌, ◌<◌}
use native.Mathlib.Nat.{eq-or-lt_of_le}
use native.Mathlib.Omega.{arith}
use borrow.Author.Tests.{eqb-true, eqb-false}
use lib.Dec.{eqb}
use lib.ListN.{length, get_or, set}
use lib.Seq.{get_or-set_same, get_or-set_other}
use Rattle.std.proofs.lemmas.List.{length-set}
use Rattle.aff_format.specs.Recorded.{recorded_entry}
use Rattle.aff_reader.specs.Belongs.{reader_belongs}
use Rattle.aff_reader.specs.declared.reader.Reader.{Reader}
use Rattle.aff_reader.proofs.BelongsLaws.{belongs_record, parent_within}
use Rattle.aff_listing.specs.declared.links.Links.{Links}
use Rattle.aff_listing.specs.passes.Children.{ChildTables, ParentsWithin, no_links}

module _ (image : List ℕ) (reader : Reader) (strings entries : List ℕ) (belongs : reader_belongs image reader strings entries ≡ true) where
  pub parent_exists : (k : ℕ) → k ≤ reader.nodes → (recorded_entry image entries k).parent ≤ reader.nodes
  parent_exists = parent_within (belongs_record belongs)

-- ---- A store into the table of links.

same_or_other : (n i : ℕ) → (n ≡ i) ⊎ (n ≡ i → ⊥)
same_or_other n i = go (eqb n i) refl
  where
    go : (b : Bool) → eqb n i ≡ b → (n ≡ i) ⊎ (n ≡ i → ⊥)
    go true e = inl (eqb-true n i e)
    go false e = inr (eqb-false n i e)

module _ (field : Links → ℕ) (links : List Links) (i : ℕ) (v : Links) where
  field_here : (n : ℕ) → i < length links → n ≡ i → field (get_or (set links i v) n no_links) ≡ field v
  field_here n h e = rw (e, get_or-set_same links i v no_links h) refl

  field_there : (n : ℕ) → (n ≡ i → ⊥) → field (get_or (set links i v) n no_links) ≡ field (get_or links n no_links)
  field_there n e = rw (get_or-set_other links i n v no_links e) refl

  field_kept : field v ≡ field (get_or links i no_links) → i < length links → (n : ℕ) → field (get_or (set links i v) n no_links) ≡ field (get_or links n no_links)
  field_kept same h n = ⊎_elim (λ e. field_here n h e ∙ same ∙ ap (λ j. field (get_or links j no_links)) (sym e)) (field_there n) (same_or_other n i)

-- Node k is put before the children of its parent p that have higher numbers.
module _ (parent : ℕ → ℕ) (nodes k p : ℕ) (links : List Links) (long : nodes < length links) (some : 0 < k) (exists : k ≤ nodes)
    (is : p ≡ parent k) (within : ParentsWithin parent nodes) where
  abbrev before : Links
  before = record { first = (get_or links k no_links).first; next = (get_or links p no_links).first }

  abbrev mid : List Links
  mid = set links k before

  abbrev after : Links
  after = record { first = k; next = (get_or mid p no_links).next }

  parent_there : p ≤ nodes
  parent_there = rw is (within.exists k some exists)

  mid_long : p < length mid
  mid_long = omega (arith, parent_there, length-set links k before)

  first_before : (n : ℕ) → (get_or mid n no_links).first ≡ (get_or links n no_links).first
  first_before = field_kept (λ l. l.first) links k before refl (omega arith)

  next_after : (n : ℕ) → (get_or (set mid p after) n no_links).next ≡ (get_or mid n no_links).next
  next_after = field_kept (λ l. l.next) mid p after refl mid_long

  pub linked : ChildTables parent nodes (k + 1) links → ChildTables parent nodes k (set mid p after)
  linked t =
      record {
        first_child = λ n m.
            ⊎_elim
            (λ (e : n ≡ p).
            rw (field_here (λ l. l.first) mid p after n mid_long e)
            (record { least = omega arith; most = omega arith; is_child = λ g. sym is ∙ sym e; none_between = λ i lo hi. absurd (omega arith) }))
            (λ (e : n ≡ p → ⊥).
            let c = t.first_child n m in
            rw (field_there (λ l. l.first) mid p after n e, first_before n)
            (record {
              least = omega (arith, c.least);
              most = c.most;
              is_child = c.is_child;
              none_between = λ i lo hi q. ⊎_elim (λ (z : k ≡ i). e (sym q ∙ ap parent (sym z) ∙ sym is)) (λ (z : k < i). c.none_between i (omega arith) hi q) (eq-or-lt_of_le lo);
            }))
            (same_or_other n p);
        next_sibling = λ n lo m.
            ⊎_elim
            (λ (e : k ≡ n).
            rw (next_after n, field_here (λ l. l.next) links k before n (omega arith) (sym e), ← e, ← is) (t.first_child p parent_there))
            (λ (e : k < n).
            rw (next_after n, field_there (λ l. l.next) links k before n (λ z. omega arith)) (t.next_sibling n (omega arith) m))
            (eq-or-lt_of_le lo);
      }
