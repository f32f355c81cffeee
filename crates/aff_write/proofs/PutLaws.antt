-- Putting data: a node that takes data is no root, a kind that takes them is not Void, and what the code stores are the promised stores.
-- Assumes nothing.
use mathlib.Core.Path.{◌≡◌, refl, sym, ap, subst, ◌∙◌}
use mathlib.Core.Bool.{false, true≢false}
use mathlib.Core.List.{List, ◌∷◌, ◌++◌}
use Prim.Native.Nat.{ℕ, zero, suc, ◌+◌, ◌-◌, ◌≤◌, ◌<◌}
use native.Mathlib.Omega.{arith}
use lib.ListN.{length, take, replicate, length-append, length-replicate}
use Rattle.aff_format.specs.Align.{padding}
use Rattle.aff_format.specs.Kind.{is_void, kind_of}
use Rattle.aff_format.specs.Bytes.{spliced}
use Rattle.aff_format.specs.Entry.{slot_bytes}
use Rattle.aff_format.specs.declared.refusal.RefusalCode.{RefusalCode}
use Rattle.aff_format.specs.declared.kind.Kind.{Kind}
use Rattle.aff_format.specs.declared.kind.Kind.TheVariants.{Void, Char, Int, Double, Complex}
use Rattle.std.specs.Prelude.{Option, Some, None}
use Rattle.aff_format.specs.Answer.{Answer, accepted, refused, refusal, refusal_at, first_wrong}
use Rattle.aff_format.proofs.AlignLaws.{padding_few}
use Rattle.aff_format.proofs.AnswerLaws.{passed, passed_value, refused_before, others_reported}
use Rattle.aff_areas.specs.Areas.{slot_at, finished_size}
use Rattle.aff_areas.specs.Belongs.{writer_checks}
use Rattle.aff_areas.proofs.BelongsLaws.{judge_refuses, judge_leaves}
use borrow.Author.Tests.{lt-ltb, le-ltb, ltb-false}
use Rattle.aff_areas.specs.Stores.{Store, apply_stores, stores_from, buffer_after}
use Rattle.aff_areas.specs.declared.given.Given.{Given}
use Rattle.aff_areas.specs.declared.writer.Writer.{Writer}
use Rattle.aff_areas.proofs.StoreLaws.{length_stores_from, stores_from_append}
use Rattle.aff_write.specs.Put.{takes_none, wrong_data, data_kind, put_place, put_stores, put_writer, store_check, buffer_checks, entry_checks, data_checks, put_entry, put_tree, put_answer}
use Rattle.aff_areas.specs.Writer.{stopped, writer_after, area_after}
use Rattle.aff_write.proofs.SpentLaws.{WritingPromise, reported_spent, reported_made}

-- 18.
pub takes_some : (tree : List ℕ) (node : ℕ) → takes_none tree node ≡ false → 0 < node
unfolding takes_none
takes_some tree zero h = absurd (true≢false h)
takes_some tree (suc n) h = omega arith

-- 19.
pub data_kind_lem : (k : Kind) (n : ℕ) → wrong_data (Some k) n ≡ false → is_void k ≡ false
data_kind_lem Void n h = absurd (true≢false h)
data_kind_lem Char n h = refl
data_kind_lem Int n h = refl
data_kind_lem Double n h = refl
data_kind_lem Complex n h = refl

-- Nothing was wrong with the node and its data: the kind is that of the type, and holds data, which fit.
pub record Taken (writer : Writer) (tree : List ℕ) (node type : ℕ) (bytes : List ℕ) (k : Kind) : Type 0 where
  pub exists : node ≤ writer.nodes
  pub above_root : 0 < node
  pub kind_is : k ≡ data_kind (kind_of type)
  pub holds_data : is_void k ≡ false
  pub fits : finished_size writer tree + 12 + padding writer.end + length bytes ≤ writer.length

kind_void : (found : Option Kind) (n : ℕ) → wrong_data found n ≡ false → is_void (data_kind found) ≡ false
kind_void None n h = absurd (true≢false h)
kind_void (Some k) n h = data_kind_lem k n h

module _ (writer : Writer) (tree : List ℕ) where
  pub taken : (node type : ℕ) (bytes : List ℕ) (k : Kind) → accepted k ≡ first_wrong (entry_checks writer tree node type bytes) (data_kind (kind_of type))
      → Taken writer tree node type bytes k
  taken node type bytes k h =
      let (a, (b, (w, (f, _)))) = passed (entry_checks writer tree node type bytes) (data_kind (kind_of type)) (sym h) in
      let is = passed_value (entry_checks writer tree node type bytes) (data_kind (kind_of type)) (sym h) in
      record {
        exists = ltb-false _ _ a;
        above_root = takes_some tree node b;
        kind_is = sym is;
        holds_data = rw (← is) (kind_void (kind_of type) (length bytes) w);
        fits = ltb-false _ _ f;
      }

  -- 21, 23.
  module _ (bytes : List ℕ) (allowance : ℕ) where
    pub too_small : writer.length < finished_size writer tree + 12 + padding writer.end + length bytes
        → ◌≡◌ {A = Answer ℕ} (refused (refusal 21)) (first_wrong (buffer_checks writer tree bytes allowance) (length (put_stores writer bytes)))
    too_small h = rw (lt-ltb writer.length (finished_size writer tree + 12 + padding writer.end + length bytes) h)

    pub has_buffer : finished_size writer tree + 12 + padding writer.end + length bytes ≤ writer.length
        → first_wrong (store_check writer bytes allowance) (length (put_stores writer bytes))
        ≡ first_wrong (buffer_checks writer tree bytes allowance) (length (put_stores writer bytes))
    has_buffer h = rw (le-ltb writer.length (finished_size writer tree + 12 + padding writer.end + length bytes) h)

  -- The tree area that a put leaves, by the kind that the code has.
  pub tree_put_lem : (node type : ℕ) (bytes : List ℕ) (k : Kind) → k ≡ data_kind (kind_of type)
      → spliced (slot_at node) (slot_bytes (put_entry writer tree node k bytes)) tree ≡ put_tree writer tree node type bytes
  unfolding put_tree
  tree_put_lem node type bytes k h = rw h

-- The same of a record that is known to be equal.
pub taken_given : (g h : Given) → g ≡ h → (node type : ℕ) (bytes : List ℕ) (k : Kind)
    → accepted k ≡ first_wrong (entry_checks h.writer h.tree.now node type bytes) (data_kind (kind_of type)) → Taken g.writer g.tree.now node type bytes k
taken_given g h e node type bytes k t =
    subst (λ (x : Given). Taken x.writer x.tree.now node type bytes k) (sym e) (taken h.writer h.tree.now node type bytes k t)

-- What `judge` refuses (24, 22) is the call's refusal; else what is wrong with the node and its data is; else 23 decides.
module _ (size : ℕ) (writer : Writer) (text tree : List ℕ) (node type : ℕ) (bytes : List ℕ) (allowance : ℕ) {A : Type 0} (a : A) where
  -- Refused by 24 or 22: that is put's answer, and record, buffer and tree are as they were; the number is not 23, so the record is not stopped.
  pub judge_stops : {t : RefusalCode} (buffer : List ℕ) → refused t ≡ first_wrong (writer_checks size writer text tree) a
      → (refused t ≡ put_answer size writer text tree node type bytes allowance)
      × ((writer ≡ writer_after (refused t) (put_writer writer bytes) writer)
      × ((buffer ≡ buffer_after (refused t) (put_stores writer bytes) buffer)
      × (tree ≡ area_after (refused t) (put_tree writer tree node type bytes) tree)))
  unfolding put_answer apply_stores
  judge_stops buffer h =
      let o = others_reported 23 (writer_checks size writer text tree) refl a (sym h) in
      (judge_refuses size writer text tree a h (data_checks writer tree node type bytes allowance) (length (put_stores writer bytes)), (rw o, (rw o, refl)))

  -- Passed: put's answer is that of its other checks.
  pub judge_passes : {b : A} → accepted b ≡ first_wrong (writer_checks size writer text tree) a
      → first_wrong (data_checks writer tree node type bytes allowance) (length (put_stores writer bytes)) ≡ put_answer size writer text tree node type bytes allowance
  unfolding put_answer
  judge_passes h = judge_leaves size writer text tree a h (data_checks writer tree node type bytes allowance) (length (put_stores writer bytes))

module _ (writer : Writer) (tree : List ℕ) (node type : ℕ) (bytes : List ℕ) (allowance : ℕ) {A : Type 0} (a : A) where
  pub entry_stops : {t : RefusalCode} → refused t ≡ first_wrong (entry_checks writer tree node type bytes) a
      → refused t ≡ first_wrong (data_checks writer tree node type bytes allowance) (length (put_stores writer bytes))
  entry_stops h = sym (refused_before (entry_checks writer tree node type bytes) (store_check writer bytes allowance) a (length (put_stores writer bytes)) (sym h))

-- The first of some zeros.
take_zeros : (k n : ℕ) → k ≤ n → take k (replicate {A = ℕ} n 0) ≡ replicate k 0
take_zeros zero n h = refl
take_zeros (suc k) zero h = absurd (omega arith)
take_zeros (suc k) (suc n) h = ap (λ (l : List ℕ). 0 ∷ l) (take_zeros k n (omega arith))

-- How many stores a put needs.
pub length_put_stores : (writer : Writer) (bytes : List ℕ) → length (put_stores writer bytes) ≡ padding writer.end + length bytes
length_put_stores writer bytes = rw (length_stores_from, length-append, length-replicate) (omega arith)

-- As the code makes them: the first of eight zeros, as many as there are from the end of data to the place, and the bytes after them.
module _ (writer : Writer) (place : ℕ) (p : place ≡ put_place writer) where
  padding_is : place - writer.end ≡ padding writer.end
  padding_is = omega arith

  padding_zeros : take (place - writer.end) (replicate {A = ℕ} 8 0) ≡ replicate (padding writer.end) 0
  padding_zeros = rw padding_is (take_zeros (padding writer.end) 8 (omega (arith, padding_few writer.end)))

  pub zeros_few : place - writer.end ≤ 8
  zeros_few = omega (arith, padding_few writer.end)

  pub length_zeros : length (take (place - writer.end) (replicate {A = ℕ} 8 0)) ≡ place - writer.end
  length_zeros = ap length padding_zeros ∙ length-replicate (padding writer.end) 0 ∙ sym padding_is

  stores_put : (bytes : List ℕ) → stores_from writer.end (take (place - writer.end) (replicate 8 0)) ++ stores_from place bytes ≡ put_stores writer bytes
  stores_put bytes =
      let zeros : List ℕ = replicate (padding writer.end) 0 in
      let n : length zeros ≡ padding writer.end = length-replicate (padding writer.end) 0 in
      rw (padding_zeros, p) (sym (stores_from_append writer.end zeros bytes ∙ rw n))

  -- 23 is reported exactly where some are left, with the number of those that were made.
  module _ (bytes : List ℕ) (allowance made : ℕ) (buffer₀ buffer₁ : List ℕ)
      (m : made ≡ length (take allowance (stores_from writer.end (take (place - writer.end) (replicate 8 0)) ++ stores_from place bytes)))
      (r : buffer₁ ≡ apply_stores buffer₀ (take allowance (stores_from writer.end (take (place - writer.end) (replicate 8 0)) ++ stores_from place bytes))) where
    front_made : made ≡ length (take allowance (put_stores writer bytes))
    front_made = m ∙ ap (λ (s : List Store). length (take allowance s)) (stores_put bytes)

    front_stored : buffer₁ ≡ apply_stores buffer₀ (take allowance (put_stores writer bytes))
    front_stored = r ∙ ap (λ (s : List Store). apply_stores buffer₀ (take allowance s)) (stores_put bytes)

    pub put_spent : made < place - writer.end + length bytes
        → WritingPromise (store_check writer bytes allowance) (put_stores writer bytes) (put_writer writer bytes) writer buffer₀ buffer₁ (refused (refusal_at 23 made)) (stopped writer)
    put_spent h =
        let left : made < length (put_stores writer bytes) = omega (arith, length_put_stores writer bytes) in
        reported_spent (put_stores writer bytes) allowance made buffer₀ buffer₁ front_made front_stored (put_writer writer bytes) writer left

    pub put_made : place - writer.end + length bytes ≤ made
        → WritingPromise (store_check writer bytes allowance) (put_stores writer bytes) (put_writer writer bytes) writer buffer₀ buffer₁ (accepted made) (put_writer writer bytes)
    put_made h =
        let all : length (put_stores writer bytes) ≤ made = omega (arith, length_put_stores writer bytes) in
        reported_made (put_stores writer bytes) allowance made buffer₀ buffer₁ front_made front_stored (put_writer writer bytes) writer all
