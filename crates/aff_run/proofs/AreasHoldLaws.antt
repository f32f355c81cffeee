-- A run after an accepted begin: record and areas hold the tree described, zeros after. While the writer is live, from what holds between the calls; an
-- accepted close and a 23 leave areas and counts, and after them nothing changes. By induction on the calls. Assumes nothing.
use mathlib.Core.Path.{◌≡◌, ap, ◌∙◌, refl, subst}
use mathlib.Core.Bool.{Bool, true}
use mathlib.Core.List.{List, [], ◌∷◌, ◌++◌}
use Prim.Native.Nat.{ℕ, zero, suc, ◌-◌, ◌*◌, ◌≤◌, ◌<◌}
use native.Mathlib.Omega.{arith}
use lib.ListN.{length, get_or, drop, replicate, length-append}
use lib.Seq.{take_at, drop_at}
use Rattle.aff_format.specs.Answer.{accepted}
use Rattle.aff_format.specs.Bytes.{part}
use Rattle.aff_format.specs.Edition.{header_size, edition_by}
use Rattle.aff_format.specs.Entry.{entry_bytes, slot_bytes, no_entry}
use Rattle.aff_format.specs.Kind.{is_void}
use Rattle.aff_format.specs.Limits.{text_area, tree_area}
use Rattle.aff_format.specs.Strings.{text_of}
use Rattle.aff_format.specs.Tree.{Tree, tree_node}
use Rattle.aff_format.specs.declared.entry.Entry.{Entry}
use Rattle.aff_format.proofs.EntryLaws.{length_entry_bytes, length_slot_bytes}
use Rattle.aff_tables.specs.Tables.{node_entry}
use Rattle.aff_areas.specs.Writer.{writer_edition}
use Rattle.aff_areas.specs.Areas.{slot_at}
use Rattle.aff_run.specs.TreeSizes.{names_of}
use Rattle.aff_run.specs.AreasHold.{SlotOf, AreasHold}
use Rattle.aff_run.specs.Run.{Call, State, Step, next, step, after_call, answers_of, state_after, is_accepted, apply_call, tree_after, DataLayout, no_data, call_layout, layout_after, Run, run_begin, run_start, run_state, run_tree, run_layout}
use Rattle.aff_run.proofs.InvariantLaws.{Invariant, offset_at, Blank, ZerosAfter, count_same, storables, stored_in, text_after, tree_after_lem}
use Rattle.aff_run.proofs.BeginInvariantLaws.{begin_edition, begin_invariant, begin_after}
use Rattle.aff_run.proofs.SlotsLaws.{slots_of, length_slots_of, drop_slots, node_storable}
use Rattle.aff_run.proofs.StepLaws.{asleep_tree, asleep_layout, asleep_after}
use Rattle.aff_run.proofs.RunLaws.{step_edition, Sleeps, sleeps_asleep, Outcome, goes_on_lem, ends, outcome}

-- ---- A live writer.

-- The last 12 bytes of a Void entry's 25.
last_zero : (e : Entry) → is_void e.kind ≡ true → drop 13 (slot_bytes e) ≡ replicate 12 0
unfolding slot_bytes
last_zero e v = rw v (drop_at (entry_bytes e) (replicate 12 0) 13 (length_entry_bytes e ∙ rw v))

module _ (s : State) (tree : Tree) {layout : DataLayout} (g : Invariant s tree layout) where
  -- The 25 bytes of a node.
  slot_is : (n : ℕ) → 0 < n → n ≤ length tree → part (slot_at n) 25 s.tree ≡ slot_bytes (node_entry g.entries n)
  slot_is zero lo hi = absurd (omega arith)
  slot_is (suc k) lo hi =
      let z : suc k - 1 ≡ k = omega arith in
      let e = get_or g.entries k no_entry in
      rw (z, g.tree_is, drop_slots g.entries g.tree_rest k (omega (arith, count_same s tree g)))
      (take_at (slot_bytes e) (slots_of (drop (suc k) g.entries) ++ g.tree_rest) 25 (length_slot_bytes e))

  slot_of : (n : ℕ) → 0 < n → n ≤ length tree → SlotOf (writer_edition s.writer) (names_of tree) layout.end (get_or layout.offsets (n - 1) 0) (tree_node tree n) (part (slot_at n) 25 s.tree)
  slot_of n lo hi =
      let t = stored_in s tree g n lo hi in
      let b = slot_is n lo hi in
      record {
        entry = node_entry g.entries n;
        bytes = b;
        fits = node_storable g.entries (storables s tree g) n lo (omega (arith, count_same s tree g));
        kind = t.kind_is;
        parent = t.parent_is;
        string = t.string_exists;
        name = t.name_is;
        count = t.count_is;
        offset_is = offset_at g.entries n lo ∙ ap (λ (l : List ℕ). get_or l (n - 1) 0) g.offsets_are;
        offset_aligned = t.offset_aligned;
        begins = t.begins;
        ends = λ v. omega (arith, t.ends v, g.end_is);
        last = λ v. rw b (last_zero (node_entry g.entries n) (ap is_void t.kind_is ∙ v));
      }

  module _ (b : ZerosAfter s tree) where
    text_zeros : g.text_rest ≡ replicate (text_area - length (text_of (names_of tree))) 0
    text_zeros =
        let n : length g.text_rest ≡ text_area - length (text_of (names_of tree)) =
        omega (arith, g.text_area_is, ap length g.text_is, length-append (text_of (names_of tree)) g.text_rest) in
        let z : Blank g.text_rest = rw (text_after s tree g) at b.text_blank in
        z ∙ ap (λ (k : ℕ). replicate k 0) n

    tree_zeros : g.tree_rest ≡ replicate (tree_area - 25 * length tree) 0
    tree_zeros =
        let n : length g.tree_rest ≡ tree_area - 25 * length tree =
        omega (arith, g.tree_area_is, ap length g.tree_is, length-append (slots_of g.entries) g.tree_rest, length_slots_of g.entries, count_same s tree g) in
        let z : Blank g.tree_rest = rw (tree_after_lem s tree g) at b.tree_blank in
        z ∙ ap (λ (k : ℕ). replicate k 0) n

    invariant_areas : AreasHold s.writer.edition tree layout s
    invariant_areas =
        record {
          text = g.text_is ∙ ap (λ (l : List ℕ). text_of (names_of tree) ++ l) text_zeros;
          text_long = g.text_area_is;
          slots = slot_of;
          rest = tree_after_lem s tree g ∙ tree_zeros;
          tree_long = g.tree_area_is;
          edition_kept = refl;
          strings_count = g.strings_count;
          text_count = g.text_count;
          nodes_count = g.nodes_count;
          end_recorded = g.end_is;
        }

-- ---- A call that closes or stops the writer.

sleeps_held : (edition : ℕ) (tree : Tree) (layout : DataLayout) (s : State) (t : Step) → Sleeps s t → AreasHold edition tree layout s → AreasHold edition tree layout (next t s.buffer)
sleeps_held edition tree layout s t z h =
    rw (z.0, z.1, z.2)
    (record {
      text = h.text;
      text_long = h.text_long;
      slots = h.slots;
      rest = h.rest;
      tree_long = h.tree_long;
      edition_kept = h.edition_kept;
      strings_count = h.strings_count;
      text_count = h.text_count;
      nodes_count = h.nodes_count;
      end_recorded = h.end_recorded;
    })

-- ---- The run.

abbrev AreasFrom : List Call → Type 0
AreasFrom cs = (s : State) (tree : Tree) (layout : DataLayout) → Invariant s tree layout → ZerosAfter s tree
    → AreasHold s.writer.edition (tree_after tree cs (answers_of s cs)) (layout_after layout cs (answers_of s cs)) (state_after s cs)

module _ (s : State) (tree : Tree) (layout : DataLayout) (g : Invariant s tree layout) (b : ZerosAfter s tree) (c : Call) (cs : List Call) (later : AreasFrom cs) where
  abbrev ok : Bool
  ok = is_accepted (step s c).answer

  -- The same, after call c, of an edition.
  abbrev AreasAfter : ℕ → Type 0
  AreasAfter edition =
      AreasHold edition (tree_after (apply_call tree c ok) cs (answers_of (after_call s c) cs)) (layout_after (call_layout layout c ok) cs (answers_of (after_call s c) cs)) (state_after (after_call s c) cs)

  by_step : Outcome s tree layout c → AreasAfter s.writer.edition
  by_step (goes_on_lem e kept rest) = subst AreasAfter (step_edition s c) (later (after_call s c) _ _ kept (rest b))
  by_step (ends e t o z) =
      let asleep = sleeps_asleep s c z in
      rw (t, o, asleep_tree (after_call s c) asleep tree cs, asleep_layout (after_call s c) asleep layout cs, asleep_after (after_call s c) asleep cs)
      (sleeps_held s.writer.edition tree layout s (step s c) z (invariant_areas s tree g b))

areas_from : (cs : List Call) → AreasFrom cs
areas_from [] s tree layout g b = invariant_areas s tree g b
areas_from (c ∷ cs) s tree layout g b = by_step s tree layout g b c cs (areas_from cs) (outcome s tree g c)

pub run_areas : (run : Run) {n : ℕ} → (run_begin run).answer ≡ accepted n → AreasHold run.edition (run_tree run) (run_layout run) (run_state run)
run_areas run h =
    subst (λ (n : ℕ). AreasHold n (run_tree run) (run_layout run) (run_state run)) (begin_edition run h)
    (areas_from run.calls (run_start run) [] (no_data (header_size (edition_by run.edition))) (begin_invariant run h) (begin_after run h))
