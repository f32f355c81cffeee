-- 24 for the writer: the test in the order of the passes, the test and document 01's clauses (both ways), and what `judge` says to its
-- callers. Node by node: an entry is lost, or has all that the clauses ask. Assumes nothing.
use mathlib.Core.Path.{◌≡◌, refl, sym, ◌∙◌}
use mathlib.Core.Bool.{Bool, true, false, ◌&&◌, true≢false}
use mathlib.Core.List.{List, ◌++◌}
use Prim.Native.Nat.{ℕ, ◌+◌, ◌-◌, ◌*◌, ◌≤◌, ◌<◌}
use native.Mathlib.Omega.{arith}
use lib.Dec.{eqb, leb}
use lib.ListN.{length}
use borrow.Author.Tests.{eq-eqb, le-leb, lt-leb, eqb-true, leb-true, leb-false, not-true, not-false}
use Rattle.aff_format.specs.Answer.{accepted, refused, first_wrong, Check}
use Rattle.aff_format.specs.declared.refusal.RefusalCode.{RefusalCode}
use Rattle.aff_format.specs.Kind.{element_size, is_void}
use Rattle.aff_format.specs.Limits.{image_limit, string_limit, node_limit, text_area, tree_area}
use Rattle.aff_format.specs.Lowest.{lowest_from, none_from}
use Rattle.aff_format.specs.Strings.{ends_in_zero}
use Rattle.aff_format.specs.declared.entry.Entry.{Entry}
use Rattle.std.specs.Prelude.{Option, Some, None}
use Rattle.aff_format.proofs.AnswerLaws.{passed, passed_before, refused_before}
use Rattle.aff_format.proofs.LowestLaws.{none_holds, holds_none, none_at}
use Rattle.aff_format.proofs.TestLaws.{both, all_seven, or_false}
use Rattle.aff_format.specs.Entry.{or_none}
use Rattle.aff_format.proofs.EditionLaws.{names_written_lem, written_named}
use Rattle.aff_format.proofs.EntryLaws.{data_asks}
use Rattle.aff_format.specs.Edition.{names_written}
use Rattle.aff_areas.specs.Areas.{used_text, names_in, found_slot, slot_entry, finished_size}
use Rattle.aff_areas.specs.Belongs.{writer_belongs, WriterBelongs, writer_sizes_belong, text_belongs, slot_lost, writer_node_lost, writer_nodes_belong, writer_checks}
use Rattle.aff_areas.specs.Writer.{data_place, data_size, no_writer}
use Rattle.aff_areas.specs.declared.writer.Writer.{Writer}
use Rattle.aff_areas.proofs.AreaLaws.{slot_found}

-- ---- The test in the order of the passes.

module _ (size : ℕ) (writer : Writer) (text tree : List ℕ) where
  pub edition_decides : names_written writer.edition ≡ false → writer_belongs size writer text tree ≡ false
  unfolding writer_belongs
  edition_decides h = rw h

  pub nodes_decide : names_written writer.edition ≡ true → writer_sizes_belong size writer text tree ≡ true → text_belongs writer text ≡ true → writer_belongs size writer text tree ≡ writer_nodes_belong writer tree
  unfolding writer_belongs
  nodes_decide e h g = rw (e, h, g)

  pub count_decides : size ≡ writer.length → writer.length ≤ image_limit → length text ≡ text_area → length tree ≡ tree_area
      → writer.strings ≤ string_limit → writer.text ≤ text_area → writer_sizes_belong size writer text tree ≡ leb writer.nodes node_limit
  unfolding writer_sizes_belong
  count_decides a b c d e f =
      rw (
        eq-eqb size writer.length a,
        le-leb writer.length image_limit b,
        eq-eqb (length text) text_area c,
        eq-eqb (length tree) tree_area d,
        le-leb writer.strings string_limit e,
        le-leb writer.text text_area f,
      )

  pub sizes_hold : writer_sizes_belong size writer text tree ≡ true
      → (size ≡ writer.length) × (writer.length ≤ image_limit) × (length text ≡ text_area) × (length tree ≡ tree_area)
      × (writer.strings ≤ string_limit) × (writer.text ≤ text_area) × (writer.nodes ≤ node_limit)
  unfolding writer_sizes_belong
  sizes_hold h =
      let p = all_seven (eqb size writer.length) (leb writer.length image_limit) (eqb (length text) text_area)
      (eqb (length tree) tree_area) (leb writer.strings string_limit) (leb writer.text text_area) (leb writer.nodes node_limit) h in
      (eqb-true _ _ p.0, leb-true _ _ p.1, eqb-true _ _ p.2, eqb-true _ _ p.3, leb-true _ _ p.4, leb-true _ _ p.5, leb-true _ _ p.6)

module _ (writer : Writer) (tree : List ℕ) where
  pub size_decides : {from : ℕ} → from ≡ data_place writer → data_place writer ≤ writer.end
      → lowest_from (writer_node_lost writer.strings from (writer.end - from) tree) writer.nodes 1 ≡ None
      → writer_nodes_belong writer tree ≡ leb (finished_size writer tree) writer.length
  unfolding writer_nodes_belong
  size_decides p l h = rw (le-leb (data_place writer) writer.end l, ← p, h)

-- ---- Nodes.

-- What an entry has that is not lost, and back.
pub record Kept (strings from size k : ℕ) (e : Entry) : Type 0 where
  pub parent : e.parent < k
  pub string : e.string < strings
  pub inside : is_void e.kind ≡ false → (from ≤ e.offset) × (e.offset + e.count * element_size e.kind ≤ from + size)

pub kept_slot : (strings from size k : ℕ) (e : Entry) (f : Option Entry) → f ≡ Some e → Kept strings from size k e → slot_lost strings from size k f ≡ false
kept_slot strings from size k e f q w =
    rw (q, lt-leb k e.parent w.parent, lt-leb strings e.string w.string) ((data_asks from size e).1 w.inside)

pub slot_kept : (strings from size k : ℕ) (f : Option Entry) → slot_lost strings from size k f ≡ false
    → (f ≡ Some (or_none f)) × Kept strings from size k (or_none f)
slot_kept strings from size k None h = absurd (true≢false h)
slot_kept strings from size k (Some e) h =
    let (p, r) = or_false _ _ h in
    let (s, d) = or_false _ _ r in
    (refl, record { parent = leb-false _ _ p; string = leb-false _ _ s; inside = (data_asks from size e).0 d })

-- A node by the content of its slot.
pub node_judged : (strings from size : ℕ) (tree : List ℕ) (k : ℕ) {f : Option Entry} {r b : Bool} → f ≡ found_slot tree k → r ≡ slot_lost strings from size k f → r ≡ b
    → writer_node_lost strings from size tree k ≡ b
unfolding writer_node_lost
node_judged strings from size tree k found t h = rw (← found) (sym t ∙ h)

-- Where the lowest that is lost is none, each entry is whole and has no fault.
pub nodes_kept : (strings from size nodes : ℕ) (tree : List ℕ) → lowest_from (writer_node_lost strings from size tree) nodes 1 ≡ None → (k : ℕ) → 0 < k → k ≤ nodes
    → (found_slot tree k ≡ Some (slot_entry tree k)) × Kept strings from size k (slot_entry tree k)
unfolding writer_node_lost
nodes_kept strings from size nodes tree none k l h =
    rw (slot_found tree k l)
    (slot_kept strings from size k (found_slot tree k) (none_holds (writer_node_lost strings from size tree) nodes 1 none k (omega arith) (omega arith)))

-- ---- The test and the clauses.

pub belongs_record : {size : ℕ} {writer : Writer} {text tree : List ℕ} → writer_belongs size writer text tree ≡ true → WriterBelongs size writer text tree
unfolding writer_belongs text_belongs writer_nodes_belong
belongs_record {size} {writer} {text} {tree} h =
    let w = both (names_written writer.edition) (writer_sizes_belong size writer text tree && (text_belongs writer text && writer_nodes_belong writer tree)) h in
    let p = both (writer_sizes_belong size writer text tree) (text_belongs writer text && writer_nodes_belong writer tree) w.1 in
    let q = both (text_belongs writer text) (writer_nodes_belong writer tree) p.1 in
    let t = both (ends_in_zero (used_text writer text)) (eqb (length (names_in writer text)) writer.strings) q.0 in
    let none = none_from (writer_node_lost writer.strings (data_place writer) (data_size writer) tree) writer.nodes 1 in
    let d = both (leb (data_place writer) writer.end) (none && leb (finished_size writer tree) writer.length) q.1 in
    let n = both none (leb (finished_size writer tree) writer.length) d.1 in
    let s = sizes_hold size writer text tree p.0 in
    let after = leb-true (data_place writer) writer.end d.0 in
    let node = nodes_kept writer.strings (data_place writer) (data_size writer) writer.nodes tree (none_at _ (not-true _ n.0)) in
    record {
      edition_written = names_written_lem writer.edition w.0;
      length_recorded = s.0;
      length_allowed = s.1;
      text_area_is = s.2;
      tree_area_is = s.3;
      few_strings = s.4;
      text_inside = s.5;
      few_nodes = s.6;
      text_ends = t.0;
      text_strings = eqb-true _ _ t.1;
      slot_whole = λ k l m. (node k l m).0;
      parent_lower = λ k l m. (node k l m).1.parent;
      string_exists = λ k l m. (node k l m).1.string;
      end_after_header = after;
      data_begins = λ k l m v. ((node k l m).1.inside v).0;
      data_ends = λ k l m v. omega (arith, ((node k l m).1.inside v).1, after);
      size_fits = leb-true _ _ n.1;
    }

module _ {size : ℕ} {writer : Writer} {text tree : List ℕ} (b : WriterBelongs size writer text tree) where
  sizes_true : writer_sizes_belong size writer text tree ≡ true
  sizes_true =
      count_decides size writer text tree b.length_recorded b.length_allowed b.text_area_is b.tree_area_is b.few_strings b.text_inside
      ∙ le-leb writer.nodes node_limit b.few_nodes

  text_true : text_belongs writer text ≡ true
  unfolding text_belongs
  text_true = rw b.text_ends (eq-eqb _ _ b.text_strings)

  nodes_none : lowest_from (writer_node_lost writer.strings (data_place writer) (data_size writer) tree) writer.nodes 1 ≡ None
  unfolding writer_node_lost
  nodes_none =
      holds_none _ writer.nodes 1
      (λ k l m.
      let h : k ≤ writer.nodes = omega arith in
      kept_slot writer.strings (data_place writer) (data_size writer) k (slot_entry tree k) (found_slot tree k) (b.slot_whole k l h)
      (record {
        parent = b.parent_lower k l h;
        string = b.string_exists k l h;
        inside = λ v. (b.data_begins k l h v, omega (arith, b.data_ends k l h v, b.end_after_header));
      }))

  pub record_belongs : writer_belongs size writer text tree ≡ true
  record_belongs =
      nodes_decide size writer text tree (written_named writer.edition b.edition_written) sizes_true text_true
      ∙ size_decides writer tree refl b.end_after_header nodes_none
      ∙ le-leb (finished_size writer tree) writer.length b.size_fits

-- The end of data is inside the finished size, so that of a record that belongs is inside the buffer: what `finished_size` asks for.
pub end_inside : (writer : Writer) (tree : List ℕ) → writer.end ≤ finished_size writer tree
unfolding finished_size
end_inside writer tree = omega arith

pub sizes_small : {size : ℕ} {writer : Writer} {text tree : List ℕ} → WriterBelongs size writer text tree
    → (writer.end ≤ image_limit) × (writer.text ≤ text_area) × (writer.nodes ≤ node_limit)
sizes_small {size} {writer} {text} {tree} b = (omega (arith, end_inside writer tree, b.size_fits, b.length_allowed), b.text_inside, b.few_nodes)

-- The all-zero record never belongs: its edition, 0, does not exist.
pub none_belongs : (size : ℕ) (text tree : List ℕ) → writer_belongs size no_writer text tree ≡ false
unfolding writer_belongs
none_belongs size text tree = refl

-- ---- What `judge` says decides every call that judges first.

module _ (size : ℕ) (writer : Writer) (text tree : List ℕ) {A : Type 0} (a : A) where
  -- Accepted: the record belongs and is live, and the checks after decide.
  pub judge_belongs : {b : A} → accepted b ≡ first_wrong (writer_checks size writer text tree) a → WriterBelongs size writer text tree × (writer.live ≡ true)
  judge_belongs h =
      let (b, (l, _)) = passed (writer_checks size writer text tree) a (sym h) in
      (belongs_record (not-false (writer_belongs size writer text tree) b), not-false writer.live l)

  pub judge_leaves : {B : Type 0} {b : A} → accepted b ≡ first_wrong (writer_checks size writer text tree) a → (more : List Check) (c : B)
      → first_wrong more c ≡ first_wrong (writer_checks size writer text tree ++ more) c
  judge_leaves h more c = sym (passed_before (writer_checks size writer text tree) more a c (sym h))

  -- Refused: the refusal is the call's, and it is 24 or 22.
  pub judge_refuses : {B : Type 0} {t : RefusalCode} → refused t ≡ first_wrong (writer_checks size writer text tree) a → (more : List Check) (c : B)
      → refused t ≡ first_wrong (writer_checks size writer text tree ++ more) c
  judge_refuses h more c = sym (refused_before (writer_checks size writer text tree) more a c (sym h))
