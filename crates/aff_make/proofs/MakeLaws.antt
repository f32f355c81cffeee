-- Make a child, in the terms of its code: whether a name is new, what 20 and 21 ask, what an accepted make leaves, and which marks report
-- a child of that name. Assumes nothing.
use mathlib.Core.Path.{◌≡◌, refl, sym, ap, subst, ◌∙◌}
use mathlib.Core.Bool.{Bool, true, false, ◌&&◌}
use mathlib.Core.List.{List, [], ◌∷◌, ◌++◌}
use Prim.Native.Nat.{ℕ, ◌+◌, ◌≤◌, ◌<◌}
use native.Mathlib.Omega.{arith}
use lib.Dec.{eqb, ltb}
use lib.ListN.{length, get_or}
use borrow.Author.Tests.{lt-ltb, le-ltb, ltb-false}
use Rattle.aff_format.specs.Bytes.{spliced, laid_over}
use Rattle.aff_format.specs.Entry.{slot_bytes}
use Rattle.aff_format.specs.Limits.{string_limit, node_limit, text_area}
use Rattle.aff_format.specs.Lowest.{lowest_from, is_at}
use Rattle.aff_format.specs.Strings.{is_in, index_in}
use Rattle.aff_format.specs.declared.kind.Kind.TheVariants.{Void}
use Rattle.aff_format.proofs.AnswerLaws.{others_reported}
use Rattle.aff_format.proofs.LowestLaws.{lowest_same}
use Rattle.aff_format.proofs.StringsLaws.{is_in_index_in, index_in_within}
use Rattle.aff_format.proofs.TestLaws.{or_false}
use Rattle.aff_format.proofs.LaidLaws.{laid_at}
use Rattle.aff_areas.specs.Areas.{names_in, slot_at, slot_entry}
use Rattle.aff_format.specs.Answer.{Answer, accepted, refused, first_wrong}
use Rattle.aff_format.specs.declared.refusal.RefusalCode.{RefusalCode}
use Rattle.aff_areas.specs.Belongs.{WriterBelongs, writer_checks}
use Rattle.aff_areas.proofs.BelongsLaws.{judge_refuses, judge_leaves}
use Rattle.aff_areas.specs.Writer.{writer_after, area_after}
use Rattle.aff_areas.specs.passes.Marks.{marks_of, is_marked}
use Rattle.aff_areas.specs.declared.writer.Writer.{Writer}
use Rattle.aff_areas.proofs.NameLaws.{mark_at, marks_many}
use Rattle.aff_make.specs.Make.{added_strings, added_text, too_many, made_writer, made_text, made_tree, is_child, child_exists, child_checks, make_answer}

-- A name is new where no string is it.
module _ (writer : Writer) (text name : List ℕ) (string : ℕ) (is : string ≡ index_in name (names_in writer text))
    (all : length (names_in writer text) ≡ writer.strings) where
  pub string_few : string ≤ writer.strings
  string_few = omega (arith, index_in_within name (names_in writer text))

  pub is_old : string < writer.strings → is_in name (names_in writer text) ≡ true
  is_old h = is_in_index_in name (names_in writer text) ∙ rw (← is, all) (lt-ltb string writer.strings h)

  pub is_new : writer.strings ≤ string → is_in name (names_in writer text) ≡ false
  is_new h = is_in_index_in name (names_in writer text) ∙ rw (← is, all) (le-ltb string writer.strings h)

  pub added_old : string < writer.strings → 0 ≡ added_text writer text name
  added_old h = rw (is_old h)

  pub added_new : writer.strings ≤ string → length name + 1 ≡ added_text writer text name
  added_new h = rw (is_new h)

pub not_many : (writer : Writer) (text name : List ℕ) → too_many writer text name ≡ false
    → (writer.nodes + 1 ≤ node_limit) × (writer.strings + added_strings writer text name ≤ string_limit) × (writer.text + added_text writer text name ≤ text_area)
unfolding too_many
not_many writer text name h =
    let p = or_false (ltb node_limit (writer.nodes + 1)) _ h in
    let q = or_false (ltb string_limit (writer.strings + added_strings writer text name)) _ p.1 in
    (ltb-false node_limit (writer.nodes + 1) p.0, ltb-false string_limit (writer.strings + added_strings writer text name) q.0, ltb-false text_area (writer.text + added_text writer text name) q.1)

-- What an accepted make leaves, by the code's number of the string.
module _ (writer : Writer) (text name : List ℕ) where
  pub text_old : is_in name (names_in writer text) ≡ true → text ≡ made_text writer text name
  unfolding made_text
  text_old h = rw h

  pub text_new : is_in name (names_in writer text) ≡ false → spliced writer.text (name ++ (0 ∷ [])) text ≡ made_text writer text name
  unfolding made_text
  text_new h = rw h

  pub tree_made_lem : (tree : List ℕ) (parent string : ℕ) → string ≡ index_in name (names_in writer text)
      → spliced (slot_at (writer.nodes + 1)) (slot_bytes (record { kind = Void; parent = parent; string = string; count = 0; offset = 0 })) tree
      ≡ made_tree writer text tree parent name
  unfolding made_tree
  tree_made_lem tree parent string is = rw (← is)

-- The buffer's length is the recorded one.
pub belongs_own : {size : ℕ} {writer : Writer} {text tree : List ℕ} → WriterBelongs size writer text tree → WriterBelongs writer.length writer text tree
belongs_own {size} {writer} {text} {tree} b = subst (λ (n : ℕ). WriterBelongs n writer text tree) b.length_recorded b

-- 17: a child of that name is one whose string is marked.
module _ {size : ℕ} {writer : Writer} {text tree : List ℕ} (b : WriterBelongs size writer text tree) (name : List ℕ) (marks₀ marks : List ℕ)
    (wide : length marks₀ ≡ 2048) (laid : marks ≡ laid_over marks₀ (marks_of name (names_in writer text))) where
  marked_child : (parent k : ℕ) → 0 < k → k ≤ writer.nodes → is_marked marks tree parent k ≡ is_child writer text tree parent name k
  marked_child parent k lo hi =
      let s : (slot_entry tree k).string < writer.strings = b.string_exists k lo hi in
      let n = b.text_strings in
      let t = (slot_entry tree k).string in
      let g : get_or marks t 0 ≡ get_or (marks_of name (names_in writer text)) t 0 =
      rw laid (laid_at marks₀ (marks_of name (names_in writer text)) t (omega (arith, marks_many b name marks₀ marks wide laid)) (omega (arith, b.few_strings))) in
      ap (λ (c : Bool). eqb (slot_entry tree k).parent parent && c) (ap (λ (x : ℕ). eqb x 1) g ∙ mark_at name (names_in writer text) t (omega arith))

  pub marks_children : (parent : ℕ) → is_at (lowest_from (is_marked marks tree parent) writer.nodes 1) ≡ child_exists writer text tree parent name
  unfolding child_exists
  marks_children parent =
      ap is_at (lowest_same (is_marked marks tree parent) (is_child writer text tree parent name) writer.nodes 1 (λ j lo hi. marked_child parent j (omega arith) (omega arith)))

-- What `judge` refuses (24, 22) is the call's refusal; else the call's other checks decide.
module _ (size : ℕ) (writer : Writer) (text tree : List ℕ) (parent : ℕ) (name : List ℕ) {A : Type 0} (a : A) where
  -- Refused by 24 or 22: that is make's answer, and record, text and tree are as they were; the number is not 23, so the record is not stopped.
  pub judge_stops : {t : RefusalCode} → refused t ≡ first_wrong (writer_checks size writer text tree) a
      → (refused t ≡ make_answer size writer text tree parent name)
      × ((writer ≡ writer_after (refused t) (made_writer writer text name) writer)
      × ((text ≡ area_after (refused t) (made_text writer text name) text)
      × (tree ≡ area_after (refused t) (made_tree writer text tree parent name) tree)))
  unfolding make_answer
  judge_stops h =
      let o = others_reported 23 (writer_checks size writer text tree) refl a (sym h) in
      (judge_refuses size writer text tree a h (child_checks writer text tree parent name) (writer.nodes + 1), (rw o, (refl, refl)))

  -- Passed: make's answer is that of its other checks.
  pub judge_decides : {b : A} → accepted b ≡ first_wrong (writer_checks size writer text tree) a
      → first_wrong (child_checks writer text tree parent name) (writer.nodes + 1) ≡ make_answer size writer text tree parent name
  unfolding make_answer
  judge_decides h = judge_leaves size writer text tree a h (child_checks writer text tree parent name) (writer.nodes + 1)

  -- Passed: an answer that is that of the other checks is make's, and the record, text and tree that it leaves are those that make's answer leaves.
  pub judge_passes : {b : A} {answer : Answer ℕ} {next : Writer} {text' tree' : List ℕ} → accepted b ≡ first_wrong (writer_checks size writer text tree) a
      → (answer ≡ first_wrong (child_checks writer text tree parent name) (writer.nodes + 1))
      × ((next ≡ writer_after answer (made_writer writer text name) writer)
      × ((text' ≡ area_after answer (made_text writer text name) text)
      × (tree' ≡ area_after answer (made_tree writer text tree parent name) tree)))
      → (answer ≡ make_answer size writer text tree parent name)
      × ((next ≡ writer_after answer (made_writer writer text name) writer)
      × ((text' ≡ area_after answer (made_text writer text name) text)
      × (tree' ≡ area_after answer (made_tree writer text tree parent name) tree)))
  judge_passes h m = (m.0 ∙ judge_decides h, m.1)
