-- How the checks of nodes join the tables: a refusal of either is the opening's. Assumes nothing.
use mathlib.Core.Path.{◌≡◌, refl, sym, ap, ◌∙◌}
use mathlib.Core.Bool.{true, false, true≢false}
use mathlib.Core.List.{List}
use Prim.Native.Nat.{ℕ, ◌+◌}
use lib.ListN.{length, replicate, length-replicate}
use Rattle.aff_format.specs.Answer.{Answer, accepted, refused, first_wrong}
use Rattle.aff_format.specs.Bytes.{laid_over}
use Rattle.aff_format.specs.declared.section.Section.TheVariants.{Symbol, Data}
use Rattle.aff_format.specs.declared.edition.Edition.{Edition}
use Rattle.aff_format.specs.declared.refusal.Refusal.{Refusal}
use Rattle.aff_format.specs.declared.refusal.RefusalCode.{RefusalCode}
use Rattle.aff_format.proofs.AnswerLaws.{refused_before, passed_before}
use Rattle.aff_format.proofs.LaidLaws.{length_laid}
use Rattle.aff_tables.specs.Nodes.{recorded_contents, node_checks}
use Rattle.aff_tables.proofs.NodeLaws.{checked_alike}
use Rattle.aff_open.specs.Opening.{up_to_tables, open_checks, nodes_checked, open_answer, span_of, reader_for, tables_answer, sizes_in, string_places, node_places, strings_filled, entries_filled, strings_after, entries_after, area_filled}
use Rattle.aff_open.specs.passes.Opening.{IsReadable, StringsLaid, EntriesLaid}
use Rattle.aff_open.specs.Sections.{edition_in}
use Rattle.std.specs.Prelude.{Result, Ok, Err, is_ok}
use Rattle.aff_reader.specs.declared.reader.Reader.{Reader}
use Rattle.aff_reader.specs.declared.reader.Span.{Span}
use Rattle.aff_open.specs.declared.tables.TableSizes.{TableSizes}
use Rattle.aff_open.proofs.TablesLaws.{tables_sizes, tables_lengths, tables_readable, tables_strings, tables_entries, strings_filled_lem, entries_filled_lem}
use Rattle.aff_format.specs.Verdict.{answer_of}

-- Strings and entries laid into the areas: the checks by them are the image's.
module _ {e : Edition} {image strings entries : List ℕ} {n m : ℕ} (ss : StringsLaid e image strings n) (es : EntriesLaid e image entries m)
    (t u : Span) (is : t ≡ span_of e Symbol image) (iu : u ≡ span_of e Data image) where
  pub checked_by : {A : Type 0} (v : A)
      → first_wrong (node_checks e u.offset u.size (recorded_contents image (t.offset + t.size) strings n entries m)) v ≡ first_wrong (nodes_checked e image) v
  checked_by v =
      rw (is, iu)
      (checked_alike e (span_of e Data image).offset (span_of e Data image).size
      (record { strings = ss.counted; nodes = es.counted; string = ss.are; entry = es.are }) v)

-- ---- The whole opening.

-- An area that an accepted answer keeps as it is, and a refusal clears.
abbrev pub kept_or_cleared : {A : Type 0} → Answer A → List ℕ → List ℕ
kept_or_cleared (accepted a) area = area
kept_or_cleared (refused t) area = replicate (length area) 0

pub kept_is : {A : Type 0} (r : Result A Refusal) (area : List ℕ) → is_ok r ≡ true → area ≡ kept_or_cleared (answer_of r) area
kept_is (Ok a) area h = refl
kept_is (Err q) area h = absurd (true≢false (sym h))

pub cleared_is : {A : Type 0} (r : Result A Refusal) (area : List ℕ) → is_ok r ≡ false → replicate (length area) 0 ≡ kept_or_cleared (answer_of r) area
cleared_is (Ok a) area h = absurd (true≢false h)
cleared_is (Err q) area h = refl

abbrev pub Opens : List ℕ → List ℕ → Answer Reader → List ℕ → List ℕ → List ℕ → List ℕ → Type 0
Opens image form a strings₀ strings entries₀ entries =
    (a ≡ open_answer image form (length strings₀) (length entries₀))
    × ((strings ≡ strings_after image form strings₀ entries₀) × (entries ≡ entries_after image form strings₀ entries₀))

module _ (image form strings₀ entries₀ : List ℕ) where
  abbrev answer : Answer Reader
  answer = open_answer image form (length strings₀) (length entries₀)

  -- A refusal up to 9: the areas are as the tables left them.
  refused_whole : {t : RefusalCode} → tables_answer image form (length strings₀) (length entries₀) ≡ refused t → answer ≡ refused t
  unfolding open_checks
  refused_whole h =
      refused_before (up_to_tables image form (length strings₀) (length entries₀)) (nodes_checked (edition_in image) image)
      (sizes_in (edition_in image) image) (reader_for (edition_in image) image) h

  pub refused_opens : {t : RefusalCode} {strings entries : List ℕ} → tables_answer image form (length strings₀) (length entries₀) ≡ refused t
      → strings ≡ strings_filled image form strings₀ entries₀ → entries ≡ entries_filled image form strings₀ entries₀
      → Opens image form (refused t) strings₀ strings entries₀ entries
  unfolding strings_filled entries_filled strings_after entries_after
  refused_opens h ss es = let r = refused_whole h in (sym r, (ss ∙ rw (h, r), es ∙ rw (h, r)))

  -- Sound tables: the checks of nodes decide, and what they keep or clear is the opening's area.
  module _ {s : TableSizes} (found : tables_answer image form (length strings₀) (length entries₀) ≡ accepted s) where
    nodes_decide : first_wrong (nodes_checked (edition_in image) image) (reader_for (edition_in image) image) ≡ answer
    unfolding open_checks
    nodes_decide =
        sym (passed_before (up_to_tables image form (length strings₀) (length entries₀)) (nodes_checked (edition_in image) image)
        (sizes_in (edition_in image) image) (reader_for (edition_in image) image) found)

    kept : (a : Answer Reader) (area₀ places : List ℕ) → kept_or_cleared a (laid_over (replicate (length area₀) 0) places) ≡ area_filled a area₀ places
    kept (accepted r) area₀ places = refl
    kept (refused t) area₀ places = ap (λ (k : ℕ). replicate k 0) (length_laid (replicate (length area₀) 0) places ∙ length-replicate {A = ℕ} (length area₀) 0)

    pub tables_by : {strings entries : List ℕ} → strings ≡ strings_filled image form strings₀ entries₀ → entries ≡ entries_filled image form strings₀ entries₀
        → IsReadable s.edition image × StringsLaid s.edition image strings s.strings × EntriesLaid s.edition image entries s.nodes
    tables_by ss es =
        rw (ss, es, ← tables_sizes image form strings₀ entries₀ found)
        (tables_readable image form strings₀ entries₀ found, tables_strings image form strings₀ entries₀ found, tables_entries image form strings₀ entries₀ found)

    pub found_opens : {a : Answer Reader} {laid_strings strings laid_entries entries : List ℕ}
        → a ≡ first_wrong (nodes_checked s.edition image) (reader_for s.edition image)
        → strings ≡ kept_or_cleared a laid_strings → entries ≡ kept_or_cleared a laid_entries
        → laid_strings ≡ strings_filled image form strings₀ entries₀ → laid_entries ≡ entries_filled image form strings₀ entries₀
        → Opens image form a strings₀ strings entries₀ entries
    unfolding strings_after entries_after
    found_opens {a} reported ss es ls le =
        let q : s.edition ≡ edition_in image = ap (λ (x : TableSizes). x.edition) (sym (tables_sizes image form strings₀ entries₀ found)) in
        let t : a ≡ answer = reported ∙ ap (λ (e : Edition). first_wrong (nodes_checked e image) (reader_for e image)) q ∙ nodes_decide in
        let lengths = tables_lengths image form strings₀ entries₀ found in (
          t,
          (
            ss ∙ rw (ls, t, strings_filled_lem image form strings₀ entries₀ found, lengths) (kept answer strings₀ (string_places (edition_in image) image)),
            es ∙ rw (le, t, entries_filled_lem image form strings₀ entries₀ found, lengths) (kept answer entries₀ (node_places (edition_in image) image)),
          ),
        )
