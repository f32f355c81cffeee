-- The call `line` answers by its rules, and leaves the line at the front of its output. Assumes nothing.
use mathlib.Core.Path.{◌≡◌, refl, sym, ap, ◌∙◌}
use mathlib.Core.Bool.{false, not, true≢false}
use mathlib.Core.List.{List, [], ◌∷◌}
use mathlib.Core.Logic.{◌↔◌, inl, inr}
use Prim.Native.Nat.{ℕ, ◌≤◌}
use native.Mathlib.Omega.{arith}
use lib.ListN.{length}
use borrow.Author.Tests.{not-false}
use Rattle.aff_format.specs.Answer.{refused, refusal}
use Rattle.aff_format.specs.Rule.{Rule, rule, FirstFails, By, Is}
use Rattle.aff_format.specs.declared.refusal.RefusalCode.{RefusalCode}
use Rattle.aff_format.proofs.RuleLaws.{none, one, by_checks, at_most}
use Rattle.aff_reader.specs.Belongs.{reader_belongs, ReaderBelongs}
use Rattle.aff_reader.specs.declared.reader.Reader.{Reader}
use Rattle.aff_open.specs.Opening.{open_answer, reader_after, strings_after, entries_after}
use Rattle.aff_reader.proofs.BelongsLaws.{belongs_record, record_belongs, none_belongs}
use Rattle.aff_open.proofs.OpenedLaws.{opened_belongs}
use Rattle.aff_nodes.specs.Answers.{exists_checks}
use Rattle.aff_read.proofs.OutputLaws.{wrote, text_fits}
use Rattle.aff_list.proofs.LineBytesLaws.{line_path, path_printable, line_spaces, line_feeds}
use Rattle.aff_list.specs.Line.{line_at, line_answer, LineAnswers, LineAfterOpening}

module _ (image : List ℕ) (reader : Reader) (strings entries : List ℕ) where
  belongs_asks : (not (reader_belongs image reader strings entries) ≡ false) ↔ ReaderBelongs image reader strings entries
  belongs_asks = (λ h. belongs_record (not-false (reader_belongs image reader strings entries) h), λ b. ap not (record_belongs b))

  abbrev rules : ℕ → ℕ → List Rule
  rules node size =
      rule (ReaderBelongs image reader strings entries) (refusal 24)
      ∷ rule (node ≤ reader.nodes) (refusal 15)
      ∷ rule (length (line_at image reader strings entries node) ≤ size) (refusal 21)
      ∷ []

  by : (node size : ℕ) → By (rules node size) (Is (length (line_at image reader strings entries node))) (line_answer image reader strings entries node size)
  unfolding line_answer
  by node size =
      by_checks _ (one belongs_asks (λ _. one (at_most reader.nodes node) (λ _. one (at_most size (length (line_at image reader strings entries node))) (λ _. none))))

  -- A record that belongs: no rule that fails has the number 24.
  not_24 : ReaderBelongs image reader strings entries → (node size : ℕ) (t : RefusalCode) → FirstFails (rules node size) t → t.number ≡ 24 → ⊥
  not_24 b node size t (inl (n, e)) h = n b
  not_24 b node size t (inr (_, inl (n, e))) h = let q : ◌≡◌ {A = ℕ} 15 24 = ap (λ (x : RefusalCode). x.number) e ∙ h in omega arith
  not_24 b node size t (inr (_, inr (_, inl (n, e)))) h = let q : ◌≡◌ {A = ℕ} 21 24 = ap (λ (x : RefusalCode). x.number) e ∙ h in omega arith
  not_24 b node size t (inr (_, inr (_, inr f))) h = f.1

  pub line_not_24 : ReaderBelongs image reader strings entries → (node size : ℕ) (t : RefusalCode)
      → line_answer image reader strings entries node size ≡ refused t → t.number ≡ 24 → ⊥
  line_not_24 b node size t h = not_24 b node size t (((by node size).refuses t).0 h)

  pub line_answers : LineAnswers image reader strings entries
  unfolding line_answer
  line_answers =
      record {
        by_rules = by;
        at_24 = λ node size. (
          λ h b. line_not_24 b node size (refusal 24) h refl,
          λ n. ((by node size).refuses (refusal 24)).1 (inl (n, refl)),
        );
        leaves = λ node out.
            wrote (line_answer image reader strings entries node (length out)) (line_at image reader strings entries node) out
            (λ n h. text_fits (exists_checks image reader strings entries node) (length out) (length (line_at image reader strings entries node)) h);
        path_shown = line_path image reader strings entries;
        path_printable = path_printable image reader strings entries;
        two_spaces = line_spaces image reader strings entries;
        no_feed = line_feeds image reader strings entries;
      }

pub line_after_opening : LineAfterOpening
line_after_opening =
    record {
      opened_reads = λ image form strings entries h node size.
          line_not_24 image _ (strings_after image form strings entries) (entries_after image form strings entries)
          (belongs_record (opened_belongs image form strings entries h)) node size;
      refused_reads = λ image form strings entries h other ss es node size.
          ((line_answers other (reader_after (open_answer image form strings entries)) ss es).at_24 node size).1
          (λ b. true≢false (sym (record_belongs b) ∙ rw h (none_belongs other ss es)));
    }
