-- The decoding of a node's data counts its elements as the entry does. Assumes nothing.
use mathlib.Core.Path.{◌≡◌, refl, sym, ap, ◌∙◌}
use mathlib.Core.Bool.{Bool, true, false}
use mathlib.Core.List.{List, [], ◌∷◌}
use Prim.Native.Nat.{ℕ, ◌-◌, ◌*◌, ◌≤◌, ◌<◌}
use native.Mathlib.Omega.{arith}
use lib.Dec.{leb}
use lib.ListN.{length, get_or, drop}
use mathlib.Core.Logic.{⊎_elim}
use Rattle.aff_format.proofs.ClimbLaws.{at_zero}
use Rattle.aff_format.proofs.AnswerLaws.{passed_value, passed_before}
use Rattle.aff_format.proofs.EntryLaws.{whole_void_count}
use Rattle.aff_format.specs.Answer.{accepted, check, refusal, first_wrong}
use Rattle.aff_format.specs.Element.{count_in, element_at, decoded}
use Rattle.aff_format.specs.Kind.{element_size, is_void}
use Rattle.aff_format.specs.declared.kind.Kind.{Kind}
use Rattle.aff_format.specs.declared.kind.Kind.TheVariants.{Void, Char, Int, Double, Complex}
use Rattle.aff_format.proofs.BytesLaws.{length_part}
use Rattle.aff_format.proofs.KindLaws.{count_in_void}
use Rattle.aff_reader.specs.Belongs.{ReaderBelongs}
use Rattle.aff_reader.specs.Opened.{of}
use Rattle.aff_reader.specs.declared.opened.Opened.{Opened}
use Rattle.aff_format.specs.Recorded.{recorded_entry}
use Rattle.aff_reader.specs.declared.reader.Reader.{Reader}
use Rattle.aff_nodes.specs.Answers.{exists_checks, element_answer}
use Rattle.aff_nodes.proofs.JudgeLaws.{judge_belongs}
use Rattle.aff_nodes.specs.Recall.{kind_at, count_at, data_span, bytes_at}
use Rattle.aff_nodes.proofs.SpanLaws.{data_ends}

-- n elements are counted in as many bytes as they take.
pub counted : (k : Kind) (n : ℕ) (l : List ℕ) → is_void k ≡ false → length l ≡ n * element_size k → count_in k l ≡ n
counted Void n l v h = absurd (let z : ◌≡◌ {A = ℕ} 0 1 = cc in omega arith)
counted Char n l v h = omega arith
counted Int n l v h = omega arith
counted Double n l v h = omega arith
counted Complex n l v h = omega arith

module _ {image : List ℕ} {reader : Reader} {strings entries : List ℕ} (b : ReaderBelongs image reader strings entries) (node : ℕ) (there : node ≤ reader.nodes) where
  -- A Void node's count is 0.
  pub void_count : is_void (kind_at image entries node) ≡ true → count_at image entries node ≡ 0
  unfolding recorded_entry
  void_count v =
      ⊎_elim (λ (z : node ≡ 0). rw z) (λ (h : 0 < node). whole_void_count (drop (get_or entries (node - 1) 0) image) (recorded_entry image entries node) (b.entry_whole node h there) v)
      (at_zero (λ k. k) node)

  pub count_in_lem : count_in (kind_at image entries node) (bytes_at image entries node) ≡ count_at image entries node
  unfolding data_span
  count_in_lem = go (is_void (kind_at image entries node)) refl
    where
      go : (v : Bool) → is_void (kind_at image entries node) ≡ v → count_in (kind_at image entries node) (bytes_at image entries node) ≡ count_at image entries node
      go true v = count_in_void (kind_at image entries node) (bytes_at image entries node) v ∙ sym (void_count v)
      go false v = counted (kind_at image entries node) (count_at image entries node) (bytes_at image entries node) v (rw v (length_part _ _ image (data_ends b node there v)))

  pub element_decoded : (index : ℕ) → decoded (kind_at image entries node) (bytes_at image entries node) index
      ≡ first_wrong (check (leb (count_at image entries node) index) (refusal 16) ∷ []) (element_at (kind_at image entries node) (bytes_at image entries node) index)
  unfolding decoded
  element_decoded index = rw count_in_lem

-- What is decoded of a judged record is the call's answer.
pub element_judged : (o b : Opened) (node index : ℕ) → accepted b ≡ first_wrong (of o exists_checks node) o
    → decoded (kind_at b.image.now b.entries.now node) (bytes_at b.image.now b.entries.now node) index ≡ of o element_answer node index
unfolding element_answer
element_judged o b node index j =
    let (belongs, exists) = judge_belongs o.image.now o.reader o.strings.now o.entries.now node o j in
    let same : o ≡ b = passed_value (of o exists_checks node) o (sym j) in
    ap (λ (x : Opened). decoded (kind_at x.image.now x.entries.now node) (bytes_at x.image.now x.entries.now node) index) (sym same)
    ∙ element_decoded belongs node exists index
    ∙ sym (passed_before (of o exists_checks node) (check (leb (count_at o.image.now o.entries.now node) index) (refusal 16) ∷ []) o
    (element_at (kind_at o.image.now o.entries.now node) (bytes_at o.image.now o.entries.now node) index) (sym j))
