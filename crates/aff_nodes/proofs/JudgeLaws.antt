-- Calls that judge a node first and then answer of it. Assumes nothing.
use mathlib.Core.Path.{◌≡◌, sym}
use mathlib.Core.List.{List}
use Prim.Native.Nat.{ℕ, ◌+◌, ◌≤◌}
use borrow.Author.Tests.{ltb-false, not-false}
use lib.ListN.{length}
use Rattle.aff_format.specs.Answer.{accepted, first_wrong}
use Rattle.aff_format.specs.Verdict.{answer_of}
use Rattle.aff_format.specs.declared.refusal.Refusal.{Refusal}
use Rattle.aff_format.proofs.AnswerLaws.{passed, passed_value}
use Rattle.std.specs.Prelude.{Result, Ok, Err}
use Rattle.std.specs.Result.{IfOk}
use Rattle.aff_reader.specs.Belongs.{ReaderBelongs, reader_belongs}
use Rattle.aff_reader.specs.declared.reader.Span.{Span}
use Rattle.aff_reader.specs.declared.reader.Reader.{Reader}
use Rattle.aff_reader.proofs.BelongsLaws.{belongs_record}
use Rattle.aff_nodes.specs.Answers.{exists_checks}

-- A call that judges 24 and 15 first was accepted: the record belongs, and the node exists.
pub judge_belongs : {A : Type 0} (image : List ℕ) (reader : Reader) (strings entries : List ℕ) (node : ℕ) {a : A} (b : A)
    → accepted a ≡ first_wrong (exists_checks image reader strings entries node) b → ReaderBelongs image reader strings entries × (node ≤ reader.nodes)
judge_belongs image reader strings entries node b h =
    let (r, (n, _)) = passed (exists_checks image reader strings entries node) b (sym h) in
    (belongs_record (not-false (reader_belongs image reader strings entries) r), ltb-false reader.nodes node n)

-- A span that was answered lies inside the image, where the node's does.
pub span_inside_lem : (image : List ℕ) (reader : Reader) (strings entries : List ℕ) (node : ℕ) (t : Span)
    → (ReaderBelongs image reader strings entries → node ≤ reader.nodes → t.offset + t.size ≤ length image)
    → (r : Result Span Refusal) → answer_of r ≡ first_wrong (exists_checks image reader strings entries node) t
    → IfOk r (λ s. s.offset + s.size ≤ length image)
span_inside_lem image reader strings entries node t inside (Ok s) h =
    let (belongs, exists) = judge_belongs image reader strings entries node t h in
    rw (sym (passed_value (exists_checks image reader strings entries node) t (sym h))) (inside belongs exists)
span_inside_lem image reader strings entries node t inside (Err r) h = tt
