-- A node's line: path, a space, type word, a space, count. Document 01, 'The lister'; request C-15 for the bytes of the path.
use Rattle.std.specs.Prelude.{cond, List, [], ◌∷◌, ◌++◌, ℕ, zero, suc, ◌+◌, ◌/◌, ◌%◌, ◌≤◌, ltb, length, ◌≡◌, ◌↔◌}
use Rattle.aff_format.specs.Answer.{Answer, check, refusal, first_wrong, accepted, refused}
use Rattle.aff_format.specs.declared.kind.Kind.{Kind}
use Rattle.aff_format.specs.declared.kind.Kind.TheVariants.{Void, Char, Int, Double, Complex}
use Rattle.aff_reader.specs.declared.reader.Reader.{Reader}
use Rattle.aff_nodes.specs.Answers.{exists_checks}
use Rattle.aff_nodes.specs.Recall.{kind_at, count_at, path_at}
use Rattle.aff_format.specs.Rule.{rule, By, Is}
use Rattle.aff_reader.specs.Belongs.{ReaderBelongs}
use Rattle.aff_read.specs.Paths.{spelled_path_at, Output, front_written}
use Rattle.aff_format.specs.Bytes.{Octets}
use Rattle.aff_listing.specs.Once.{occurrences}
use Rattle.aff_spelling.specs.Spelling.{shown, Printable}
use Rattle.aff_spelling.specs.declared.spelling.Spelling.TheVariants.{Escaped}
use Rattle.aff_format.specs.declared.refusal.RefusalCode.{RefusalCode}
use Rattle.aff_open.specs.Opening.{open_answer, reader_after, strings_after, entries_after}

-- Type words: `void`, `char`, `int`, `double`, `complex`.
abbrev pub kind_word : Kind → List ℕ
kind_word Void = 118 ∷ 111 ∷ 105 ∷ 100 ∷ []
kind_word Char = 99 ∷ 104 ∷ 97 ∷ 114 ∷ []
kind_word Int = 105 ∷ 110 ∷ 116 ∷ []
kind_word Double = 100 ∷ 111 ∷ 117 ∷ 98 ∷ 108 ∷ 101 ∷ []
kind_word Complex = 99 ∷ 111 ∷ 109 ∷ 112 ∷ 108 ∷ 101 ∷ 120 ∷ []

-- The decimal digits of n, at most `most` of them: no leading zero, and one digit at least.
unfoldable pub decimal : ℕ → ℕ → List ℕ
decimal zero n = []
decimal (suc most) n = cond (ltb n 10) ((48 + n) ∷ []) (decimal most (n / 10) ++ ((48 + n % 10) ∷ []))

module _ (image : List ℕ) (reader : Reader) (strings entries : List ℕ) where
  -- The line of a node: its path with each name escaped. A count has at most ten digits (`count_digits` in proofs/LineLaws.antt).
  unfoldable pub line_at : ℕ → List ℕ
  line_at node = spelled_path_at Escaped image reader strings entries node ++ (32 ∷ (kind_word (kind_at image entries node) ++ (32 ∷ decimal 10 (count_at image entries node))))

  -- 24, 15, 21. It returns the line's length.
  unfoldable pub line_answer : ℕ → ℕ → Answer ℕ
  line_answer node size =
      first_wrong (exists_checks image reader strings entries node ++ (check (ltb size (length (line_at node))) (refusal 21) ∷ []))
      (length (line_at node))

  -- What is proved of the call (`line_answers` in proofs/LineAnswerLaws.antt), for every record and memory: it answers by its rules, 24, 15, 21, in this
  -- order; when 24 comes; what it leaves in the output; and of which bytes a line is made.
  pub record LineAnswers : Type 0 where
    pub by_rules : (node size : ℕ)
        → By (rule (ReaderBelongs image reader strings entries) (refusal 24) ∷ rule (node ≤ reader.nodes) (refusal 15) ∷ rule (length (line_at node) ≤ size) (refusal 21) ∷ [])
        (Is (length (line_at node))) (line_answer node size)
    pub at_24 : (node size : ℕ) → (line_answer node size ≡ refused (refusal 24)) ↔ (ReaderBelongs image reader strings entries → ⊥)
    pub leaves : (node : ℕ) (out : List ℕ) → Output (line_answer node (length out)) (line_at node) out (front_written (line_answer node (length out)) (line_at node) out)
    -- The path in a line is the node's own path, escaped (request C-15). Of an image of bytes, each byte of it is 33 to 126; so the line has exactly two spaces,
    -- and no line feed.
    pub path_shown : (node : ℕ) → spelled_path_at Escaped image reader strings entries node ≡ shown (path_at image reader strings entries node)
    pub path_printable : Octets image → (node : ℕ) → Printable (spelled_path_at Escaped image reader strings entries node)
    pub two_spaces : Octets image → (node : ℕ) → occurrences 32 (line_at node) ≡ 2
    pub no_feed : Octets image → (node : ℕ) → occurrences 10 (line_at node) ≡ 0

-- After an accepted opening the call never answers 24; with the record of a refused opening, all zero, it always does (`line_after_opening`).
pub record LineAfterOpening : Type 0 where
  pub opened_reads : (image form strings entries : List ℕ) {r : Reader} → open_answer image form (length strings) (length entries) ≡ accepted r
      → (node size : ℕ) (t : RefusalCode)
      → line_answer image r (strings_after image form strings entries) (entries_after image form strings entries) node size ≡ refused t → t.number ≡ 24 → ⊥
  pub refused_reads : (image form : List ℕ) (strings entries : ℕ) {t : RefusalCode} → open_answer image form strings entries ≡ refused t
      → (other ss es : List ℕ) (node size : ℕ) → line_answer other (reader_after (open_answer image form strings entries)) ss es node size ≡ refused (refusal 24)
