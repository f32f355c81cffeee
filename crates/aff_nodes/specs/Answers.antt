-- The answers of the reading calls: document 01, 'Numbers handed back', 'Order'.
use Rattle.std.specs.Prelude.{not, List, [], ◌∷◌, ◌++◌, ℕ, ltb, leb}
use Rattle.aff_format.specs.Answer.{Answer, accepted, refused, Check, check, refusal, first_wrong}
use Rattle.aff_format.specs.Element.{element_at}
use Rattle.aff_format.specs.declared.element.Element.{Element}
use Rattle.aff_format.specs.declared.kind.Kind.{Kind}
use Rattle.aff_reader.specs.Belongs.{reader_belongs}
use Rattle.aff_reader.specs.declared.reader.Span.{Span}
use Rattle.aff_reader.specs.declared.reader.Reader.{Reader}
use Rattle.aff_nodes.specs.Recall.{kind_at, count_at, name_span, data_span, span_bytes, bytes_at}

-- The part itself: empty where the call is refused.
abbrev pub part_of : List ℕ → Answer Span → List ℕ
part_of image (accepted s) = span_bytes image s
part_of image (refused t) = []

module _ (image : List ℕ) (reader : Reader) (strings entries : List ℕ) where
  -- Name, type, count and view: 24, 15.
  abbrev pub exists_checks : ℕ → List Check
  exists_checks node =
      check (not (reader_belongs image reader strings entries)) (refusal 24)
      ∷ check (ltb reader.nodes node) (refusal 15)
      ∷ []

  unfoldable pub name_answer : ℕ → Answer Span
  name_answer node = first_wrong (exists_checks node) (name_span image reader strings entries node)

  unfoldable pub kind_answer : ℕ → Answer Kind
  kind_answer node = first_wrong (exists_checks node) (kind_at image entries node)

  unfoldable pub count_answer : ℕ → Answer ℕ
  count_answer node = first_wrong (exists_checks node) (count_at image entries node)

  unfoldable pub view_answer : ℕ → Answer Span
  view_answer node = first_wrong (exists_checks node) (data_span image entries node)

  -- Element: 24, 15, 16.
  unfoldable pub element_answer : ℕ → ℕ → Answer Element
  element_answer node index =
      first_wrong (exists_checks node ++ (check (leb (count_at image entries node) index) (refusal 16) ∷ []))
      (element_at (kind_at image entries node) (bytes_at image entries node) index)
