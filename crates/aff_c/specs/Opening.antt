-- What the exported functions hand back and leave in the caller's slices, as numbers and bytes. Assumes nothing.
use Rattle.std.specs.Prelude.{Bool, cond, ◌&&◌, List, [], ◌∷◌, ◌++◌, ℕ, leb, length, drop}
use Rattle.aff_format.specs.Answer.{Answer, accepted, refused, refusal}
use Rattle.aff_format.specs.Edition.{number_form, edition_of, is_known, edition_by}
use Rattle.aff_format.specs.declared.refusal.RefusalCode.{RefusalCode}
use Rattle.aff_open.specs.Opening.{open_answer, reader_after, strings_after, entries_after}
use Rattle.aff_open.specs.Sections.{form_for}
use Rattle.aff_reader.specs.declared.reader.Reader.{Reader}

-- What an answer reports: zeros for acceptance, else number, place and second number of the refusal.
abbrev pub code_of_answer : Answer Reader → RefusalCode
code_of_answer (accepted r) = refusal 0
code_of_answer (refused t) = t

-- The place that is reported, a record, and the second number that is reported: 13 numbers.
unfoldable pub numbers_of : RefusalCode → Reader → List ℕ
numbers_of code r =
    code.place
    ∷ r.length
    ∷ r.edition
    ∷ r.symbols.offset
    ∷ r.symbols.size
    ∷ r.tree.offset
    ∷ r.tree.size
    ∷ r.«data».offset
    ∷ r.«data».size
    ∷ r.strings
    ∷ r.nodes
    ∷ r.records
    ∷ code.second
    ∷ []

-- The same of an answer. After a refusal the record is all zero.
abbrev pub numbers_in : Answer Reader → List ℕ
numbers_in a = numbers_of (code_of_answer a) (reader_after a)

-- The number handed back, and the three slices after it. An output of fewer than 13 numbers opens nothing: 255, and all is as it was.
module _ (image form strings entries output : List ℕ) where
  unfoldable pub number_returned : ℕ
  number_returned = cond (leb 13 (length output)) (code_of_answer (open_answer image form (length strings) (length entries))).number 255

  unfoldable pub record_left : List ℕ
  record_left = cond (leb 13 (length output)) (numbers_in (open_answer image form (length strings) (length entries)) ++ drop 13 output) output

  unfoldable pub strings_left : List ℕ
  strings_left = cond (leb 13 (length output)) (strings_after image form strings entries) strings

  unfoldable pub entries_left : List ℕ
  entries_left = cond (leb 13 (length output)) (entries_after image form strings entries) entries

-- The output o with the form of an image in its first 12 bytes, where it has so many; where it has fewer, as it was.
unfoldable pub with_form : List ℕ → List ℕ → List ℕ
with_form image o = cond (leb 12 (length o)) (form_for image ++ drop 12 o) o

-- The same with the form of an edition by its number, where there is one.
abbrev pub has_form_of : ℕ → List ℕ → Bool
has_form_of edition o = leb 12 (length o) && is_known (edition_of edition)

unfoldable pub with_form_of : ℕ → List ℕ → List ℕ
with_form_of edition o = cond (has_form_of edition o) (number_form (edition_by edition) ++ drop 12 o) o
