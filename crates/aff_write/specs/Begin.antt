-- Begin: document 01, 'Writing keys', and 'Order': 1, 21, 23; request C-15: 3 after 1, for a number that names no written edition.
use Rattle.std.specs.Prelude.{Bool, cond, not, ◌||◌, List, [], ◌∷◌, ℕ, eqb, ltb, length, replicate}
use Rattle.aff_format.specs.Answer.{Answer, accepted, refused, Check, check, refusal, refusal_at, first_wrong}
use Rattle.aff_format.specs.Edition.{header_size, edition_by, names_written}
use Rattle.aff_format.specs.Limits.{image_limit, text_area, tree_area}
use Rattle.aff_areas.specs.Stores.{Store, stores_from}
use Rattle.aff_areas.specs.Writer.{no_writer, fresh_writer, stopped}
use Rattle.aff_areas.specs.declared.writer.Writer.{Writer}

-- 1: an area has another length than its own, the form is not 12 bytes, or the buffer is too long.
unfoldable pub begin_lengths_wrong : List ℕ → List ℕ → List ℕ → List ℕ → Bool
begin_lengths_wrong buffer form text tree =
    not (eqb (length form) 12) || (not (eqb (length text) text_area) || (not (eqb (length tree) tree_area) || ltb image_limit (length buffer)))

-- The one store: 0 at place 0.
abbrev pub begin_stores : List Store
begin_stores = stores_from 0 (0 ∷ [])

abbrev pub begin_checks : ℕ → List ℕ → List ℕ → List ℕ → List ℕ → ℕ → List Check
begin_checks edition buffer form text tree allowance =
    check (begin_lengths_wrong buffer form text tree) (refusal 1)
    ∷ check (not (names_written edition)) (refusal 3)
    ∷ check (ltb (length buffer) (header_size (edition_by edition))) (refusal 21)
    ∷ check (ltb allowance 1) (refusal_at 23 allowance)
    ∷ []

-- The answer reports the stores made.
unfoldable pub begin_answer : ℕ → List ℕ → List ℕ → List ℕ → List ℕ → ℕ → Answer ℕ
begin_answer edition buffer form text tree allowance = first_wrong (begin_checks edition buffer form text tree allowance) 1

-- The record: all zero after 1, 3 and 21; after 23 as an accepted begin makes it, but stopped.
abbrev pub begin_writer : Answer ℕ → ℕ → ℕ → List ℕ → Writer
begin_writer (accepted n) edition size form = fresh_writer edition size form
begin_writer (refused t) edition size form = cond (eqb t.number 23) (stopped (fresh_writer edition size form)) no_writer

-- An area: an accepted begin clears it.
abbrev pub begin_area : Answer ℕ → List ℕ → List ℕ
begin_area (accepted n) area = replicate (length area) 0
begin_area (refused t) area = area
