-- Path and lookup: document 01, 'Reading keys', 'Order'.
use Rattle.std.specs.Prelude.{not, List, [], ◌∷◌, ◌++◌, ℕ, ◌+◌, ltb, length, drop, take, ◌≡◌, Option, Some, None}
use Rattle.aff_format.specs.Answer.{Answer, accepted, refused, Check, check, refusal, first_wrong}
use Rattle.aff_format.specs.Bytes.{same_bytes}
use Rattle.aff_format.specs.Edition.{edition_by}
use Rattle.aff_format.specs.Lowest.{lowest_from, is_at}
use Rattle.aff_format.specs.Path.{path_grammar}
use Rattle.aff_format.specs.Subkey.{check_grammar}
use Rattle.aff_format.specs.Tree.{path_by}
use Rattle.aff_reader.specs.Belongs.{reader_belongs}
use Rattle.aff_reader.specs.declared.reader.Reader.{Reader}
use Rattle.aff_nodes.specs.Answers.{exists_checks}
use Rattle.aff_nodes.specs.Recall.{parent_at, name_at, path_at}
use Rattle.aff_spelling.specs.Spelling.{spelled}
use Rattle.aff_spelling.specs.declared.spelling.Spelling.{Spelling}
use Rattle.aff_format.specs.declared.refusal.RefusalCode.{RefusalCode}

-- The path of node k as it is written: by parents, with each name in a spelling (request C-15). In the raw spelling it is the path itself, `path_at`.
abbrev pub spelled_path_at : Spelling → List ℕ → Reader → List ℕ → List ℕ → ℕ → List ℕ
spelled_path_at s image reader strings entries k =
    path_by (parent_at image entries) (λ n. spelled s (name_at image reader strings entries n)) reader.nodes k

-- An output with text written at its front; the rest stays. A refusal leaves it as it was.
abbrev pub front_written : Answer ℕ → List ℕ → List ℕ → List ℕ
front_written (accepted n) text out = text ++ drop (length text) out
front_written (refused t) text out = out

-- The place of the lowest, 0 where there is none.
abbrev pub lowest_or0 : Option ℕ → ℕ
lowest_or0 None = 0
lowest_or0 (Some k) = k

module _ (image : List ℕ) (reader : Reader) (strings entries : List ℕ) where
  -- Path: 24, 15, 21.
  unfoldable pub path_answer : ℕ → ℕ → Answer ℕ
  path_answer node size =
      first_wrong (exists_checks image reader strings entries node ++ (check (ltb size (length (path_at image reader strings entries node))) (refusal 21) ∷ []))
      (length (path_at image reader strings entries node))

  -- The lowest node with a path.
  unfoldable pub found : List ℕ → Option ℕ
  found path = lowest_from (λ k. same_bytes (path_at image reader strings entries k) path) (reader.nodes + 1) 0

  -- 14, with the place in the path at which it breaks; 15.
  abbrev pub lookup_checks : List ℕ → List Check
  lookup_checks path = check_grammar (path_grammar (edition_by reader.edition) path) ∷ check (not (is_at (found path))) (refusal 15) ∷ []

  -- Lookup: 24, 14, 15.
  unfoldable pub lookup_answer : List ℕ → Answer ℕ
  lookup_answer path =
      first_wrong (check (not (reader_belongs image reader strings entries)) (refusal 24) ∷ lookup_checks path) (lowest_or0 (found path))

  -- Of a record that belongs: 14, 15.
  unfoldable pub lookup_of_answer : List ℕ → Answer ℕ
  lookup_of_answer path = first_wrong (lookup_checks path) (lowest_or0 (found path))

-- What a call leaves in an output: a refusal leaves it as it was; an accepted call returns how many bytes or numbers it wrote. These are the text, and the
-- rest is unchanged.
pub record Output (answer : Answer ℕ) (text before after : List ℕ) : Type 0 where
  pub by_refusal : (t : RefusalCode) → answer ≡ refused t → after ≡ before
  pub by_acceptance : (n : ℕ) → answer ≡ accepted n → (take n after ≡ text) × (drop n after ≡ drop n before) × (length after ≡ length before)
