-- What each call of a run answers, decided by the edition, the buffer's length, the tree described so far, its sizes, the end of data and the allowance alone:
-- document 01's table, for a run.
use Rattle.std.specs.Prelude.{◌≡◌, Bool, false, cond, not, ◌&&◌, ◌||◌, List, [], ◌∷◌, ℕ, ◌+◌, eqb, ltb, length}
use Rattle.aff_format.specs.Align.{padding, aligned}
use Rattle.aff_format.specs.Answer.{Answer, accepted, refused, Check, check, refusal, refusal_at, first_wrong}
use Rattle.aff_format.specs.Bytes.{same_bytes}
use Rattle.aff_format.specs.Edition.{header_size}
use Rattle.aff_format.specs.Kind.{kind_of, is_void}
use Rattle.aff_format.specs.Limits.{string_limit, node_limit, text_area}
use Rattle.aff_format.specs.Lowest.{lowest_from, is_at}
use Rattle.aff_format.specs.Strings.{text_of}
use Rattle.aff_format.specs.Subkey.{subkey_from, check_grammar}
use Rattle.aff_format.specs.Tree.{Tree, tree_node}
use Rattle.aff_format.specs.declared.edition.Edition.{Edition}
use Rattle.aff_write.specs.Put.{wrong_data, data_kind}
use Rattle.aff_run.specs.TreeSizes.{with_child, with_data, names_of, entries_size, size_of}
use Rattle.aff_run.specs.Run.{Call, make, put, close, is_accepted, is_close, apply_call, call_end}

-- 17: a node of the tree has that parent and that name.
unfoldable pub has_child : Tree → ℕ → List ℕ → Bool
has_child tree parent name = is_at (lowest_from (λ k. eqb (tree_node tree k).parent parent && same_bytes (tree_node tree k).name name) (length tree) 1)

-- 20: a tree has more nodes, more different names or more text than the writer takes.
unfoldable pub too_large : Tree → Bool
too_large tree = ltb node_limit (length tree) || (ltb string_limit (length (names_of tree)) || ltb text_area (length (text_of (names_of tree))))

-- The stores that a close needs: strings, entries, header.
unfoldable pub close_needs : Edition → Tree → ℕ
close_needs e tree = length (text_of (names_of tree)) + entries_size tree + header_size e

-- In a buffer of `size` bytes, where the data so far end at `end`.
module _ (e : Edition) (size end : ℕ) (tree : Tree) where
  abbrev pub call_checks : Call → List Check
  call_checks (make parent name) =
      check (ltb (length tree) parent) (refusal 15)
      ∷ check_grammar (subkey_from e 0 name)
      ∷ check (has_child tree parent name) (refusal 17)
      ∷ check (too_large (with_child tree parent name)) (refusal 20)
      ∷ check (ltb size (size_of end (with_child tree parent name))) (refusal 21)
      ∷ []
  call_checks (put node type bytes allowance) =
      check (ltb (length tree) node) (refusal 15)
      ∷ check (eqb node 0 || not (is_void (tree_node tree node).kind)) (refusal 18)
      ∷ check (wrong_data (kind_of type) (length bytes)) (refusal 19)
      ∷ check (ltb size (size_of (aligned end + length bytes) (with_data tree node (data_kind (kind_of type)) bytes))) (refusal 21)
      ∷ check (ltb allowance (padding end + length bytes)) (refusal_at 23 allowance)
      ∷ []
  call_checks (close allowance) = check (ltb allowance (close_needs e tree)) (refusal_at 23 allowance) ∷ []

  -- The new node's number, or the stores made: of a put its padding and its bytes.
  abbrev pub call_value : Call → ℕ
  call_value (make parent name) = length tree + 1
  call_value (put node type bytes allowance) = padding end + length bytes
  call_value (close allowance) = close_needs e tree

  abbrev pub call_answer : Call → Answer ℕ
  call_answer call = first_wrong (call_checks call) (call_value call)

-- An accepted close or a 23 closes or stops the writer.
abbrev pub is_spent : Answer ℕ → Bool
is_spent (accepted n) = false
is_spent (refused t) = eqb t.number 23

abbrev pub stops : Call → Answer ℕ → Bool
stops call answer = (is_accepted answer && is_close call) || is_spent answer

-- Each answer of a run: 22 exactly after an accepted close or a 23, else what the tree described so far and the end of data decide. So no answer is 24.
abbrev pub AnswersFromTree : Edition → ℕ → Bool → ℕ → Tree → List Call → List (Answer ℕ) → Type 0
AnswersFromTree e size stopped end tree [] answers = Unit {0}
AnswersFromTree e size stopped end tree (c ∷ cs) [] = ⊥
AnswersFromTree e size stopped end tree (c ∷ cs) (a ∷ answers) =
    (a ≡ cond stopped (refused (refusal 22)) (call_answer e size end tree c))
    × AnswersFromTree e size (stopped || stops c a) (call_end end c (is_accepted a)) (apply_call tree c (is_accepted a)) cs answers

-- Every answer is 24.
abbrev pub AllWrongRecord : List (Answer ℕ) → Type 0
AllWrongRecord [] = Unit {0}
AllWrongRecord (a ∷ answers) = (a ≡ refused (refusal 24)) × AllWrongRecord answers
