-- Runs of bytes or of node numbers written into an area: what the passes that write in pieces return.
use Rattle.std.specs.Prelude.{◌≡◌, List, [], ◌∷◌, ℕ, ◌+◌, ltb, length}
use Rattle.aff_format.specs.Answer.{Answer, check, refusal, first_wrong}
use Rattle.aff_format.specs.Bytes.{spliced}

-- The run x, from place `at` on: where it ends, and the area after it.
pub record Written (at : ℕ) (x before after : List ℕ) (end : ℕ) : Type 0 where
  pub ends : end ≡ at + length x
  pub area : after ≡ spliced at x before

-- A text for an output of so many bytes: 21, or its length.
abbrev pub text_answer : ℕ → List ℕ → Answer ℕ
text_answer size text = first_wrong (check (ltb size (length text)) (refusal 21) ∷ []) (length text)
