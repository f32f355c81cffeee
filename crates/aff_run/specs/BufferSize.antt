-- How much of a buffer the calls of a run can take, in whatever order they come (request C-22). The padding of a put depends on those before it, so a caller cannot
-- know it before the order is known; but it is at most 7 bytes for each put.
use Rattle.std.specs.Prelude.{◌≡◌, Bool, true, false, List, [], ◌∷◌, ℕ, ◌+◌, length}
use Rattle.aff_format.specs.Answer.{Answer, refused}
use Rattle.aff_format.specs.declared.refusal.RefusalCode.{RefusalCode}
use Rattle.aff_run.specs.Run.{Call, make, put, close, is_accepted}

-- The most that a call adds to the finished size: a make its Void entry of 13 bytes, and its name with a zero; a put up to 7 bytes of padding, its bytes, and the 12
-- by which its entry grows.
abbrev pub most_added : Call → ℕ
most_added (make parent name) = 13 + length name + 1
most_added (put node type bytes allowance) = 7 + length bytes + 12
most_added (close allowance) = 0

-- Of some calls: a sum, which is the same in every order.
abbrev pub most_added_by : List Call → ℕ
most_added_by [] = 0
most_added_by (c ∷ cs) = most_added c + most_added_by cs

-- No answer is a refusal by a number.
abbrev pub NoneBy : ℕ → List (Answer ℕ) → Type 0
NoneBy number [] = Unit {0}
NoneBy number (a ∷ answers) = ((t : RefusalCode) → a ≡ refused t → t.number ≡ number → ⊥) × NoneBy number answers

-- Of the accepted puts: how many they are, and how many bytes they put.
abbrev pub accepted_put : Call → Bool → ℕ
accepted_put call false = 0
accepted_put (make parent name) true = 0
accepted_put (put node type bytes allowance) true = 1
accepted_put (close allowance) true = 0

abbrev pub accepted_size : Call → Bool → ℕ
accepted_size call false = 0
accepted_size (make parent name) true = 0
accepted_size (put node type bytes allowance) true = length bytes
accepted_size (close allowance) true = 0

abbrev pub accepted_puts : List Call → List (Answer ℕ) → ℕ
accepted_puts [] answers = 0
accepted_puts (c ∷ cs) [] = 0
accepted_puts (c ∷ cs) (a ∷ answers) = accepted_put c (is_accepted a) + accepted_puts cs answers

abbrev pub accepted_sizes : List Call → List (Answer ℕ) → ℕ
accepted_sizes [] answers = 0
accepted_sizes (c ∷ cs) [] = 0
accepted_sizes (c ∷ cs) (a ∷ answers) = accepted_size c (is_accepted a) + accepted_sizes cs answers
