-- What two lists of calls and their answers have in common: the calls but for their allowances, which of them were accepted, and the answers but for the stores that puts report
-- (request C-23).
use Rattle.std.specs.Prelude.{◌≡◌, Bool, true, List, [], ◌∷◌, map, ℕ, ◌+◌, ◌≤◌, length}
use Rattle.aff_format.specs.Answer.{Answer, accepted, refused}
use Rattle.aff_run.specs.Run.{Call, make, put, close, is_accepted}

-- A call with an allowance of 0: two calls are the same but for their allowances where these are equal.
abbrev pub without_allowance : Call → Call
without_allowance (make parent name) = make parent name
without_allowance (put node type bytes allowance) = put node type bytes 0
without_allowance (close allowance) = close 0

-- Which of some calls were accepted, by their answers.
abbrev pub accepted_of : List (Answer ℕ) → List Bool
accepted_of answers = map is_accepted answers

-- All of them were.
abbrev pub AllAccepted : List (Answer ℕ) → Type 0
AllAccepted [] = Unit {0}
AllAccepted (a ∷ answers) = (is_accepted a ≡ true) × AllAccepted answers

-- An answer but for the stores that an accepted put reports: the padding among them depends on where the data ended before it.
abbrev pub but_stores : Call → Answer ℕ → Answer ℕ
but_stores (make parent name) answer = answer
but_stores (put node type bytes allowance) (accepted n) = accepted 0
but_stores (put node type bytes allowance) (refused t) = refused t
but_stores (close allowance) answer = answer

abbrev pub answers_but_stores : List Call → List (Answer ℕ) → List (Answer ℕ)
answers_but_stores [] answers = []
answers_but_stores (c ∷ cs) [] = []
answers_but_stores (c ∷ cs) (a ∷ answers) = but_stores c a ∷ answers_but_stores cs answers

-- The node numbers that accepted makes report.
abbrev pub made_number : Call → Answer ℕ → List ℕ → List ℕ
made_number (make parent name) (accepted n) more = n ∷ more
made_number (make parent name) (refused t) more = more
made_number (put node type bytes allowance) answer more = more
made_number (close allowance) answer more = more

abbrev pub made_numbers : List Call → List (Answer ℕ) → List ℕ
made_numbers [] answers = []
made_numbers (c ∷ cs) [] = []
made_numbers (c ∷ cs) (a ∷ answers) = made_number c a (made_numbers cs answers)

-- Each put of some calls has an allowance for its bytes and the most padding.
abbrev pub AmpleAllowance : Call → Type 0
AmpleAllowance (make parent name) = Unit {0}
AmpleAllowance (put node type bytes allowance) = 7 + length bytes ≤ allowance
AmpleAllowance (close allowance) = Unit {0}

abbrev pub AmplePuts : List Call → Type 0
AmplePuts [] = Unit {0}
AmplePuts (c ∷ cs) = AmpleAllowance c × AmplePuts cs
