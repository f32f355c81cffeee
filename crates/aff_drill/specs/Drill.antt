-- The cut drill: document 01, 'The lister'. The worked file of edition 2 is made in a buffer of 214 bytes with one total allowance, handed down: begin gets all
-- of it, put what is left after begin, close what is left then. The buffer is opened with the writer's form.
use Rattle.std.specs.Prelude.{◌≡◌, cond, List, [], ◌∷◌, ℕ, ◌≤◌, ltb, replicate}
use Rattle.aff_format.specs.Answer.{Answer, accepted, refused, refusal, first_wrong}
use Rattle.aff_format.specs.Edition.{edition_number}
use Rattle.aff_format.specs.declared.edition.Edition.TheVariants.{Two}
use Rattle.aff_format.specs.Limits.{string_limit, node_limit, text_area, tree_area}
use Rattle.aff_open.specs.Opening.{open_checks}
use Rattle.aff_areas.specs.declared.writer.Writer.{Writer}
use Rattle.aff_run.specs.Cut.{limit_calls, cut}
use Rattle.aff_run.specs.Run.{Call, make, put, close, State, after_call, state_after, Run, run_state}
use Rattle.aff.specs.Worked.{name_a, name_n, minus_seventy, worked_form, worked_calls}

-- The state that a call is given.
abbrev pub state_of : Writer → List ℕ → List ℕ → List ℕ → State
state_of writer text tree buffer = record { writer = writer; text = text; tree = tree; buffer = buffer }

-- What is given after both makes.
abbrev pub named : State → State
named s = after_call (after_call s (make 0 name_a)) (make 1 name_n)

-- The calls after the makes.
abbrev pub last_calls : ℕ → List Call
last_calls most = put 2 3 minus_seventy most ∷ close most ∷ []

-- The buffer is what the calls leave, cut after so many stores, whatever allowances they have of their own, as long as these are not less.
abbrev pub CutFrom : State → ℕ → (ℕ → List Call) → List ℕ → Type 0
CutFrom s left calls after = (most : ℕ) → left ≤ most → after ≡ (state_after s (limit_calls s left (calls most))).buffer

-- The same of the worked run.
abbrev pub drill_run : List ℕ → List ℕ → List ℕ → List ℕ → ℕ → Run
drill_run buffer form text tree most =
    record { edition = edition_number Two; buffer = buffer; form = form; text = text; tree = tree; allowance = most; calls = worked_calls most most }

abbrev pub CutRun : List ℕ → List ℕ → List ℕ → List ℕ → ℕ → List ℕ → Type 0
CutRun buffer form text tree k after = (most : ℕ) → k ≤ most → after ≡ (run_state (cut (drill_run buffer form text tree most) k)).buffer

-- The same for the drill: the writer's form, and areas of zeros.
abbrev pub CutDrill : List ℕ → ℕ → List ℕ → Type 0
CutDrill buffer k after = CutRun buffer (worked_form Two) (replicate text_area 0) (replicate tree_area 0) k after

-- The verdict of opening a buffer.
abbrev pub reopened : List ℕ → Answer (Unit {0})
reopened buffer = first_wrong (open_checks buffer (worked_form Two) string_limit node_limit) tt

-- What the drill answers where the buffer was all zero: 3 below 215 stores, and from there on it opens.
abbrev pub drilled : ℕ → Answer (Unit {0})
drilled k = cond (ltb k 215) (refused (refusal 3)) (accepted tt)
