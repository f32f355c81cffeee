-- A run cut after some number of stores: the same run with its allowances giving out there (document 01, 'Writing keys'). One allowance for the
-- whole run is handed down: each call is given what is left of it, but no more than its own.
use Rattle.std.specs.Prelude.{List, [], ◌∷◌, ℕ, ◌-◌, min, length}
use Rattle.aff_run.specs.Run.{Call, make, put, close, State, step, after_call, Run, with_allowance, with_calls, run_begin, run_start}

abbrev pub limited : ℕ → Call → Call
limited left (make parent name) = make parent name
limited left (put node type bytes allowance) = put node type bytes (min allowance left)
limited left (close allowance) = close (min allowance left)

-- The calls with the allowances that they are given, where `left` stores are left.
abbrev pub limit_calls : State → ℕ → List Call → List Call
limit_calls s left [] = []
limit_calls s left (c ∷ cs) =
    limited left c ∷ limit_calls (after_call s (limited left c)) (left - length (step s (limited left c)).stores) cs

-- The whole: a run like any other, with smaller allowances.
abbrev pub cut : Run → ℕ → Run
cut run k =
    let first = with_allowance run (min run.allowance k) in
    with_calls first (limit_calls (run_start first) (k - length (run_begin first).stores) run.calls)
