-- What judging a record answers.
use Rattle.std.specs.Prelude.{Result, Ok, Err}
use Rattle.aff_format.specs.declared.refusal.Refusal.{Refusal}
use Rattle.aff_areas.specs.declared.given.Given.{Given}
use Rattle.aff_areas.specs.declared.held.Held.{Held}

-- The judged record without what is known of it.
abbrev pub given_of : Result Held Refusal → Result Given Refusal
given_of (Ok h) = Ok h.given
given_of (Err r) = Err r
