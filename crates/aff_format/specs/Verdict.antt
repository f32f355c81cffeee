-- Answers of calls.
use Rattle.std.specs.Prelude.{Result, Ok, Err}
use Rattle.aff_format.specs.Answer.{Answer, accepted, refused}
use Rattle.aff_format.specs.Refusal.{code_of_refusal}
use Rattle.aff_format.specs.declared.refusal.Refusal.{Refusal}

-- What document 01 hands back in each case of a result: its value, or the number and the places of its refusal.
abbrev pub answer_of : {A : Type 0} → Result A Refusal → Answer A
answer_of (Ok v) = accepted v
answer_of (Err r) = refused (code_of_refusal r)
