-- The verdict of some checks decides every call that asks them first. Assumes nothing.
use mathlib.Core.Path.{◌≡◌, sym, ap, ◌∙◌}
use mathlib.Core.List.{List}
use Rattle.aff_format.specs.Answer.{accepted, refused, Check, first_wrong, Clear}
use Rattle.aff_format.specs.Refusal.{code_of_refusal}
use Rattle.aff_format.specs.Verdict.{answer_of}
use Rattle.aff_format.specs.declared.refusal.Refusal.{Refusal}
use Rattle.std.specs.Prelude.{Result, Ok, Err}
use Rattle.aff_format.proofs.AnswerLaws.{passed, clear_accepts, same_refusal}

module _ (checks : List Check) (v : Result (Unit {0}) Refusal) (reported : answer_of v ≡ first_wrong checks (tt {0})) where
  pub verdict_refuses : {A : Type 0} (a : A) (q : Refusal) → v ≡ Err q → refused (code_of_refusal q) ≡ first_wrong checks a
  verdict_refuses a q e = sym (same_refusal checks (tt {0}) a (sym reported ∙ ap answer_of e))

  pub verdict_clear : v ≡ Ok tt → Clear checks
  verdict_clear e = passed checks (tt {0}) (sym reported ∙ ap answer_of e)

  pub verdict_accepts : {A : Type 0} (a b : A) → v ≡ Ok tt → a ≡ b → accepted a ≡ first_wrong checks b
  verdict_accepts a b e h = ap accepted h ∙ sym (clear_accepts checks b (verdict_clear e))
