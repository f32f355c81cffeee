use Rattle.std.proofs.Common.{◌∙◌, ℕ, ap, length, unwrap_or, Option}
use Rattle.aff_format.proofs.StdLaws.{position_or}
use Rattle.aff_format.proofs.bytes.bytes_before.Goals as goal

pub returns-clause-value : goal.returns-clause-value
returns-clause-value c =
    c.unwrap_or.ensures ∙ ap (λ (place : Option ℕ). unwrap_or place (length c.args.bytes.now)) c.find_byte.ensures ∙ position_or _ c.args.bytes.now
