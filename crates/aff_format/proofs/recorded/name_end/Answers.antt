use Rattle.std.proofs.Common.{◌+◌, ◌∙◌, ap}
use Rattle.aff_format.specs.Recorded.{name_from}
use Rattle.aff_format.proofs.StdLaws.{up_to_zero_is}
use Rattle.aff_format.proofs.recorded.name_end.Goals as goal

pub returns-clause-value : goal.returns-clause-value
unfolding name_from
returns-clause-value c = ap (λ n. c.args.from + n) (c.bytes_before.ensures.value ∙ up_to_zero_is _)
