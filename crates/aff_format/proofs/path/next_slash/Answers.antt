use Rattle.std.proofs.Common.{◌+◌, ◌∙◌, ap}
use Rattle.std.proofs.lemmas.List.{take_rest}
use Rattle.aff_format.specs.passes.Counts.{until_slash}
use Rattle.aff_format.proofs.StdLaws.{until_slash_is}
use Rattle.aff_format.proofs.path.next_slash.Goals as goal

pub returns-clause-value : goal.returns-clause-value
returns-clause-value c =
    ap (λ n. c.args.from + n) (c.bytes_before.ensures.value ∙ until_slash_is _ ∙ ap until_slash (take_rest c.args.path.now c.args.from))
