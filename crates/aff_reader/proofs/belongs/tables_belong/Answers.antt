-- Of the strings recorded none is lost, or the first that is.
use Rattle.std.proofs.Common.{◌∙◌, refl}
use Rattle.aff_reader.specs.passes.Belongs.{tables_belong}
use Rattle.aff_reader.proofs.LostLaws.{strings_decide}
use Rattle.aff_reader.proofs.belongs.tables_belong.Goals as goal

pub returns-then-is_none : goal.returns-then-is_none
unfolding tables_belong
returns-then-is_none c =
    let d = strings_decide c.args.opened.now.reader c.args.opened.now.strings.now _ _ _ _ c.lost_string.ensures c.requires.few_strings c.is_none.ensures in
    c.nodes_belong.ensures ∙ rw (d ∙ c.if-is_none.true) refl

pub returns-else-is_none : goal.returns-else-is_none
unfolding tables_belong
returns-else-is_none c =
    let d = strings_decide c.args.opened.now.reader c.args.opened.now.strings.now _ _ _ _ c.lost_string.ensures c.requires.few_strings c.is_none.ensures in
    c.if-is_none.false ∙ rw (d ∙ c.if-is_none.false) refl
