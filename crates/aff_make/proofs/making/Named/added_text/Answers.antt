-- Whether the name is a string already, by its number.
use Rattle.aff_areas.proofs.BelongsLaws.{belongs_record}
use Rattle.aff_make.proofs.MakeLaws.{added_old, added_new}
use Rattle.aff_make.proofs.making.Named.added_text.Goals as goal

pub returns-then-self-clause-value : goal.returns-then-self-clause-value
returns-then-self-clause-value c =
    let n = c.args.self.now in
    added_old n.held.given.writer n.held.given.text.now n.name.now n.string n.numbered (belongs_record n.held.belongs).text_strings c.if-self.true

pub returns-else-self-clause-value : goal.returns-else-self-clause-value
returns-else-self-clause-value c =
    let n = c.args.self.now in
    added_new n.held.given.writer n.held.given.text.now n.name.now n.string n.numbered (belongs_record n.held.belongs).text_strings c.if-self.false
