-- Wrong lengths change nothing; else the areas are cleared, and what follows decides.
use Rattle.std.proofs.Common.{sym, arith}
use Rattle.aff_open.proofs.TablesLaws.{lengths_opens, cleared_opens}
use Rattle.aff_open.proofs.tables.open_tables.Goals as goal

pub returns-then-lengths_wrong : goal.returns-then-lengths_wrong
returns-then-lengths_wrong c =
    let a = c.args in
    let w = lengths_opens a.image.now a.form.now a.strings.now a.entries.now (sym c.if-lengths_wrong.ensures) in
    record { answer = w.0; strings = w.1.0; entries = w.1.1 }

pub returns : goal.returns
returns c =
    let a = c.args in
    let o = c.in_cleared in
    let w = cleared_opens a.image.now a.form.now o.result a.strings.now c.fill.new.self o.new.strings
    a.entries.now c.fill-2.new.self o.new.entries (sym c.if-lengths_wrong.ensures)
    (omega arith) (omega arith) o.ensures.answer o.ensures.strings o.ensures.entries in
    record { answer = w.0; strings = w.1.0; entries = w.1.1 }
