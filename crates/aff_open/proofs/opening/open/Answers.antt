-- A refusal up to the tables is the opening's; else the nodes decide.
use Rattle.std.proofs.Common.{◌∙◌}
use Rattle.aff_open.proofs.OpeningLaws.{refused_opens, found_opens, tables_by, kept_is, cleared_is}
use Rattle.aff_open.proofs.TablesLaws.{told, handed_on}
use Rattle.aff_open.proofs.opening.open.Goals as goal

pub invariant_of-header : goal.invariant_of-header
invariant_of-header c =
    let a = c.args in
    let o = c.open_tables in
    let t = tables_by a.image.now a.form.now a.strings.now a.entries.now (told o.ensures.answer c.in_ok-sizes.was) o.ensures.strings o.ensures.entries in
    record { whole = t.0.whole }

pub invariant_of-readable : goal.invariant_of-readable
invariant_of-readable c =
    let a = c.args in
    let o = c.open_tables in
    let t = tables_by a.image.now a.form.now a.strings.now a.entries.now (told o.ensures.answer c.in_ok-sizes.was) o.ensures.strings o.ensures.entries in
    record { inside = t.0.inside; short = t.0.short }

pub with_tables-opened-requires : goal.with_tables-opened-requires
with_tables-opened-requires c =
    let a = c.args in
    let o = c.open_tables in
    let t = tables_by a.image.now a.form.now a.strings.now a.entries.now (told o.ensures.answer c.in_ok-sizes.was) o.ensures.strings o.ensures.entries in
    record { strings = t.1; entries = t.2 }

pub returns-in_err-sizes : goal.returns-in_err-sizes
returns-in_err-sizes c =
    let a = c.args in
    let o = c.open_tables in
    let w = refused_opens a.image.now a.form.now a.strings.now a.entries.now (told o.ensures.answer c.in_err-sizes.was) o.ensures.strings o.ensures.entries in
    record { answer = handed_on _ _ c.from_residual.ensures.1 ∙ w.0; strings = w.1.0; entries = w.1.1 }

pub returns-then-is_err : goal.returns-then-is_err
returns-then-is_err c =
    let a = c.args in
    let o = c.open_tables in
    let t = c.with_tables-opened in
    let w = found_opens a.image.now a.form.now a.strings.now a.entries.now (told o.ensures.answer c.in_ok-sizes.was)
    t.ensures (c.fill.ensures.after (λ y e. cc) ∙ cleared_is t.result o.new.strings c.if-is_err.ensures.negation)
    (c.fill-then-is_err.ensures.after (λ y e. cc) ∙ cleared_is t.result o.new.entries c.if-is_err.ensures.negation) o.ensures.strings o.ensures.entries in
    record { answer = w.0; strings = w.1.0; entries = w.1.1 }

pub returns-else-is_err : goal.returns-else-is_err
returns-else-is_err c =
    let a = c.args in
    let o = c.open_tables in
    let t = c.with_tables-opened in
    let w = found_opens a.image.now a.form.now a.strings.now a.entries.now (told o.ensures.answer c.in_ok-sizes.was)
    t.ensures (kept_is t.result o.new.strings c.if-is_err.ensures.negation) (kept_is t.result o.new.entries c.if-is_err.ensures.negation) o.ensures.strings o.ensures.entries in
    record { answer = w.0; strings = w.1.0; entries = w.1.1 }
