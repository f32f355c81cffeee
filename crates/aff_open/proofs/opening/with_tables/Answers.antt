-- A node's fault is the image's: the checks by what is laid into the areas are those by the tables.
use Rattle.std.proofs.Common.{◌∙◌}
use Rattle.aff_format.proofs.VerdictLaws.{verdict_refuses}
use Rattle.aff_open.specs.Opening.{nodes_checked, reader_for}
use Rattle.aff_open.proofs.OpeningLaws.{checked_by}
use Rattle.aff_open.proofs.TablesLaws.{handed_on}
use Rattle.aff_open.proofs.opening.with_tables.Goals as goal

pub returns-in_err-node_checks : goal.returns-in_err-node_checks
returns-in_err-node_checks c =
    let a = c.args in
    let h = a.readable.now.header in
    let e = h.edition in
    let i = h.image.now in
    handed_on _ _ c.from_residual.ensures.1
    ∙ verdict_refuses (nodes_checked e i) c.node_checks.result
    (c.node_checks.ensures ∙ checked_by c.requires.strings c.requires.entries _ _ c.span-symbols.ensures c.span-data.ensures tt)
    (reader_for e i) _ c.in_err-node_checks.was
