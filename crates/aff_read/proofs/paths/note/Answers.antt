-- The node is stored as the record has it.
use Rattle.std.proofs.Common.{ap, arith}
use Rattle.aff_format.specs.declared.entry.Entry.{Entry}
use Rattle.aff_nodes.proofs.SpanLaws.{name_from_lem}
use Rattle.aff_reader.proofs.BelongsLaws.{belongs_record, parent_within}
use Rattle.aff_read.proofs.ClimbLaws.{note_more}
use Rattle.aff_read.proofs.paths.note.Goals as goal

pub name_end-end-requires-clause-ordered : goal.name_end-end-requires-clause-ordered
name_end-end-requires-clause-ordered c =
    let b = belongs_record c.args.belonging.now.belongs in
    let from = rw c.entry-entry.ensures at c.place-from.ensures in
    omega (arith, name_from_lem b c.args.node c.requires.node_exists c.requires.other, from)

pub name_end-end-requires-clause-inside : goal.name_end-end-requires-clause-inside
name_end-end-requires-clause-inside c = let b = belongs_record c.args.belonging.now.belongs in omega (arith, b.symbols_inside)

pub offset_bounds-table-node : goal.offset_bounds-table-node
offset_bounds-table-node c = let b = belongs_record c.args.belonging.now.belongs in omega (arith, b.few_nodes)

pub bounds-table-node : goal.bounds-table-node
bounds-table-node c = let b = belongs_record c.args.belonging.now.belongs in omega (arith, b.few_nodes)

pub overflow_cast-table : goal.overflow_cast-table
overflow_cast-table c =
    let b = belongs_record c.args.belonging.now.belongs in
    let up = parent_within b c.args.node c.requires.node_exists in
    rw c.entry-entry.ensures (omega (arith, b.few_nodes))

pub overflow_cast-table-2 : goal.overflow_cast-table-2
overflow_cast-table-2 c =
    let b = belongs_record c.args.belonging.now.belongs in
    omega (arith, b.symbols_inside, b.length_recorded, b.length_allowed)

pub overflow_cast-table-3 : goal.overflow_cast-table-3
overflow_cast-table-3 c =
    let b = belongs_record c.args.belonging.now.belongs in
    omega (arith, b.symbols_inside, b.length_recorded, b.length_allowed)

pub returns-clause-table : goal.returns-clause-table
returns-clause-table c =
    let r = c.requires in
    let b = belongs_record c.args.belonging.now.belongs in
    note_more b c.args.node r.node_exists r.other _ (ap (λ (e : Entry). e.parent) c.entry-entry.ensures) (rw c.entry-entry.ensures at c.place-from.ensures)
    (rw c.symbols_end.ensures at c.name_end-end.ensures.value) r.table_inside (omega (arith, b.few_nodes))
