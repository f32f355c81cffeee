-- The code's sum is the number of closing stores, and 23 is reported where some are left.
use Rattle.std.proofs.Common.{◌<◌, length, replicate, sym, ap, arith}
use Rattle.std.proofs.Math.Seq.{length-take-le}
use Rattle.aff_format.specs.Limits.{tree_area}
use Rattle.aff_areas.specs.Areas.{entries_out}
use Rattle.aff_areas.proofs.BelongsLaws.{belongs_record}
use Rattle.aff_write.specs.Close.{close_stores}
use Rattle.aff_write.proofs.CloseLaws.{entries_most, front_fits, front_taken}
use Rattle.aff_write.proofs.SpentLaws.{spent_answer}
use Rattle.aff_write.proofs.closing.close_held.Goals as goal

pub slice_bounds-entries-end : goal.slice_bounds-entries-end
slice_bounds-entries-end c =
    let e = c.entries_out-size in
    omega (arith, e.ensures.size, front_fits _ _ _ e.ensures.area)

pub slice_bounds-store_closed-end : goal.slice_bounds-store_closed-end
slice_bounds-store_closed-end c =
    let e = c.entries_out-size in
    sym (length-take-le e.result e.new.out (omega (arith, e.ensures.size, front_fits _ _ _ e.ensures.area)))

pub store_closed-made-requires : goal.store_closed-made-requires
store_closed-made-requires c =
    let e = c.entries_out-size in
    record { sized = c.requires; symbols = c.used_text-symbols.ensures; entries = front_taken _ _ _ _ e.ensures.size e.ensures.area }

pub overflow_add-needed : goal.overflow_add-needed
overflow_add-needed c =
    let b = belongs_record c.args.held.now.belongs in
    omega (arith, entries_most _ _ b.few_nodes b.tree_area_is, b.text_inside, c.entries_out-size.ensures.size)

pub overflow_add-needed-2 : goal.overflow_add-needed-2
overflow_add-needed-2 c =
    let b = belongs_record c.args.held.now.belongs in
    omega (arith, entries_most _ _ b.few_nodes b.tree_area_is, b.text_inside, c.entries_out-size.ensures.size, c.data_place.ensures)

pub returns-then-made-needed-clause-answer : goal.returns-then-made-needed-clause-answer
returns-then-made-needed-clause-answer c =
    let w = c.args.held.now.given.writer in
    let s = c.store_closed-made in
    let o = c.entries_out-size in
    let stores = close_stores c.args.buffer.now w c.args.held.now.given.text.now c.args.held.now.given.tree.now in
    let n = ap length (front_taken (entries_out c.args.held.now.given.tree.now w.nodes) (replicate tree_area 0) o.new.out o.result o.ensures.size o.ensures.area) in
    let h : s.result < length stores = omega (arith, c.if-made-needed.true, n, s.ensures.needed, o.ensures.size, c.data_place.ensures.value) in
    spent_answer stores c.args.allowance s.result c.args.buffer.now s.new.buffer s.ensures.made s.ensures.buffer h

pub entries_out-size-requires-clause-in_limit : goal.entries_out-size-requires-clause-in_limit
entries_out-size-requires-clause-in_limit c = (belongs_record c.args.held.now.belongs).few_nodes

pub entries_out-size-requires-clause-tree_area_is : goal.entries_out-size-requires-clause-tree_area_is
entries_out-size-requires-clause-tree_area_is c = (belongs_record c.args.held.now.belongs).tree_area_is
