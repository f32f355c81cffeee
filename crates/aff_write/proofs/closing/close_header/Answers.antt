-- Signature, section headers and sum are written one after the other; the data lie inside the buffer.
use Rattle.std.proofs.Common.{ℕ, ◌-◌, ◌≤◌, length, take, drop, replicate, rules, arith}
use Rattle.std.proofs.Math.ListN.{length-replicate}
use Rattle.aff_format.specs.Edition.{most_header}
use Rattle.aff_areas.proofs.BelongsLaws.{belongs_record, end_inside, sizes_small}
use Rattle.aff_write.proofs.CloseLaws.{header_over, data_part}
use Rattle.aff_write.proofs.closing.close_header.Goals as goal

pub slice_bounds-sections-end : goal.slice_bounds-sections-end
slice_bounds-sections-end c =
    let g = c.args.held.now.given in
    let b = belongs_record c.args.held.now.belongs in
    omega (arith, end_inside g.writer g.tree.now, b.size_fits, b.length_recorded, c.requires.sized)

pub returns : goal.returns
returns c =
    let g = c.args.held.now.given in
    let w = g.writer in
    let i = c.args.buffer.now in
    let f = c.data_place-from.result in
    let n : most_header ≤ length (replicate {A = ℕ} most_header 0) = omega (arith, length-replicate {A = ℕ} most_header 0) in
    header_over i w g.text.now g.tree.now c.by_number-edition.result c.args.entries.now (take (w.end - f) (drop f i)) c.data_nodes-full.result
    (replicate most_header 0) c.put_signature.new.out c.put_headers.new.out c.put_sum.new.out
    n c.put_signature.ensures.form c.by_number-edition.ensures c.requires.entries (data_part i w f c.data_place-from.ensures.value) c.data_nodes-full.ensures.value
    c.put_signature.ensures.area (rw c.requires.symbols at c.put_headers.ensures) c.put_sum.ensures

pub data_nodes-full-requires : goal.data_nodes-full-requires
data_nodes-full-requires c = (belongs_record c.args.held.now.belongs).few_nodes

pub invariant_of-sections : goal.invariant_of-sections
invariant_of-sections c =
    let s = sizes_small (belongs_record c.args.held.now.belongs) in
    record { end_allowed = s.0; text_inside = s.1 }

pub slice_bounds-sections-count : goal.slice_bounds-sections-count
slice_bounds-sections-count c = omega (arith, (belongs_record c.args.held.now.belongs).end_after_header, c.data_place-from.ensures.value)

pub slice_bounds-sections-start : goal.slice_bounds-sections-start
slice_bounds-sections-start c =
    let e : c.data_place-from.result ≤ c.args.held.now.given.writer.end =
    omega (arith, (belongs_record c.args.held.now.belongs).end_after_header, c.data_place-from.ensures.value) in
    search (rules, e)
