use Rattle.std.proofs.Common.{sym, length-take-le, arith}
use Rattle.aff_list.proofs.LineLaws.{tail_length, line_is}
use Rattle.aff_list.proofs.line.line_of.Goals as goal

pub slice_bounds-tail-end : goal.slice_bounds-tail-end
slice_bounds-tail-end c = let e = c.entry-entry.result in omega (arith, tail_length e.kind e.count)

pub slice_bounds-with_path-end : goal.slice_bounds-with_path-end
slice_bounds-with_path-end c = let e = c.entry-entry.result in sym (length-take-le _ _ (omega (arith, tail_length e.kind e.count)))

pub returns : goal.returns
returns c =
    let e = c.entry-entry in
    let w = c.with_path.ensures in
    let a = c.args.belonging.now.opened in
    let is = line_is a.image.now a.reader a.strings.now a.entries.now c.args.node e.result e.ensures c.put_tail-size.ensures in
    record { answer = rw is at w.answer; output = rw is at w.output }
