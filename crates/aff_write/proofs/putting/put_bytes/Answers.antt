-- What is stored is the front of the stores, padding first; where it is all, the slot is filled.
use Rattle.std.proofs.Common.{sym}
use Rattle.aff_write.proofs.PutLaws.{zeros_few, length_zeros, put_spent, put_made}
use Rattle.aff_write.proofs.putting.put_bytes.Goals as goal

pub slice_bounds-zeros-end : goal.slice_bounds-zeros-end
slice_bounds-zeros-end c = zeros_few c.args.writer.now _ c.put_place-place.ensures

pub slice_bounds-store_both-end : goal.slice_bounds-store_both-end
slice_bounds-store_both-end c = sym (length_zeros c.args.writer.now _ c.put_place-place.ensures)

pub returns-then-made-pad-clause-answer : goal.returns-then-made-pad-clause-answer
returns-then-made-pad-clause-answer c =
    let s = c.store_both-made.ensures in
    (put_spent c.args.writer.now _ c.put_place-place.ensures c.args.bytes.now c.args.allowance _ _ _ s.made s.buffer c.if-made-pad.true).answer_is

pub returns-then-made-pad-clause-buffer : goal.returns-then-made-pad-clause-buffer
returns-then-made-pad-clause-buffer c =
    let s = c.store_both-made.ensures in
    (put_spent c.args.writer.now _ c.put_place-place.ensures c.args.bytes.now c.args.allowance _ _ _ s.made s.buffer c.if-made-pad.true).buffer_is

pub returns-clause-answer : goal.returns-clause-answer
returns-clause-answer c =
    let s = c.store_both-made.ensures in
    (put_made c.args.writer.now _ c.put_place-place.ensures c.args.bytes.now c.args.allowance _ _ _ s.made s.buffer c.if-made-pad.false).answer_is

pub returns-clause-buffer : goal.returns-clause-buffer
returns-clause-buffer c =
    let s = c.store_both-made.ensures in
    (put_made c.args.writer.now _ c.put_place-place.ensures c.args.bytes.now c.args.allowance _ _ _ s.made s.buffer c.if-made-pad.false).buffer_is
