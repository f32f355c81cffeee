-- Two runs and two runs after them, under one allowance.
use Rattle.aff_write.proofs.CloseLaws.{file_stored}
use Rattle.aff_write.proofs.closing.store_file.Goals as goal

pub returns-clause-buffer : goal.returns-clause-buffer
returns-clause-buffer c =
    let a = c.args in
    let s = c.store_both-body in
    let t = c.store_both in
    (file_stored a.at a.symbols.now a.entries.now a.header.now a.allowance s.result t.result a.buffer.now s.new.buffer t.new.buffer
    s.ensures.made s.ensures.buffer t.ensures.made t.ensures.buffer).1
