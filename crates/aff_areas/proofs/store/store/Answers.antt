use Rattle.aff_areas.proofs.StoreLaws.{copied_stores}
use Rattle.aff_areas.proofs.store.store.Goals as goal

pub returns-clause-buffer : goal.returns-clause-buffer
returns-clause-buffer c =
    rw c.put.ensures (copied_stores c.args.at c.min-made.result c.args.allowance c.args.bytes.now c.args.buffer.now c.requires c.min-made.ensures)
