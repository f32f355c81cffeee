-- The second run is stored under what the first leaves of the allowance.
use Rattle.aff_areas.proofs.StoreLaws.{both_made, both_buffer}
use Rattle.aff_areas.proofs.store.store_both.Goals as goal

pub returns-clause-made : goal.returns-clause-made
returns-clause-made c =
    both_made _ _ _ _ _ _ _ _ _ _ (c.store-first.ensures.made, c.store-first.ensures.buffer) (c.store.ensures.made, c.store.ensures.buffer)

pub returns-clause-buffer : goal.returns-clause-buffer
returns-clause-buffer c =
    both_buffer _ _ _ _ _ _ _ _ _ _ (c.store-first.ensures.made, c.store-first.ensures.buffer)
    (c.store.ensures.made, c.store.ensures.buffer)
