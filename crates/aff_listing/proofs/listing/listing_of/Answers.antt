-- The nodes listed, of the order of all nodes, are listing order.
use Rattle.std.proofs.Common.{sym}
use Rattle.std.proofs.lemmas.List.{length-take-le}
use Rattle.aff_reader.proofs.BelongsLaws.{belongs_record}
use Rattle.aff_listing.proofs.ListedLaws.{all_few, listed_fits, listed_written}
use Rattle.aff_listing.proofs.listing.listing_of.Goals as goal

pub slice_bounds-order-end : goal.slice_bounds-order-end
slice_bounds-order-end c =
    let f = c.full_order-count.ensures in
    all_few (belongs_record c.args.belonging.now.belongs) c.args.choice f c.full_order-count.array_long

pub slice_bounds-put_all-end : goal.slice_bounds-put_all-end
slice_bounds-put_all-end c =
    let f = c.full_order-count.ensures in
    sym (length-take-le _ _ (all_few (belongs_record c.args.belonging.now.belongs) c.args.choice f c.full_order-count.array_long))

pub put_all-requires : goal.put_all-requires
put_all-requires c =
    listed_fits (belongs_record c.args.belonging.now.belongs) c.args.choice c.full_order-count.ensures c.args.out.now c.requires

pub returns : goal.returns
returns c =
    let w = listed_written (belongs_record c.args.belonging.now.belongs) c.args.choice c.full_order-count.ensures c.put_all.ensures in
    record { answer = w.0; output = w.1 }
