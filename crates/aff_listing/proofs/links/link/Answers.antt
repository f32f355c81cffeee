-- Node k is its parent's lowest child then, and the one before it is its next sibling.
use Rattle.std.proofs.Common.{arith}
use Rattle.aff_reader.proofs.BelongsLaws.{belongs_record}
use Rattle.aff_listing.specs.passes.Children.{parent_of}
use Rattle.aff_listing.proofs.ChildLaws.{linked}
use Rattle.aff_listing.proofs.links.link.Goals as goal

pub returns : goal.returns
returns c =
    let o = c.args.belonging.now.opened in
    let b = belongs_record c.args.belonging.now.belongs in
    linked (parent_of o) o.reader.nodes c.args.k c.parent-p.result c.args.links.now (omega (arith, b.few_nodes)) c.requires.some c.requires.exists c.parent-p.ensures
    (record { exists = b.parent_exists }) c.requires.tables
