-- Whether a node is listed: whether the choice lists it, by the record and what is passed with it.
use Rattle.std.specs.Prelude.{Bool, ℕ}
use Rattle.aff_listing.specs.ListingOrder.{is_listed}
use Rattle.aff_listing.specs.declared.listing.Listed.{Listed}

abbrev pub listed : Listed → ℕ → Bool
listed l = is_listed l.belonging.now.opened.image.now l.belonging.now.opened.entries.now l.choice
