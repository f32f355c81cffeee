-- The proofs of what specs/ states of the calls: Withdrawn, Places and Records; and laws of what the exported functions leave.
mod WithdrawnLaws
mod PlacesLaws
mod RecordsLaws
mod ReadingLaws
mod WritingLaws
