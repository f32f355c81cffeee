-- Listing order: what the promises of this crate cite.
pub mod ListingOrder
pub mod Once
pub mod passes
