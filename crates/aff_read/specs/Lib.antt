-- Paths of an opened image, lookup, and what a file shows: what the promises of this crate cite.
pub mod Paths
pub mod Lookup
pub mod passes
pub mod Shows
