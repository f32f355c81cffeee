-- What the listers print of an image: what the promises of this crate cite.
pub mod Line
pub mod Lister
pub mod passes
