-- The record of an opened image, and 24: what the promises of this crate cite.
pub mod Reader
pub mod Belongs
pub mod Opened
pub mod Judged
pub mod passes
