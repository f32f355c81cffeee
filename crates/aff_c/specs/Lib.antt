-- What the contracts of this crate cite.
pub mod Opening
pub mod Reading
pub mod Writing
pub mod Withdrawn
pub mod Places
pub mod Records
