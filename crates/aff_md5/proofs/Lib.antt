-- `DigestLaws` is for the proofs of callers; the other modules are for the proofs of this crate.
pub mod DigestLaws
pub mod Examples
mod StepTables
mod Steps
mod Blocks
mod Padding
mod Writing
