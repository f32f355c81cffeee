-- Laws of the definitions in specs/, which proofs of this crate and of those above cite.
pub mod SpellingLaws
pub mod WithinLaws
pub mod ShownLaws
pub mod Examples
