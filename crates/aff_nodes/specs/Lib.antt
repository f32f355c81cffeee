-- Answers about one node of an opened image: what the promises of this crate cite.
pub mod Recall
pub mod Answers
