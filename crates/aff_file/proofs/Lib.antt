-- Laws of the definitions in specs/, which proofs of this crate and of those above cite.
pub mod FileLaws
pub mod OpenedShowsLaws
pub mod FileShowsLaws
pub mod StatementLaws
