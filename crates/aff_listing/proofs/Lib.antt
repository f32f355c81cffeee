-- Laws of the definitions in specs/, which proofs of this crate and of those above cite.
pub mod ChildLaws
pub mod ListingLaws
pub mod OnceLaws
pub mod KeptLaws
pub mod ListedLaws
pub mod WholeLaws
