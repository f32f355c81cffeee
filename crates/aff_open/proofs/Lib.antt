-- Laws of the definitions in specs/, which proofs of this crate and of those above cite.
pub mod SectionLaws
pub mod TablesLaws
pub mod OpeningLaws
pub mod NumbersLaws
pub mod FaultLaws
pub mod ObeysLaws
pub mod OpenedLaws
