-- Laws of the definitions in specs/, which proofs of this crate and of those above cite.
pub mod ParentLaws
pub mod MarkLaws
pub mod OrderLaws
pub mod SortedLaws
pub mod SearchLaws
pub mod EndLaws
pub mod RepeatLaws
pub mod SiblingLaws
pub mod LinkLaws
pub mod SlicedLaws
pub mod SplitLaws
pub mod SymbolLaws
pub mod WalkLaws
pub mod TreeTableLaws
pub mod NodeLaws
