-- Laws of the definitions in specs/, which proofs of this crate and of those above cite.
pub mod SpanLaws
pub mod JudgeLaws
pub mod ElementLaws
