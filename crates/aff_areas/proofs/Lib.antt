-- Laws of the definitions in specs/, which proofs of this crate and of those above cite.
pub mod AreaLaws
pub mod BelongsLaws
pub mod StoreLaws
pub mod NameLaws
