-- Laws of the definitions in specs/, which proofs of this crate and of those above cite.
pub mod FrontLaws
pub mod ClimbLaws
pub mod FitLaws
pub mod ChainLaws
pub mod StepLaws
pub mod LookupLaws
pub mod UniqueLaws
pub mod OutputLaws
