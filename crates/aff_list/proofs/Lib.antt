-- Laws of the definitions in specs/, which proofs of this crate and of those above cite.
pub mod DigitLaws
pub mod LineLaws
pub mod LineBytesLaws
pub mod RowLaws
pub mod ReadyLaws
pub mod FillLaws
pub mod PrintedLaws
pub mod FirstLaws
pub mod LineAnswerLaws
pub mod OutputLaws
