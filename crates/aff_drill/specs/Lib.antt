-- What the cut drill does and answers.
pub mod Drill
