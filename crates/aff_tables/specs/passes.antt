-- Definitions that only the passes over the tables need: their invariants and what they report to each other.
pub mod Climb
pub mod Sorted
pub mod Distinct
pub mod Results
