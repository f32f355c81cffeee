-- Definitions that only the passes over an area need.
pub mod Marks
