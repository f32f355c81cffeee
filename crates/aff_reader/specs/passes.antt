-- Definitions that only the passes inside 24 need.
pub mod Belongs
