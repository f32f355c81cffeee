-- Definitions that only the passes inside opening need: their invariants and what they report to each other.
pub mod Opening
