-- The laws of the cut drill.
pub mod CallLaws
pub mod DrillLaws
