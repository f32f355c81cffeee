-- Opening: what the promises of this crate cite, in the order of document 01.
pub mod Sections
pub mod Opening
pub mod Rules
pub mod Obeys
pub mod Faults
pub mod passes
