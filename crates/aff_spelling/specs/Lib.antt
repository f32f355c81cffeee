-- How a name is written (request C-15).
pub mod Spelling
pub mod Within
