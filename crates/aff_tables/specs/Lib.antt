-- The tables of a file: what the promises of this crate cite, in the order of document 01.
pub mod Tables
pub mod Nodes
pub mod passes
