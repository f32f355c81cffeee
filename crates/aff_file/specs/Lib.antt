-- A finished file by what is in it, and the tree of a file by its own tables.
pub mod File
pub mod TreeIn
pub mod Statement
