-- What only the contracts of inner passes cite; a reader of `printed` needs none of it.
pub mod Block
