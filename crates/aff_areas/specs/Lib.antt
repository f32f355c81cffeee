-- The writer's record, byte stores, and what the two areas say: document 01, 'Writing keys' and 'Numbers handed back'.
pub mod Writer
pub mod Stores
pub mod Areas
pub mod Belongs
pub mod Given
pub mod Held
pub mod passes
