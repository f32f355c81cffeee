-- The header of a written file: document 01, 'Layout of a file'.
pub mod Header
