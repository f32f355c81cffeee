-- The writer: what the promises of this crate cite, in the order of document 01.
pub mod Begin
pub mod Put
pub mod Close
