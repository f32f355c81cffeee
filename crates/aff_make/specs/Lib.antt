-- Make a child: what the promises of this crate cite.
pub mod Make
