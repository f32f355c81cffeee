-- What only the contracts of inner passes cite; a user of the library needs none of it.
pub mod Held
pub mod Settled
pub mod Climb
pub mod Fit
