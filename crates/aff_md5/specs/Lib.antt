-- What the contract of `md5` cites: RFC 1321. `passes` serves the contracts of functions that callers do not see.
pub mod Md5
pub mod passes
