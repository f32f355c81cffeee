-- What the contract of `md5_c_digest` cites.
pub mod Output
