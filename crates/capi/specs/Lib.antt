-- What the contracts of capi cite.
pub mod Call
pub mod Places
