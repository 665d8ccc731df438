-- What the contracts of root cite.
pub mod Least
pub mod Root
