-- Laws: for callers.
pub mod Laws
