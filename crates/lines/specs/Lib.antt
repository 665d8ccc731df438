-- What the contracts of lines cite, and the laws that callers cite.
pub mod Fields
pub mod Lines
pub mod Laws
