-- What the contracts of batch cite, and the laws that callers cite.
pub mod Pieces
pub mod Book
pub mod Exact
pub mod Summary
pub mod Lines
pub mod Laws
