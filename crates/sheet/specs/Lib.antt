-- What the contracts of sheet cite, and the laws that callers cite.
pub mod Sheet
pub mod Outcome
pub mod Exact
pub mod Laws
