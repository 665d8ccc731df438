-- Laws that callers cite, and that a reader of the definitions may want.
pub mod Cut
pub mod Counts
pub mod Limit
pub mod Stands
pub mod Summary
