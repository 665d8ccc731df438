-- What the contracts of limits cite, and laws for callers.
pub mod Sheets
pub mod Cause
pub mod Causes
pub mod Stress
pub mod Unbolted
pub mod Limits
pub mod Laws
