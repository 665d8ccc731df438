-- What the contracts of report cite, and the laws that callers cite.
pub mod Decimal
pub mod Report
pub mod Space
pub mod Printed
pub mod Laws
