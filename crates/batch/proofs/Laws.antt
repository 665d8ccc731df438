-- Laws that callers cite. They stand here, since edits that must fail change the definitions that they speak of.
pub mod Counted
