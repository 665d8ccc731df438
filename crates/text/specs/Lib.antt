-- What the contracts of text cite, and the laws that callers cite.
pub mod Ascii
pub mod Index
pub mod Line
pub mod Number
pub mod Padded
pub mod Plates
pub mod Laws
