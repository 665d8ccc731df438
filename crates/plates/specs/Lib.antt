-- What the contracts of plates cite.
pub mod Entries
pub mod Plates
