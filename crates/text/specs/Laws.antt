-- Laws that callers cite, and what they rest on.
pub mod Begins
pub mod Joined
pub mod Padded
pub mod Entry
