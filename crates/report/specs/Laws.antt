-- Laws that callers cite.
pub mod Laid
pub mod Spelled
pub mod RoundTrip
pub mod ReadBack
