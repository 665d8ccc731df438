-- Laws: for callers. Quotient: what the proof of ceil_div uses. WholeRoot: what those of the least root use. Rows: the
-- definitions, computed.
pub mod Laws
mod Quotient
mod WholeRoot
mod Rows
