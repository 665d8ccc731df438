-- Laws for callers: which line of a table a number reads, where there is no design stress and between which bounds one lies, and
-- the same of spans and support plates. Assumes nothing.
pub mod ByLimits
pub mod DesignStress
pub mod SupportPlates
