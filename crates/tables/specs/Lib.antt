-- What the contracts of tables cite, and what their laws say.
pub mod ByLimits
pub mod DesignStress
pub mod SupportPlates
pub mod TableRule
