-- What the contracts of rules cite, and of the flange at each "least with" the law that it is that.
pub mod Bounds
pub mod Endplate
pub mod Gasket
pub mod Loads
pub mod Bolts
pub mod BlindFlange
pub mod FlangeCauses
pub mod Figures
pub mod Sizing
pub mod Answer
pub mod Numbers
pub mod Exact
pub mod BoltChoice
pub mod BoltedAnswer
