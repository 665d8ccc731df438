-- What the contracts of supports cite.
pub mod SupportPlate
