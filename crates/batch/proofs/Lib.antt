-- Laws for callers (Laws), and what the proofs of the functions cite.
pub mod Laws
mod Cuts
mod Gathered
mod Numbers
mod Spelled
mod Tallied
