-- Laws: for callers. LeastByKey, Chunks: what the proofs of functions cite.
pub mod Laws
mod LeastByKey
mod Chunks
