-- Laws: for callers. Places: what the code's searches of limits answer.
pub mod Laws
mod Places
