-- Laws that the proofs of the functions cite.
mod Digits
