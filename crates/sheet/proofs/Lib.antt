-- Laws that the proofs of the functions cite.
mod Answered
mod PrintedExact
mod LaidReport
mod Read
mod NamedPart
