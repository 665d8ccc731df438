-- Laws that the proof of `reports_of` cites.
mod AllWorked
