-- Laws that the proof of `summary_of` cites.
mod SummaryStands
