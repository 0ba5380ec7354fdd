mod OnePair
mod RowFacts
