pub mod Totals
pub mod RisingPairs
pub mod Distances
pub mod Examples
