pub mod NoLane
