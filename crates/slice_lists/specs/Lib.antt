pub mod Runs
pub mod Slices
pub mod Sides
pub mod Touched
pub mod Bounds
pub mod Parted
