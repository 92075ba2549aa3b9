pub mod Floor
pub mod Nearest
pub mod Fraction
pub mod Root
pub mod Sum
