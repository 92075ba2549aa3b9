pub mod Ring
pub mod IntegerRing
pub mod Linear
pub mod Certificate
pub mod Order
pub mod Absolute
pub mod Floor
pub mod Machine
pub mod Truncated
pub mod NearestLaws
pub mod Fraction
pub mod Bound
pub mod RootLaws
pub mod Sum
mod Examples
