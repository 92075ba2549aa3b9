pub mod Listing
pub mod Held
pub mod Listed
pub mod Truthful
pub mod Legible
pub mod Examples
pub mod Widths
