pub mod Legible
pub mod Printing
pub mod WordLaws
pub mod NumberLaws
pub mod CallEnds
