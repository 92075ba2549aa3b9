pub mod Words
pub mod Printed
pub mod Call
