pub mod WordLaws
mod ShownLaws
