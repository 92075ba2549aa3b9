pub mod Sizes
pub mod Holds
pub mod RootHolds
pub mod Ends
