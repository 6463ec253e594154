pub mod Hits
pub mod Nodes
pub mod Sifted
pub mod Within
