-- The laws of sets of servers.
pub mod Said
pub mod Counting
pub mod Masks
pub mod Majorities
pub mod Meaning
pub mod Lowest
pub mod Pairs
pub mod SheetLaws
pub mod Worked
