-- What the exported functions keep, and what follows of their promises.
pub mod FreshLaws
pub mod CallLaws
pub mod Meaning
pub mod CallUnique
pub mod Reached
