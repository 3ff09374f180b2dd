-- Document 000's Algorithm 2 and its two properties; what document 01 asks beyond it; the state that a table shows.
pub mod Paper
pub mod Narrowings
pub mod Runs
pub mod Shown
