-- That document 01's algorithm is Algorithm 2, narrowed: the theorem is in Exactly, and what stands before it serves it. Then: runs and the two
-- properties; a table that shows a difference; states that are alike, and that an action leaves no freedom; the bytes of every action of the
-- paper; and the two properties of Algorithm 2's own runs.
pub mod Quorum
pub mod Figures
pub mod EachKind
pub mod After
pub mod Exactly
pub mod Reached
pub mod Beyond
pub mod Near
pub mod Whole
pub mod Algorithm
