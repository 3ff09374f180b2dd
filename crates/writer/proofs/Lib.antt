-- The laws of the writer. In the order to read: places, rows as they stand in a slice, bodies, answers, bodies written again as they were read, the image written again, what the
-- contract amounts to.
pub mod PlaceLaws
pub mod BakeLaws
pub mod BodyWriteLaws
pub mod WriteLaws
pub mod BodyCopy
pub mod ImageCopy
pub mod WidthLaws
pub mod WriteTheorems
