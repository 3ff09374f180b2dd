-- The laws of an image's contents, logs and bodies, and of the image of a table.
pub mod JoinedTests
pub mod LogLaws
pub mod BodyLaws
pub mod ImageLaws
pub mod LongestImage
pub mod WideLaws
