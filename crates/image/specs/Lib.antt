pub mod Contents
pub mod Image
