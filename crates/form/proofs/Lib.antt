-- What the bytes of an action tell.
pub mod FormLaws
