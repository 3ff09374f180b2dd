pub mod Members
pub mod Rules
pub mod Sheet
