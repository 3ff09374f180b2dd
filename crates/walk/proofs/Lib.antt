-- The laws of the places in a list of actions.
pub mod Laws
