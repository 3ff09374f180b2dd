-- The laws of played actions and of inputs, and what the definitions of the output amount to.
pub mod PlayedLaws
pub mod InputLaws
pub mod PrintedTheorems
pub mod SavedTheorems
pub mod Never24
