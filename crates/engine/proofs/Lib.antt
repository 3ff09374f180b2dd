-- Laws of a plan in pieces, of what is asked, of a step, and of runs.
pub mod ReadyLaws
pub mod AskedLaws
pub mod StepLaws
pub mod RunLaws
pub mod StepUnique
