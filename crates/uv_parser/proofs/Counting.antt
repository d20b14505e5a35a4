-- How many steps a run takes: what each state costs, that none takes more, and so that each run ends.
pub mod StepCosts
pub mod StepsFewer
pub mod RunsEnded
pub mod DecidedSoon
pub mod BoundTaken
