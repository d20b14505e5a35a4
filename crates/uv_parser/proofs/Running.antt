-- The tools of a run: steps and their composition, its ends and stops, the bound, the test before the first step.
pub mod Steps
pub mod RunsStopped
pub mod Unremoved
pub mod KeptTexts
pub mod StoppedHosts
