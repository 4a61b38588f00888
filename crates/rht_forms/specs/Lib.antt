-- which bytes are read of an input, and when they are a script or a claimed history
pub mod Input
-- the text of a script that was run, or what sums it up
pub mod RunText
-- the text that sums up the script of a number
pub mod GenText
-- the text of a script that was replayed
pub mod ReplayText
-- the text of a script that was dealt
pub mod DealText
-- the text of a lease script's commands
pub mod LeaseText
-- the text of a resume script's commands
pub mod ResumeText
-- the text of the verdict on a claimed history
pub mod VerdictText
-- the command forms: their words, their input and their text
pub mod Forms
-- how a run can end, and what each end means
pub mod Endings
-- the headline
pub mod Headline
-- the headlines of the forms `deal`, `lease` and `resume`
pub mod Printed
