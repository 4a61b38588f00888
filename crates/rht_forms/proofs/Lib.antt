-- what reading told input means
pub mod ToldInput
-- where nothing fails, whole input is served and input at fault refused
pub mod Completeness
-- what a served run is printed as
pub mod RunTexts
-- the script of a number has nodes enough
pub mod GenNodes
-- the endings of a run of that script are as many of each sort as its commands ask for
pub mod GenCounts
-- the headline, of what `run` has printed
pub mod Headlines
-- what a replay writes
pub mod ReplayTexts
-- what the verdict on a claimed history is printed as
pub mod VerdictTexts
-- what a form has printed that has its own texts
pub mod PrintedTexts
-- what was dealt is printed as a text of the form `deal`
pub mod DealTexts
-- what a lease script's commands were answered is printed as a text of the form `lease`
pub mod LeaseTexts
-- what a resume script's commands were answered is printed as a text of the form `resume`
pub mod ResumeTexts
-- how a form that reads its input is served
pub mod ServedScripts
