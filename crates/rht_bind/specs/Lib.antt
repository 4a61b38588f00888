-- the insertion, state by state
pub mod Bind
-- what comes behind its read section
pub mod Endings
-- what it does where the last table is full
pub mod Growing
-- what a bind holds
pub mod BindHeld
-- where a bind stands
pub mod BindStanding
