-- the walk, state by state
pub mod Walk
-- what a walk holds
pub mod WalkHeld
-- and where it stands
pub mod WalkStanding
-- what it does, whatever it finds
pub mod WalkLaws
