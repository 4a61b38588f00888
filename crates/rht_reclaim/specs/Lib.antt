-- giving a retired table back
pub mod GiveTable
-- keeping section words in the slot of a table that is retired
pub mod KeepSections
-- giving back all those over which no section is open any more
pub mod ReturnTables
-- and what that holds in each state
pub mod ReturnHeld
-- what the other machines rely on that give a table back
pub mod GiveTableLaws
-- and those that keep section words
pub mod KeepLaws
-- and those that give back all that they may
pub mod ReturnLaws
