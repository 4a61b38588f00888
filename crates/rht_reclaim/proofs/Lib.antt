-- the giving back of a retired table stays in range, and on which words it works
pub mod GivesStay
-- what holds of each operation of a machine; and that one ends of which each operation leaves fewer
pub mod Descents
-- how many operations the giving back of a retired table makes at most, and of which kinds they are
pub mod GivesEnd
-- what the giving back of a retired table has done when it ends
pub mod GivesReturn
-- and how often it has given each page
pub mod GivesCounted
-- the keeping of section words: where it stays, on which words it works, what it does, and that it ends
pub mod KeepsSections
-- the same of the giving back of all tables that may be given back
pub mod ReturnsStay
pub mod ReturnsDone
