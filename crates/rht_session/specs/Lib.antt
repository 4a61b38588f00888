-- what an address owns
pub mod Held
-- what lending a session leaves of its address
pub mod Lending
-- what calls leave of a session
pub mod Sessions
-- what of a list is shown in a room
pub mod Lists
-- what calls leave of a handle, and when they are refused
pub mod Handles
-- what the closing of several handles together leaves
pub mod Closings
-- what structs that C lays out say
pub mod Plain
-- how C is told of answers
pub mod Told
