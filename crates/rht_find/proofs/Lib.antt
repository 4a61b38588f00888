-- whatever words it is told, a look-up stays in its table
pub mod FindStays
-- on which words a look-up works
pub mod FindPlanned
-- a look-up leaves a table after a bounded number of operations
pub mod FindBounds
-- each operation of a look-up keeps what others rely on
pub mod FindSteps
