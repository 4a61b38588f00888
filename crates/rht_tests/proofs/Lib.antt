-- inputs that are no lease script, and their first faults
pub mod WorkedLeaseInputs
-- inputs that are no resume script, and theirs
pub mod WorkedResumeInputs
