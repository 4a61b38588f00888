-- passes that are ready for a call
pub mod Ready
-- jobs that are
pub mod Jobs
