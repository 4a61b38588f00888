-- what all workers leave, place by place
pub mod Jobs
-- workers whose commands stand for calls
pub mod WorkerCalls
