pub mod LoadCalls
pub mod SubjectLooks
pub mod TurnPlans
