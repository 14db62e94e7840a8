pub mod Served
pub mod ServiceLaws
pub mod CurveOfPlan
