pub mod AsBefore
pub mod FullPut
pub mod Peaks
pub mod UnusedFields
pub mod ReadsOut
pub mod HostHistory
pub mod HostDemands
