pub mod Widths
pub mod Fit
pub mod Opening
pub mod Ticket
pub mod Fetching
