pub mod OnlyTake
