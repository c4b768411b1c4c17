pub mod OneFetch
pub mod OneFetchLaws
