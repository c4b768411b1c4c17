pub mod Put
pub mod PutLaws
