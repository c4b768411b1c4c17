pub mod Bottom
