pub mod Rising
pub mod RisingLaws
