pub mod Capped
pub mod Equal
pub mod PartLaws
pub mod PutLaws
