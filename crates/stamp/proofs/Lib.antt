pub mod Pages
pub mod SinceLaws
