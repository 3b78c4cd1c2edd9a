pub mod FindPage
