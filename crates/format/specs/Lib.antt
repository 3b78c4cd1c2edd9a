pub mod Format
