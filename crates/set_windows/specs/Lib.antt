pub mod SetWindows
