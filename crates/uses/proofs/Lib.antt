-- Laws of any list of calls, what follows from answers that isolation compares, and the corollaries of both; and of the worst node count.
pub mod Laws
pub mod Uses
pub mod Agreed
pub mod Isolated
pub mod Worst
