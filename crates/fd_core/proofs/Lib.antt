pub mod Answering
pub mod BankCalls
pub mod Components
mod MemBanks
mod Parameters
mod Places
mod Refusals
pub mod Rows
