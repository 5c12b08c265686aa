pub mod Sending
pub mod Lists
pub mod Members
pub mod Digits
pub mod Stacktraces
pub mod Names
pub mod NamesOfRecords
