mod Groups
mod Handles
mod Locked
