pub mod Flushes
pub mod Telemetry
