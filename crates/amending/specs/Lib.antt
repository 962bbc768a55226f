pub mod Amendments
