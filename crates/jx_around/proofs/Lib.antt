pub mod Collects
