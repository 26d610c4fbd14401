mod Elements
mod Lines
mod Outputs
