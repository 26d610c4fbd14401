mod Led
mod Spans
