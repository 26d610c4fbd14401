pub mod SeekCounts
