pub mod CaptureRecords
pub mod Captured
pub mod CapturedInputs
pub mod Cuts
pub mod PairPlaces
pub mod RecordInputs
pub mod Recorded
mod Shows
pub mod TracedPairs
mod Whole
