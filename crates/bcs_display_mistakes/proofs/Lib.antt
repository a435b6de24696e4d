pub mod MarkedParts
