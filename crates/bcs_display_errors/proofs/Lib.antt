pub mod PointerParts
