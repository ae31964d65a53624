-- Laws of the fits, the cache, the fits about two bases and the candidates.
pub mod FitLaws
pub mod CacheLaws
pub mod BaseLaws
pub mod PlaceLaws
pub mod TryLaws
