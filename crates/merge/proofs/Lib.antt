-- Laws over the definitions of merging.
pub mod FoldLaws
pub mod LowestLaws
pub mod ChainLaws
pub mod BoxLaws
pub mod StepLaws
pub mod GridLaws
pub mod NoteLaws
pub mod CallLaws
pub mod HeadsLaws
