-- Laws of the fit operator and its closed cases.
pub mod BasisLaws
pub mod WrittenLaws
pub mod NormalLaws
pub mod InverseLaws
pub mod RowLaws
pub mod MirrorLaws
pub mod OverlapLaws
pub mod CallLaws
pub mod Cases
