-- Laws of records, of what is written, and of the call; what may be claimed; closed cases.
pub mod RecordLaws
pub mod WritingLaws
pub mod CallLaws
pub mod Theorems
pub mod Cases
