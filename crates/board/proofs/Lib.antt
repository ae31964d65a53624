-- Laws of the nearest corner and of the call.
pub mod NearestLaws
pub mod CallLaws
