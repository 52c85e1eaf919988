pub mod Answered
pub mod Carried
pub mod FollowLaws
pub mod Laws
pub mod Opening
pub mod Replied
pub mod Served
