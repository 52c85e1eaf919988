pub mod FollowedLemmas
pub mod OpeningLemmas
pub mod ReplyLemmas
pub mod HeadsFollowed
