mod FeedLineLemmas
mod LineLemmas
mod NumberLemmas
mod PlayerLemmas
mod WordLemmas
