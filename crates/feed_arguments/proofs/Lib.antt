mod AddressLemmas
mod Conjunctions
mod DeclaringLemmas
mod NetworkLemmas
mod UrlLemmas
mod WordsLemmas
