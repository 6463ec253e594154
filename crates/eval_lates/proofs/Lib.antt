mod PlaceLemmas
mod CountLemmas
mod NextLemmas
