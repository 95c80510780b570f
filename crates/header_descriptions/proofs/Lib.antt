mod ByteLemmas
mod HexLemmas
