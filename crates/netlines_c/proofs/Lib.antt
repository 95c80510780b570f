mod HeldValues
mod FrameSessionLemmas
