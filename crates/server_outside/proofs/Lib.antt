mod Letters
mod Drawing
mod Soundness
