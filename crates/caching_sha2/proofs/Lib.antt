pub mod FastLaws
