pub mod WhyLemmas
