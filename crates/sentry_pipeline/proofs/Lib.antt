pub mod DefaultLemmas
