pub mod WholeChain
