pub mod Lengths
pub mod Seqs
