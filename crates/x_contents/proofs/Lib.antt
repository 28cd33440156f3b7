mod FoldLemmas
mod PhraseLemmas
mod StringTextLemmas
mod SymbolLemmas
mod TokenLemmas
