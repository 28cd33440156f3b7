mod LineLemmas
mod RefusingLemmas
