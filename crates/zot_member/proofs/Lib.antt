mod AskLemmas
