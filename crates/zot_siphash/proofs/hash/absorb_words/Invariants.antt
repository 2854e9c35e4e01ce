use Rattle.std.proofs.Common.{◌≡◌, ℕ, List, take, fold}
use Rattle.zot_siphash.specs.SipHash.{absorbed, word_of}
use Rattle.zot_siphash.specs.declared.state.State.{State}
use Rattle.zot_siphash.proofs.hash.absorb_words.Given as goal

-- the words so far were taken
abbrev pub invariant-loop-word : goal.invariant-loop-word
invariant-loop-word l = l.state ≡ fold (λ (t : State) (word : List ℕ). absorbed t (word_of word)) l.fn.state (take l.word-index l.words)
