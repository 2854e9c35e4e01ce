use Rattle.zot_turn.proofs.shared.Shared.turn.Given as goal

abbrev pub ghosts-give : goal.ghosts-give
ghosts-give g a = record { made = g.J.Job.entries a.job.now }
