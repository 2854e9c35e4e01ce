-- What a request leads to.
use Rattle.std.specs.Prelude.{ℕ, true, List}
use Rattle.std.specs.FinMap as map
use Rattle.zot_model.specs.declared.reply.Reply.{Reply}
use Rattle.zot_model.specs.State.{RepoState}

-- what a request leads to: the reply, and the repository after it
pub record Outcome : Type 0 where
  pub reply : Reply
  pub repo : RepoState

-- the repository stays as it is
abbrev pub stays : RepoState → Reply → Outcome
stays repo reply = record { reply = reply; repo = repo }

-- the repository with a blob that arrives at the moment, which makes it known
abbrev pub with_blob : ℕ → RepoState → List ℕ → List ℕ → RepoState
with_blob moment repo digest bytes = record {
  known = true;
  blobs = map.insert repo.blobs digest (record { bytes = bytes; arrived = moment });
  manifests = repo.manifests;
  tags = repo.tags;
  sessions = repo.sessions;
}
