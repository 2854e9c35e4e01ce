-- A blob that a repository takes over from another one (OCI Distribution Specification, "Mounting a blob from another repository").
use Rattle.std.specs.Prelude.{◌≡◌, ℕ, List, Option, Some}
use Rattle.zot_digest.specs.Digest.{IsSound}
use Rattle.zot_model.specs.declared.call.Call.{Call}
use Rattle.zot_model.specs.declared.call.Call.TheVariants.{Post}
use Rattle.zot_model.specs.declared.mount.Mount.{Mount}
use Rattle.zot_model.specs.declared.reply.Reply.{Reply}
use Rattle.zot_model.specs.declared.reply.Reply.TheVariants.{BlobMade}
use Rattle.zot_model.specs.Outcomes.{with_blob}
use Rattle.zot_model.specs.State.{RepoState}

-- a call asks to take over the blob of a digest from the repository of a name
pub record Asks (call : Call) (digest from : List ℕ) : Type 0 where
  pub other : Option (List ℕ)
  pub body : List ℕ
  pub is : call ≡ Post (Some (record { digest = digest; from = Some from })) other body

-- a call that asks so is answered 201: bytes that are sound for the digest are a blob, which arrives at the moment
pub record TakesOver (moment : ℕ) (call : Call) (bytes : List ℕ) (reply : Reply) (old new : RepoState) : Type 0 where
  pub digest : List ℕ
  pub from : List ℕ
  pub asks : Asks call digest from
  pub sound : IsSound digest bytes
  pub reply_is : reply ≡ BlobMade digest
  pub repo_is : new ≡ with_blob moment old digest bytes
