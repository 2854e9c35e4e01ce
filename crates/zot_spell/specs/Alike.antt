-- Which replies to a request share a spelling.
use Rattle.std.specs.Prelude.{◌≡◌, ℕ, ◌-◌, Bool, true, false, List, Option, Some, None, ⊤}
use Rattle.zot_digest.specs.Digest.{IsDigest}
use Rattle.zot_model.specs.declared.detail.Detail.{Detail}
use Rattle.zot_model.specs.declared.detail.Detail.TheVariants as details
use Rattle.zot_model.specs.declared.reply.Reply.{Reply}
use Rattle.zot_model.specs.declared.reply.Reply.TheVariants as replies

-- a detail whose digests are digests
abbrev pub IsDetail : Detail → Type 0
IsDetail (details.Missing digest) = IsDigest digest
IsDetail (details.Differ wanted found) = IsDigest wanted × IsDigest found
IsDetail _ = ⊤

-- uploads of 0 and of 1 byte have one range
abbrev pub AreSizesAlike : ℕ → ℕ → Type 0
AreSizesAlike size other = size - 1 ≡ other - 1

-- details that are spelled alike where the body isn't shown: of the same kind, and the same but for digests and for an upload of 0 or 1 byte
abbrev pub AreUnseenAlike : Detail → Detail → Type 0
AreUnseenAlike details.None details.None = ⊤
AreUnseenAlike (details.Missing digest) (details.Missing other) = ⊤
AreUnseenAlike (details.Differ wanted found) (details.Differ wants finds) = ⊤
AreUnseenAlike (details.Session id size) (details.Session other count) = (id ≡ other) × AreSizesAlike size count
AreUnseenAlike (details.Allow which) (details.Allow other) = which ≡ other
AreUnseenAlike _ _ = ⊥

-- details that are spelled alike where the body is shown
abbrev pub AreSeenAlike : Detail → Detail → Type 0
AreSeenAlike (details.Session id size) (details.Session other count) = (id ≡ other) × AreSizesAlike size count
AreSeenAlike detail other = detail ≡ other

-- details that are spelled alike, to the method HEAD or another
abbrev pub AreDetailsAlike : Bool → Detail → Detail → Type 0
AreDetailsAlike true detail other = AreUnseenAlike detail other
AreDetailsAlike false detail other = AreSeenAlike detail other

-- pages of tags that are spelled alike: after the last page there is no number
abbrev pub ArePagesAlike : Option (List ℕ) → ℕ → Option (List ℕ) → ℕ → Type 0
ArePagesAlike None n None m = ⊤
ArePagesAlike (Some tag) n (Some other) m = (tag ≡ other) × (n ≡ m)
ArePagesAlike _ n _ m = ⊥

-- replies that are equal up to their spelling, to the method HEAD or another: uploads of 0 and of 1 byte, pages of tags after which none follows, refusals to HEAD whose details are of one kind, and equal ones
abbrev pub AreAlike : Bool → Reply → Reply → Type 0
AreAlike head (replies.Session id size status) (replies.Session other count code) = (id ≡ other) × AreSizesAlike size count × (status ≡ code)
AreAlike head (replies.Tags tags next n) (replies.Tags others follows m) = (tags ≡ others) × ArePagesAlike next n follows m
AreAlike head (replies.Refused status code detail) (replies.Refused other reason said) = (status ≡ other) × (code ≡ reason) × IsDetail detail × IsDetail said × AreDetailsAlike head detail said
AreAlike head reply other = reply ≡ other
