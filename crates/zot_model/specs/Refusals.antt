-- Refusals: a code, its status from the table of codes, and what is said beside it.
use Rattle.std.specs.Prelude.{ℕ}
use Rattle.zot_model.specs.declared.code.Code.{Code}
use Rattle.zot_model.specs.declared.code.Code.TheVariants.{BlobUploadInvalid, HopRefused, NoMemory, PeerFault, StorageFault, Unsupported}
use Rattle.zot_model.specs.declared.detail.Detail.{Detail}
use Rattle.zot_model.specs.declared.detail.Detail.TheVariants as details
use Rattle.zot_model.specs.declared.methods.Methods.{Methods}
use Rattle.zot_model.specs.declared.reply.Reply.{Reply}
use Rattle.zot_model.specs.declared.reply.Reply.TheVariants.{Refused}
use Rattle.zot_model.specs.Codes.{no_number, no_path, no_range, status_of}

-- the refusal with a code, which says this beside it
abbrev pub refusal_with : Code → Detail → Reply
refusal_with code detail = Refused (status_of code) code detail

-- the refusal with a code, which says nothing beside it
abbrev pub refusal : Code → Reply
refusal code = refusal_with code details.None

-- memory ran out (RFC 9110, section 15.6.4)
abbrev pub no_memory : Reply
no_memory = refusal NoMemory

-- the storage failed (RFC 9110, section 15.6.1)
abbrev pub storage_fault : Reply
storage_fault = refusal StorageFault

-- another member couldn't be asked (RFC 9110, section 15.6.3)
abbrev pub peer_fault : Reply
peer_fault = refusal PeerFault

-- a request that a member handed on came to one that doesn't own its repository (RFC 5842, section 7.2)
abbrev pub hop_refused : Reply
hop_refused = refusal HopRefused

-- a piece that doesn't go on where the upload of this id ends, which has so many bytes
abbrev pub upload_invalid : ℕ → ℕ → Reply
upload_invalid id length = refusal_with BlobUploadInvalid (details.Session id length)

-- ---- refusals of messages that ask for nothing

-- a method that the path doesn't have, which has these (RFC 9110, section 15.5.6)
abbrev pub not_allowed : Methods → Reply
not_allowed which = refusal_with Unsupported (details.Allow which)

-- the refusal with a status of its own, which says nothing beside
abbrev pub declined : ℕ → Code → Reply
declined status code = Refused status code details.None

-- a path that no route has
abbrev pub unsupported_path : Reply
unsupported_path = declined no_path.status Unsupported

-- a number in a query that isn't one
abbrev pub unsupported_query : Reply
unsupported_query = declined no_number.status Unsupported

-- a range that isn't one
abbrev pub range_invalid : Reply
range_invalid = declined no_range.status BlobUploadInvalid
