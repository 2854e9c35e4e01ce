-- Replies that are equal up to their spelling are spelled alike.
use Rattle.std.proofs.Common.{◌≡◌, ℕ, Bool, true, false, List, ◌++◌, length, Option, Some, None, append-nil, append_assoc, refl, sym, ap, ◌∙◌, arith}
use Rattle.std.specs.Prelude.{codes}
use Rattle.std.proofs.lemmas.List.{length-append}
use Rattle.hex.proofs.HexLemmas.{length-encode_with}
use Rattle.hex.specs.Hex.{lower_digits}
use Rattle.json.specs.Print.{escape, escape_byte}
use Rattle.serde_json.specs.Written.{compact_text}
use Rattle.zot_digest.specs.Digest.{IsDigest, digest_text}
use Rattle.zot_model.specs.declared.code.Code.{Code}
use Rattle.zot_model.specs.declared.detail.Detail.{Detail}
use Rattle.zot_model.specs.declared.detail.Detail.TheVariants as details
use Rattle.zot_model.specs.declared.reply.Reply.{Reply}
use Rattle.zot_model.specs.declared.reply.Reply.TheVariants as replies
use Rattle.zot_model.specs.declared.request.Request.{Request}
use Rattle.zot_spell.specs.Alike.{AreAlike, AreDetailsAlike, ArePagesAlike, AreSeenAlike, AreSizesAlike, AreUnseenAlike, IsDetail}
use Rattle.zot_spell.specs.Bodies.{detail_text, error_body, errors_value}
use Rattle.zot_model.specs.Codes.{code_text, message_text}
use Rattle.zot_spell.specs.declared.field.Field.{Field}
use Rattle.zot_spell.specs.Fields.{link_fields, range_text, upload_fields}
use Rattle.zot_spell.specs.Spelling.{name_in, all_fields, held_body, head_of, made_body, parts_of, refusal_fields, reply_body, reply_bytes, reply_head, shown_body, spelled}
use Rattle.zot_spell.proofs.PlainLemmas.{IsPlain, plain_append, plain_digest, plain_text}

upload_alike : (name : List ℕ) (id size other : ℕ) → AreSizesAlike size other → upload_fields name id size ≡ upload_fields name id other
unfolding upload_fields range_text
upload_alike name id size other h = rw h refl

-- ---- the length of a body with a detail

error_size : (code s t message : List ℕ) → length (escape s) ≡ length (escape t)
    → length (compact_text (errors_value code (Some s) message)) ≡ length (compact_text (errors_value code (Some t) message))
unfolding errors_value
error_size code s t message h = simp length-append (rw h refl)

digest_size : (digest : List ℕ) → IsDigest digest → length (escape (digest_text digest)) ≡ 71
unfolding digest_text
digest_size digest is =
    rw (plain_text _ (plain_digest digest is)) (rw (length-append) (omega (arith, length-encode_with lower_digits digest, is.long)))

plain_expected : IsPlain (codes "expected ")
unfolding escape_byte
plain_expected = (refl, (refl, (refl, (refl, (refl, (refl, (refl, (refl, (refl, tt)))))))))

plain_found : IsPlain (codes " found ")
unfolding escape_byte
plain_found = (refl, (refl, (refl, (refl, (refl, (refl, (refl, tt)))))))

pub digest_length : (digest : List ℕ) → IsDigest digest → length (digest_text digest) ≡ 71
unfolding digest_text
digest_length digest is = rw (length-append) (omega (arith, length-encode_with lower_digits digest, is.long))

pub differ_plain : (wanted found : List ℕ) → IsDigest wanted → IsDigest found → IsPlain (codes "expected " ++ digest_text wanted ++ codes " found " ++ digest_text found)
differ_plain wanted found w f =
    let front = plain_append (codes "expected ") (digest_text wanted) plain_expected (plain_digest wanted w) in
    let middle = plain_append (codes "expected " ++ digest_text wanted) (codes " found ") front plain_found in
    plain_append (codes "expected " ++ digest_text wanted ++ codes " found ") (digest_text found) middle (plain_digest found f)

differ_size : (wanted found : List ℕ) → IsDigest wanted → IsDigest found
    → length (escape (codes "expected " ++ digest_text wanted ++ codes " found " ++ digest_text found)) ≡ 158
differ_size wanted found w f =
    rw (plain_text (codes "expected " ++ digest_text wanted ++ codes " found " ++ digest_text found) (differ_plain wanted found w f))
    (simp length-append (omega (arith, digest_length wanted w, digest_length found f)))

pub unseen_size : (code : Code) (detail said : Detail) → IsDetail detail → IsDetail said → AreUnseenAlike detail said → length (error_body code detail) ≡ length (error_body code said)
unfolding error_body detail_text
unseen_size code details.None details.None x y h = refl
unseen_size code (details.Missing digest) (details.Missing other) x y h = error_size (code_text code) _ _ (message_text code) (digest_size digest x ∙ sym (digest_size other y))
unseen_size code (details.Differ wanted found) (details.Differ wants finds) x y h =
    error_size (code_text code) _ _ (message_text code) (differ_size wanted found x.0 x.1 ∙ sym (differ_size wants finds y.0 y.1))
unseen_size code (details.Session id size) (details.Session other count) x y h = refl
unseen_size code (details.Allow which) (details.Allow other) x y h = refl
unseen_size code _ _ x y h = absurd h

unseen_fields : (name : List ℕ) (detail said : Detail) → AreUnseenAlike detail said → refusal_fields name detail ≡ refusal_fields name said
unfolding refusal_fields
unseen_fields name details.None details.None h = refl
unseen_fields name (details.Missing digest) (details.Missing other) h = refl
unseen_fields name (details.Differ wanted found) (details.Differ wants finds) h = refl
unseen_fields name (details.Session id size) (details.Session other count) h = rw h.0 (upload_alike name other size count h.1)
unseen_fields name (details.Allow which) (details.Allow other) h = rw h refl
unseen_fields name _ _ h = absurd h

seen_body : (code : Code) (detail said : Detail) → AreSeenAlike detail said → error_body code detail ≡ error_body code said
unfolding error_body detail_text
seen_body code (details.Session id size) (details.Session other count) h = refl
seen_body code detail said h = ap (error_body code) h

seen_fields : (name : List ℕ) (detail said : Detail) → AreSeenAlike detail said → refusal_fields name detail ≡ refusal_fields name said
unfolding refusal_fields
seen_fields name (details.Session id size) (details.Session other count) h = rw h.0 (upload_alike name other size count h.1)
seen_fields name detail said h = ap (refusal_fields name) h

head_alike : (status : ℕ) (own fields : List Field) (media body text : List ℕ) (close : Bool) → own ≡ fields → length body ≡ length text
    → spelled (record { status = status; own = own; media = Some media; size = length body; body = body }) true close
    ≡ spelled (record { status = status; own = fields; media = Some media; size = length text; body = text }) true close
unfolding spelled head_of all_fields shown_body
head_alike status own fields media body text close e l = rw (e, l) refl

pub refused_alike : (name : List ℕ) (status : ℕ) (code : Code) (detail said : Detail) (head close : Bool) → IsDetail detail → IsDetail said → AreDetailsAlike head detail said
    → spelled (parts_of name (replies.Refused status code detail)) head close ≡ spelled (parts_of name (replies.Refused status code said)) head close
unfolding parts_of
refused_alike name status code detail said true close x y h = head_alike status _ _ _ _ _ close (unseen_fields name detail said h) (unseen_size code detail said x y h)
refused_alike name status code detail said false close x y h = rw (seen_fields name detail said h, seen_body code detail said h) refl

page_alike : (name : List ℕ) (next follows : Option (List ℕ)) (n m : ℕ) → ArePagesAlike next n follows m → link_fields name n next ≡ link_fields name m follows
unfolding link_fields
page_alike name None None n m h = refl
page_alike name (Some tag) (Some other) n m h = rw (h.0, h.1) refl
page_alike name None (Some other) n m h = absurd h
page_alike name (Some tag) None n m h = absurd h

alike : (name : List ℕ) (a b : Reply) (head close : Bool) → AreAlike head a b → spelled (parts_of name a) head close ≡ spelled (parts_of name b) head close
unfolding parts_of
alike name (replies.Session id size status) (replies.Session other count code) head close h = rw (h.0, h.2, upload_alike name other size count h.1) refl
alike name (replies.Tags tags next n) (replies.Tags others follows m) head close h = rw (h.0, page_alike name next follows n m h.1) refl
alike name (replies.Refused status code detail) (replies.Refused other reason said) head close h = rw (h.0, h.1) (refused_alike name other reason detail said head close h.2 h.3 h.4)
alike name a b head close h = ap (λ r. spelled (parts_of name r) head close) h

pub alike_bytes : (request : Option Request) (a b : Reply) (head close : Bool) → AreAlike head a b → reply_bytes request a head close ≡ reply_bytes request b head close
unfolding reply_bytes
alike_bytes request a b head close h = alike (name_in request) a b head close h

pub head_and_body : (request : Option Request) (reply : Reply) (head close : Bool) → reply_bytes request reply head close ≡ reply_head request reply close ++ shown_body head (reply_body request reply)
unfolding reply_bytes spelled reply_head reply_body
head_and_body request reply head close = refl

-- ---- the two bodies of a reply

two_bodies : (name : List ℕ) (reply : Reply) → made_body name reply ++ held_body reply ≡ (parts_of name reply).body
unfolding made_body held_body parts_of
two_bodies name replies.Base = append-nil _
two_bodies name (replies.Tags tags next n) = append-nil _
two_bodies name (replies.Refused status code detail) = append-nil _
two_bodies name reply = refl

two_shown : (name : List ℕ) (reply : Reply) (head : Bool) → shown_body head (made_body name reply) ++ shown_body head (held_body reply) ≡ shown_body head (parts_of name reply).body
unfolding shown_body
two_shown name reply true = refl
two_shown name reply false = two_bodies name reply

pub front_and_held : (request : Option Request) (reply : Reply) (head close : Bool) (front : List ℕ) → front ≡ head_of (parts_of (name_in request) reply) close ++ shown_body head (made_body (name_in request) reply)
    → front ++ shown_body head (held_body reply) ≡ reply_bytes request reply head close
unfolding reply_bytes spelled
front_and_held request reply head close front e =
    let name = name_in request in
    ap (λ f. f ++ shown_body head (held_body reply)) e ∙ append_assoc (head_of (parts_of name reply) close) (shown_body head (made_body name reply)) (shown_body head (held_body reply))
    ∙ ap (λ b. head_of (parts_of name reply) close ++ b) (two_shown name reply head)

-- to HEAD the front is the head alone
pub head_alone : (request : Option Request) (reply : Reply) (close : Bool) (front : List ℕ) → front ++ shown_body true (held_body reply) ≡ reply_bytes request reply true close → front ≡ reply_head request reply close
unfolding reply_bytes spelled reply_head shown_body
head_alone request reply close front e = sym (append-nil front) ∙ e ∙ append-nil _
