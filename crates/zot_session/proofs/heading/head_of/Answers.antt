use Rattle.std.proofs.Common.{◌≤◌, length, take, sym, ap, subst, arith}
use Rattle.std.proofs.lemmas.List.{length-take}
use Rattle.std.specs.Prelude.{Err}
use Rattle.zot_head.specs.Front.{IsCrowded, IsHead, IsNoHead}
use Rattle.zot_session.specs.declared.heading.Heading.TheVariants as headings
use Rattle.zot_session.proofs.HeadingLemmas.{crowded_head, head_within, heading_cut, invalid_head}
use Rattle.zot_session.proofs.ReceiveLemmas.{passes, refused_is}
use Rattle.zot_session.proofs.heading.head_of.Goals as goal

pub slice_bounds-read_head-end : goal.slice_bounds-read_head-end
slice_bounds-read_head-end c =
    let within : c.args.n ≤ length c.waiting.result.now = subst (λ b. c.args.n ≤ length b) (sym c.waiting.ensures) (head_within c.args.inbox.now.bytes c.args.n c.requires) in
    let cut = length-take c.args.n c.waiting.result.now in
    omega arith

pub pass-requires : goal.pass-requires
pass-requires c = head_within c.args.inbox.now.bytes c.args.n c.requires

pub returns-in-Ok : goal.returns-in-Ok
returns-in-Ok c =
    let is : IsHead (take c.args.n c.args.inbox.now.bytes) c.in-Ok.head = subst (λ b. IsHead (take c.args.n b) c.in-Ok.head) c.waiting.ensures c.in-Ok.ensures.head in record {
      text = take c.args.n c.args.inbox.now.bytes;
      heading = heading_cut c.args.inbox.now.bytes c.args.n c.in-Ok.head c.requires is;
      bytes = passes c.args.inbox.now c.pass.new.self c.args.n c.pass.ensures.bytes;
      taken = c.pass.ensures.taken;
      held = c.pass.ensures.held;
    }

pub returns-in-Err-Bad : goal.returns-in-Err-Bad
returns-in-Err-Bad c =
    let none = c.in-Err-Bad.ensures.bad (ap Err c.in-Err-Bad.field-0-is) in
    let is : IsNoHead (take c.args.n c.args.inbox.now.bytes) = subst (λ b. IsNoHead (take c.args.n b)) c.waiting.ensures none in
    refused_is _ _ c.args.inbox.now (ap headings.Refused c.head_invalid.ensures) (invalid_head c.args.inbox.now.bytes c.args.n c.requires is)

pub returns-in-Err-TooLong : goal.returns-in-Err-TooLong
returns-in-Err-TooLong c =
    let many = c.in-Err-TooLong.ensures.too_long.0 (ap Err c.in-Err-TooLong.field-0-is) in
    let is : IsCrowded (take c.args.n c.args.inbox.now.bytes) = subst (λ b. IsCrowded (take c.args.n b)) c.waiting.ensures many in
    refused_is _ _ c.args.inbox.now (ap headings.Refused c.head_too_long.ensures) (crowded_head c.args.inbox.now.bytes c.args.n c.requires is)
