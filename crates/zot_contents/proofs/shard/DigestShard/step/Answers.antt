use Rattle.std.proofs.Common.{◌∙◌, ap, sym, subst}
use Rattle.std.specs.Prelude.{option_map}
use Rattle.zot_outside.specs.Objects.{Told}
use Rattle.zot_links.specs.Meaning.{held}
use Rattle.zot_contents.proofs.AnswerLemmas.{answered, attach_answers, detach_answers, holdings_answers, looked, looked_err, mount_answers, read_answers}
use Rattle.zot_contents.specs.Pool.{MayAnswer, content_of, size_of}
use Rattle.zot_contents.specs.declared.pool_call.PoolCall.TheVariants as calls
use Rattle.zot_contents.specs.declared.pool_reply.PoolReply.TheVariants as replies
use Rattle.zot_contents.proofs.shard.DigestShard.step.Goals as goal

pub returns-in-Holdings-clause-answer : goal.returns-in-Holdings-clause-answer
returns-in-Holdings-clause-answer g c =
    let before = g.S.Store.objects c.args.self.now.part in
    let after = g.S.Store.objects c.holdings.new.self.part in
    let low = g.S.Store.faults c.args.self.now.part in
    let high = g.S.Store.faults c.holdings.new.self.part in
    let number = c.args.self.now.number in
    subst (λ call. Told before after (λ old new. MayAnswer number (record { held = held old; faults = low }) call c.listed.result (record { held = held new; faults = high }))) (sym c.in-Holdings.is)
    (answered (λ l. replies.Held l.items) c.holdings.result c.listed.result number calls.Holdings before after low high c.listed.ensures
    (looked low high c.holdings.result c.holdings.ensures.cause) (holdings_answers (λ l. l.items) c.holdings.result number before after c.holdings.ensures.kept c.holdings.ensures.ok)
    (looked_err c.holdings.result before after c.holdings.ensures.kept))

pub returns-in-Attach-clause-answer : goal.returns-in-Attach-clause-answer
returns-in-Attach-clause-answer g c =
    let before = g.S.Store.objects c.args.self.now.part in
    let after = g.S.Store.objects c.attach.new.self.part in
    let low = g.S.Store.faults c.args.self.now.part in
    let high = g.S.Store.faults c.attach.new.self.part in
    let number = c.args.self.now.number in
    let name = c.in-Attach.name in
    let digest = c.in-Attach.digest in
    let bytes = c.as_slice.result.now in
    subst (λ call. Told before after (λ old new. MayAnswer number (record { held = held old; faults = low }) call c.done.result (record { held = held new; faults = high }))) (sym (c.in-Attach.is ∙ ap (calls.Attach name digest) (sym c.as_slice.ensures)))
    (answered (λ _. replies.Done) c.attach.result c.done.result number (calls.Attach name digest bytes) before after low high c.done.ensures c.attach.ensures.cause
    (attach_answers c.attach.result number before after name digest bytes c.attach.ensures.ok) c.attach.ensures.err)

pub returns-in-Mount-clause-answer : goal.returns-in-Mount-clause-answer
returns-in-Mount-clause-answer g c =
    let before = g.S.Store.objects c.args.self.now.part in
    let after = g.S.Store.objects c.mount.new.self.part in
    let low = g.S.Store.faults c.args.self.now.part in
    let high = g.S.Store.faults c.mount.new.self.part in
    let number = c.args.self.now.number in
    let name = c.in-Mount.name in
    let from = c.in-Mount.from in
    let digest = c.in-Mount.digest in
    subst (λ call. Told before after (λ old new. MayAnswer number (record { held = held old; faults = low }) call c.sized.result (record { held = held new; faults = high }))) (sym c.in-Mount.is)
    (answered size_of c.mount.result c.sized.result number (calls.Mount name from digest) before after low high c.sized.ensures c.mount.ensures.cause
    (mount_answers size_of c.mount.result number before after name from digest c.mount.ensures.ok) c.mount.ensures.err)

pub returns-in-Read-clause-answer : goal.returns-in-Read-clause-answer
returns-in-Read-clause-answer g c =
    let before = g.S.Store.objects c.args.self.now.part in
    let after = g.S.Store.objects c.read.new.self.part in
    let low = g.S.Store.faults c.args.self.now.part in
    let high = g.S.Store.faults c.read.new.self.part in
    let number = c.args.self.now.number in
    let name = c.in-Read.name in
    let digest = c.in-Read.digest in
    subst (λ call. Told before after (λ old new. MayAnswer number (record { held = held old; faults = low }) call c.content.result (record { held = held new; faults = high }))) (sym c.in-Read.is)
    (answered (λ f. content_of (option_map (λ v. v.items) f)) c.read.result c.content.result number (calls.Read name digest) before after low high c.content.ensures
    (looked low high c.read.result c.read.ensures.cause) (read_answers (option_map (λ v. v.items)) c.read.result number before after name digest c.read.ensures.kept c.read.ensures.ok)
    (looked_err c.read.result before after c.read.ensures.kept))

pub returns-in-Detach-clause-answer : goal.returns-in-Detach-clause-answer
returns-in-Detach-clause-answer g c =
    let before = g.S.Store.objects c.args.self.now.part in
    let after = g.S.Store.objects c.detach.new.self.part in
    let low = g.S.Store.faults c.args.self.now.part in
    let high = g.S.Store.faults c.detach.new.self.part in
    let number = c.args.self.now.number in
    let name = c.in-Detach.name in
    let digest = c.in-Detach.digest in
    subst (λ call. Told before after (λ old new. MayAnswer number (record { held = held old; faults = low }) call c.removed.result (record { held = held new; faults = high }))) (sym c.in-Detach.is)
    (answered replies.Removed c.detach.result c.removed.result number (calls.Detach name digest) before after low high c.removed.ensures c.detach.ensures.cause
    (detach_answers replies.Removed c.detach.result number before after name digest c.detach.ensures.ok) c.detach.ensures.err)
