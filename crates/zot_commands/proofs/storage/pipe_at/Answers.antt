use Rattle.std.proofs.Common.{◌≡◌, Ok, sym, subst}
use Rattle.zot_host.specs.Configured.{Gives}
use Rattle.zot_commands.proofs.StorageLemmas.{pipes_before}
use Rattle.zot_commands.specs.Storage.{seen}
use Rattle.zot_commands.proofs.storage.pipe_at.Goals as goal

pub returns-in-Ok-clause-ends : goal.returns-in-Ok-clause-ends
returns-in-Ok-clause-ends g c =
    pipes_before g.H.S.Store (g.H.Host.files c.args.host.now) c.args.path.now c.args.member (g.H.Host.moment c.args.host.now) (g.H.Host.files c.configuration.new.host) (g.H.Host.moment c.configuration.new.host)
    (g.H.Host.parts c.args.host.now) (g.H.Host.parts c.configuration.new.host) (g.H.Host.kept c.args.host.now) (g.H.Host.kept c.configuration.new.host) (g.C.Source.left c.args.input.now) (g.K.Sink.held c.args.output.now)
    (seen (g.H.Host.parts c.pipe_member.new.host) (g.H.Host.kept c.pipe_member.new.host) (g.C.Source.left c.pipe_member.new.input) (g.K.Sink.held c.pipe_member.new.output))
    (c.pipe_member.new.input ≡ c.args.input.now × c.pipe_member.new.output ≡ c.args.output.now) c.pipe_member.result
    c.in-Ok.ensures.files c.in-Ok.ensures.moment c.in-Ok.ensures.parts c.in-Ok.ensures.kept
    (c.pipe_member.ensures.ends c.args.path.now (subst (λ f. Gives f c.args.path.now (Ok c.in-Ok.config)) (sym c.in-Ok.ensures.files) c.in-Ok.ensures.config))
