use Rattle.zot_uploads.proofs.TableLemmas.{is_no_uploads, isnt_no_uploads}
use Rattle.zot_uploads.proofs.uploads.Uploads.is_fresh.Goals as goal

pub returns-then-self-eq0-clause-fresh : goal.returns-then-self-eq0-clause-fresh
returns-then-self-eq0-clause-fresh c = λ h. is_no_uploads c.self.inside.uploads c.self.inside.opened c.len.result c.args.self.now c.self.view_is c.if-self-eq0.true c.len.ensures h

pub returns-then-self-eq0-clause-other : goal.returns-then-self-eq0-clause-other
returns-then-self-eq0-clause-other c = λ h. isnt_no_uploads c.self.inside.uploads c.self.inside.opened c.len.result c.args.self.now c.self.view_is c.len.ensures h
