use Rattle.std.proofs.Common.{◌≡◌, ◌+◌, length, Some, sym, subst}
use Rattle.std.specs.Prelude.{IfErr, IfOk, OnOk}
use Rattle.zot_maps.proofs.Maps.{found_at, number_order}
use Rattle.zot_uploads.proofs.TableLemmas.{not_put, put}
use Rattle.zot_uploads.specs.Cases.{IsTaken, Refuses}
use Rattle.zot_model.specs.Uploads.{bytes_of}
use Rattle.zot_uploads.proofs.upload_map.UploadMap.append.Goals as goal

pub returns-in_default-clause-refused : goal.returns-in_default-clause-refused
returns-in_default-clause-refused c = found_at number_order c.self.inside.tree.entries c.args.self.now c.args.id _ c.self.view_is c.in_default.ensures.value

pub returns-clause-taken : goal.returns-clause-taken
returns-clause-taken c =
    subst (λ o. OnOk c.append.result (IsTaken o c.args.range c.args.piece.now))
    (sym (found_at number_order c.self.inside.tree.entries c.args.self.now c.args.id (Some c.in-Some.upload.now) c.self.view_is c.in-Some.ensures.value)) c.append.ensures.taken

pub returns-clause-length : goal.returns-clause-length
returns-clause-length c =
    subst (λ o. IfOk c.append.result (λ n. n ≡ length (bytes_of o) + length c.args.piece.now))
    (sym (found_at number_order c.self.inside.tree.entries c.args.self.now c.args.id (Some c.in-Some.upload.now) c.self.view_is c.in-Some.ensures.value)) c.append.ensures.length

pub returns-clause-ok : goal.returns-clause-ok
returns-clause-ok c =
    put c.append.result c.self.inside.tree.entries (c.get_mut.follows.lender c.append.new.self).entries c.args.self.now c.args.id c.in-Some.upload.now c.append.new.self c.args.piece.now
    c.self.view_is c.in-Some.ensures.value (c.get_mut.follows.holds c.append.new.self).3 c.append.ensures.ok

pub returns-clause-refused : goal.returns-clause-refused
returns-clause-refused c =
    subst (λ o. IfErr c.append.result (Refuses o c.args.range c.args.piece.now))
    (sym (found_at number_order c.self.inside.tree.entries c.args.self.now c.args.id (Some c.in-Some.upload.now) c.self.view_is c.in-Some.ensures.value)) c.append.ensures.refused

pub returns-clause-stays : goal.returns-clause-stays
returns-clause-stays c =
    not_put c.append.result c.self.inside.tree.entries (c.get_mut.follows.lender c.append.new.self).entries c.args.self.now c.args.id c.in-Some.upload.now c.append.new.self
    c.self.view_is c.in-Some.ensures.value (c.get_mut.follows.holds c.append.new.self).3 c.append.ensures.stays
