use Rattle.std.proofs.Common.{◌≡◌, ℕ, true, None, IfSome, subst, sym}
use Rattle.zot_folder.proofs.TreeLemmas.{removed}
use Rattle.zot_folder.specs.Paths.{is_object_path}
use Rattle.zot_folder.specs.Trees.{Becomes, HasSizeOrNone, objects_of}
use Rattle.zot_outside.specs.Objects.{Deletes}
use Rattle.zot_folder.proofs.writing.remove_object.Goals as goal

pub returns-in_ok-remove-in-Some-clause-removed : goal.returns-in_ok-remove-in-Some-clause-removed
returns-in_ok-remove-in-Some-clause-removed g c =
    let files = g.T.Tree.files in
    let path = c.args.path.now in
    let before = files c.args.tree.now in
    let after = files c.remove.new.self in
    let size = subst (λ f. HasSizeOrNone (objects_of before) path f) c.in-Some.is c.in_ok-object_size.ensures.size in
    let named = subst (λ f. IfSome f (λ (_ : ℕ). is_object_path path ≡ true)) c.in-Some.is c.in_ok-object_size.ensures.named in
    let gone : Becomes before path None after = subst (λ t. Becomes t path None after) c.in_ok-object_size.ensures.kept c.in_ok-remove-in-Some.ensures.ok in
    subst (λ t. Deletes (objects_of before) path (objects_of t)) (sym c.tidy.ensures) (removed before after path c.in-Some.field-0 named size gone)
