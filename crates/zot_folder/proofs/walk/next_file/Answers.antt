use Rattle.std.proofs.Common.{◌≡◌, ◌∙◌, IfSome, Some, ap, inl, option_map, refl, string_bytes, subst, sym}
use Rattle.zot_folder.proofs.FolderLemmas.{bound_kept, itself_not_greater}
use Rattle.zot_folder.proofs.NextLemmas.{Stands, ends_above, less_of_above, stands_first, stands_next, stands_on, stands_read, told_always, told_both, told_follows}
use Rattle.zot_folder.specs.Held.{IsWalkOf}
use Rattle.zot_folder.specs.Steps.{IsStepAbove, Leads}
use Rattle.zot_folder.specs.Trees.{objects_of}
use Rattle.zot_folder.specs.declared.walk.Walk.{Walk}
use Rattle.zot_folder.specs.declared.spot.Step.TheVariants.{Folder, Unread}
use Rattle.zot_outside.specs.Objects.{Follows, Keeps}
use Rattle.zot_folder.proofs.walk.next_file.Goals as goal
use Rattle.zot_folder.proofs.walk.next_file.Goals.{in-Unread+in_ok-read-in-Unread, in-Folder}

pub returns-in_err-spot-clause-walk : goal.returns-in_err-spot-clause-walk
returns-in_err-spot-clause-walk g c = told_always (objects_of (g.T.Tree.files c.args.tree.now)) (λ objects. IsWalkOf objects c.args.walk.now → IsWalkOf objects c.begin.new.self) c.begin.ensures.walk

pub loop-init : goal.loop-init
loop-init g c =
    let spot = c.in_ok-spot.spot in
    let begun = c.in_ok-spot.ensures in
    (refl, begun.since, itself_not_greater c.args.after.now (string_bytes spot.bound) begun.bound, stands_first (g.T.Tree.files c.args.tree.now) c.args.after.now spot c.args.walk.now c.begin.new.self begun.bound begun.folder begun.walk)

pub returns-in_err-step-clause-walk : goal.returns-in_err-step-clause-walk
returns-in_err-step-clause-walk g c =
    told_follows (objects_of (g.T.Tree.files c.args.tree.now)) (Stands c.args.walk.now c.args.after.now c.loop.spot c.loop.walk) (λ objects. IsWalkOf objects c.args.walk.now → IsWalkOf objects c.step.new.self)
    (λ objects stands h. c.step.ensures.walk objects (stands h).0) c.loop.invariant.3

pub returns-in_err-read-in-Unread-clause-walk : goal.returns-in_err-read-in-Unread-clause-walk
returns-in_err-read-in-Unread-clause-walk g c =
    let read = subst (λ files. IfSome (objects_of files) (λ objects. IsWalkOf objects c.step.new.self → IsWalkOf objects c.read.new.walk)) c.loop.invariant.0 c.read.ensures.walk in
    told_both (objects_of (g.T.Tree.files c.args.tree.now)) (Stands c.args.walk.now c.args.after.now c.loop.spot c.loop.walk) (λ objects. IsWalkOf objects c.step.new.self → IsWalkOf objects c.read.new.walk)
    (λ objects. IsWalkOf objects c.args.walk.now → IsWalkOf objects c.read.new.walk) (λ objects stands added h. added (c.step.ensures.walk objects (stands h).0)) c.loop.invariant.3 read

pub found-requires : goal.found-requires
found-requires g c =
    let above = ends_above c.args.after.now c.loop.spot c.step.new.spot c.in_ok-step.field-0 c.in-End.found c.loop.invariant.2 c.in_ok-step.ensures.step c.in-End.is in
    less_of_above c.args.after.now (string_bytes c.step.new.self.since) c.in-End.found (ap string_bytes c.in_ok-step.ensures.since ∙ c.loop.invariant.1) above

pub returns-in_err-found-in-End-clause-walk : goal.returns-in_err-found-in-End-clause-walk
returns-in_err-found-in-End-clause-walk g c =
    told_follows (objects_of (g.T.Tree.files c.args.tree.now)) (Stands c.args.walk.now c.args.after.now c.loop.spot c.loop.walk) (λ objects. IsWalkOf objects c.args.walk.now → IsWalkOf objects c.found.new.self)
    (λ objects stands h. c.found.ensures.walk objects (c.step.ensures.walk objects (stands h).0)) c.loop.invariant.3

pub returns-in-End-clause-walk : goal.returns-in-End-clause-walk
returns-in-End-clause-walk g c =
    told_follows (objects_of (g.T.Tree.files c.args.tree.now)) (Stands c.args.walk.now c.args.after.now c.loop.spot c.loop.walk) (λ objects. IsWalkOf objects c.args.walk.now → IsWalkOf objects c.found.new.self)
    (λ objects stands h. c.found.ensures.walk objects (c.step.ensures.walk objects (stands h).0)) c.loop.invariant.3

pub returns-in-End-clause-next : goal.returns-in-End-clause-next
returns-in-End-clause-next g c =
    let files = g.T.Tree.files c.args.tree.now in
    let after = c.args.after.now in
    let led = stands_next files after c.loop.spot c.step.new.spot c.args.walk.now c.loop.walk c.step.new.self c.in_ok-step.field-0 c.loop.invariant.1 c.loop.invariant.3 c.in_ok-step.ensures.leads c.in_ok-step.ensures.walk in
    told_follows (objects_of files) (λ objects. IsWalkOf objects c.args.walk.now → IsWalkOf objects c.step.new.self × Leads objects after c.in_ok-step.field-0 c.step.new.spot)
    (λ objects. IsWalkOf objects c.args.walk.now → Follows (Some objects) after (option_map string_bytes c.in-End.found))
    (λ objects at h. subst (λ s. Leads objects after s c.step.new.spot) c.in-End.is (at h).1) led

pub returns-in-End-clause-above : goal.returns-in-End-clause-above
returns-in-End-clause-above g c = ends_above c.args.after.now c.loop.spot c.step.new.spot c.in_ok-step.field-0 c.in-End.found c.loop.invariant.2 c.in_ok-step.ensures.step c.in-End.is

pub loop-preserved : goal.loop-preserved
loop-preserved g c =
    let files = g.T.Tree.files in
    let told = files c.args.tree.now in
    let after = c.args.after.now in
    let next = c.step.new.spot in
    let before = c.args.walk.now in
    let led = stands_next told after c.loop.spot next before c.loop.walk c.step.new.self c.in_ok-step.field-0 c.loop.invariant.1 c.loop.invariant.3 c.in_ok-step.ensures.leads c.in_ok-step.ensures.walk in
    let since : string_bytes c.step.new.self.since ≡ after = ap string_bytes c.in_ok-step.ensures.since ∙ c.loop.invariant.1 in
    elim c.match-branch-3.branch [
      | in-Unread+in_ok-read-in-Unread w ↦
          let read = subst (λ f. IfSome (objects_of f) (λ objects. IsWalkOf objects c.step.new.self → IsWalkOf objects w.read.new.walk)) c.loop.invariant.0 w.read.ensures.walk in (
            subst (λ t. Keeps told (files t)) (sym w.tree-is) (w.read.ensures.kept ∙ c.loop.invariant.0),
            ap (λ (x : Walk). string_bytes x.since) w.walk-is ∙ ap string_bytes w.read.ensures.since ∙ since,
            bound_kept after (string_bytes c.loop.spot.bound) (string_bytes next.bound) c.loop.invariant.2 (inl (subst (λ s. IsStepAbove c.loop.spot s next) w.in-Unread.is c.in_ok-step.ensures.step)),
            subst (λ x. IfSome (objects_of told) (Stands before after next x)) (sym w.walk-is)
                (stands_read told after next before c.step.new.self w.read.new.walk (stands_on told after next before c.step.new.self c.in_ok-step.field-0 Unread w.in-Unread.is led) read),
          )
      | in-Folder w ↦ (
        subst (λ t. Keeps told (files t)) (sym w.tree-is) c.loop.invariant.0,
        ap (λ (x : Walk). string_bytes x.since) w.walk-is ∙ since,
        bound_kept after (string_bytes c.loop.spot.bound) (string_bytes next.bound) c.loop.invariant.2 (subst (λ s. IsStepAbove c.loop.spot s next) w.in-Folder.is c.in_ok-step.ensures.step),
        subst (λ x. IfSome (objects_of told) (Stands before after next x)) (sym w.walk-is) (stands_on told after next before c.step.new.self c.in_ok-step.field-0 Folder w.in-Folder.is led),
      )
    ]

pub returns-clause-walk : goal.returns-clause-walk
returns-clause-walk g c =
    told_follows (objects_of (g.T.Tree.files c.args.tree.now)) (Stands c.args.walk.now c.args.after.now c.loop.spot c.loop.walk) (λ objects. IsWalkOf objects c.args.walk.now → IsWalkOf objects c.loop.walk)
    (λ objects stands h. (stands h).0) c.loop.invariant.3
