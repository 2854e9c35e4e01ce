use Rattle.std.proofs.Common.{subst}
use Rattle.zot_contents.proofs.PlaceLemmas.{cut_path, none_named, none_uncut, uncut_path}
use Rattle.zot_contents.specs.Places.{IsDigestOf}
use Rattle.zot_contents.proofs.places.place_of.Goals as goal

pub returns-in_default : goal.returns-in_default
returns-in_default c = none_uncut c.args.path.now (uncut_path c.args.path.now c.in_default.ensures.cases)

pub returns-in-None : goal.returns-in-None
returns-in-None c =
    let cut = cut_path c.args.path.now c.in-Some.folder.now c.in-Some.digits.now c.in-Some.ensures.cases in
    none_named c.args.path.now c.in-Some.folder.now c.in-Some.digits.now cut.0 cut.1 (subst (IsDigestOf c.in-Some.digits.now) c.in-None.is c.in_ok-digest.ensures)
