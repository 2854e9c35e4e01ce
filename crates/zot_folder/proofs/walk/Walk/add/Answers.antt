use Rattle.std.proofs.Common.{rules, ◌≡◌, List, length, min, string_bytes, subst, sym}
use Rattle.std.specs.List.{AllWithin}
use Rattle.zot_folder.proofs.HeldLemmas.{Shown, within_min, within_more}
use Rattle.zot_folder.specs.declared.listing.Listing.{Listing}
use Rattle.zot_folder.proofs.walk.Walk.add.Goals as goal

pub returns-in_err-push-clause-walk : goal.returns-in_err-push-clause-walk
returns-in_err-push-clause-walk c = λ objects one walk.
    let items = c.args.self.now.listings.items in
    let P = Shown objects (string_bytes c.args.self.now.since) in
    let low : c.min-self.result ≡ min c.args.self.now.stale (length items) = search rules in
    subst (λ n. AllWithin P c.push.new.self.items n (length c.push.new.self.items)) (sym low)
    (subst (λ (xs : List Listing). AllWithin P xs (min c.args.self.now.stale (length items)) (length xs)) (sym c.in_err-push.ensures.items) (within_min P items c.args.self.now.stale walk))

pub returns-clause-walk : goal.returns-clause-walk
returns-clause-walk c = λ objects one walk.
    let items = c.args.self.now.listings.items in
    let P = Shown objects (string_bytes c.args.self.now.since) in
    let low : c.min-self.result ≡ min c.args.self.now.stale (length items) = search rules in
    subst (λ n. AllWithin P c.push.new.self.items n (length c.push.new.self.items)) (sym low)
    (subst (λ (xs : List Listing). AllWithin P xs (min c.args.self.now.stale (length items)) (length xs)) (sym c.in_ok-push.ensures.items) (within_more P items c.args.listing c.args.self.now.stale walk one))
