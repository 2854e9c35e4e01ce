use Rattle.std.proofs.Common.{rules, ◌≡◌, ◌≢◌, length, max, string_bytes, subst, sym}
use Rattle.std.specs.List.{AllWithin}
use Rattle.std.specs.declared.cmp.Ordering.TheVariants.{Less}
use Rattle.zot_folder.proofs.HeldLemmas.{Shown, noted_early, noted_late}
use Rattle.zot_outside.specs.Objects.{path_cmp}
use Rattle.zot_folder.proofs.walk.Walk.note.Goals as goal

pub returns-then-is_less : goal.returns-then-is_less
returns-then-is_less c = λ old now others walk.
    let self = c.args.self.now in
    let low : c.max-self.result ≡ max self.stale c.last_above.result = search rules in
    subst (λ n. AllWithin (Shown now (string_bytes self.since)) self.listings.items n (length self.listings.items)) (sym low) (noted_early old now c.args.path.now self c.last_above.result others (search rules) walk)

pub returns-else-is_less : goal.returns-else-is_less
returns-else-is_less c = λ old now others walk.
    let late : path_cmp (string_bytes c.args.self.now.since) c.args.path.now ≢ Less = search rules in
    noted_late old now c.args.path.now c.args.self.now others late walk
