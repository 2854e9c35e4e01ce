use Rattle.std.proofs.Common.{rules, ◌≡◌, ◌∷◌, ◌++◌, [], ap, drop, sym, take, true, ◌∙◌}
use Rattle.std.proofs.lemmas.List.{take-append-drop}
use Rattle.zot_folder.proofs.PrefixLemmas.{prefix_rest}
use Rattle.zot_folder.specs.Walks.{is_prefix}
use Rattle.zot_folder.proofs.folders.front.Goals as goal

pub returns-in-Some : goal.returns-in-Some
returns-in-Some c =
    let path = c.args.path.now in
    let end = c.args.end in
    let front = c.in-Some.front.now in
    let slash : is_prefix (47 ∷ []) c.in-Some.rest.now ≡ true = search rules in
    let more = prefix_rest (47 ∷ []) c.in-Some.rest.now slash in
    (more.0, sym (take-append-drop end path) ∙ ap (λ l. l ++ drop end path) (sym c.in-Some.ensures.front) ∙ ap (λ l. front ++ l) (sym c.in-Some.ensures.back ∙ more.1), c.in-Some.ensures.front_len)
