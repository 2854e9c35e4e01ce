-- The segments of a name joined by slashes.
use Rattle.std.proofs.Common.{◌≡◌, ℕ, List, [], ◌∷◌, ◌++◌, sym, ap, ◌∙◌}
use Rattle.std.proofs.lemmas.List.{append-nil, append_assoc}
use Rattle.std.specs.List.{join_with_byte}
use Rattle.zot_names.specs.Name.{slash}

-- segments, each after a slash
abbrev pub after_slashes : List (List ℕ) → List ℕ
after_slashes [] = []
after_slashes (segment ∷ segments) = (slash ∷ []) ++ (segment ++ after_slashes segments)

pub join_after_slashes : (segment : List ℕ) (segments : List (List ℕ)) → join_with_byte slash (segment ∷ segments) ≡ segment ++ after_slashes segments
join_after_slashes segment [] = sym (append-nil segment)
join_after_slashes segment (next ∷ segments) = ap (λ t. segment ++ (slash ∷ t)) (join_after_slashes next segments)

pub join_first : (segments more : List (List ℕ)) (first before text : List ℕ) → segments ≡ first ∷ more → before ≡ [] → text ≡ before ++ first
    → join_with_byte slash segments ≡ text ++ after_slashes more
join_first segments more first before text e f g =
    ap (join_with_byte slash) e ∙ join_after_slashes first more ∙ ap (λ t. t ++ after_slashes more) (sym (g ∙ ap (λ b. b ++ first) f))

pub join_next : (all text slashed after : List ℕ) (here rest : List (List ℕ)) (segment : List ℕ) → all ≡ text ++ after_slashes here → here ≡ segment ∷ rest
    → slashed ≡ text ++ (slash ∷ []) → after ≡ slashed ++ segment → all ≡ after ++ after_slashes rest
join_next all text slashed after here rest segment e f g h =
    let shown : all ≡ text ++ ((slash ∷ []) ++ (segment ++ after_slashes rest)) = e ∙ ap (λ p. text ++ after_slashes p) f in
    let one : text ++ ((slash ∷ []) ++ (segment ++ after_slashes rest)) ≡ (text ++ (slash ∷ [])) ++ (segment ++ after_slashes rest) = sym (append_assoc text (slash ∷ []) (segment ++ after_slashes rest)) in
    let two : (text ++ (slash ∷ [])) ++ (segment ++ after_slashes rest) ≡ ((text ++ (slash ∷ [])) ++ segment) ++ after_slashes rest = sym (append_assoc (text ++ (slash ∷ [])) segment (after_slashes rest)) in
    let whole : (text ++ (slash ∷ [])) ++ segment ≡ after = ap (λ s. s ++ segment) (sym g) ∙ sym h in
    shown ∙ one ∙ two ∙ ap (λ t. t ++ after_slashes rest) whole

pub join_last : (all text : List ℕ) (here : List (List ℕ)) → all ≡ text ++ after_slashes here → here ≡ [] → text ≡ all
join_last all text here e f = sym (e ∙ ap (λ p. text ++ after_slashes p) f ∙ append-nil text)
