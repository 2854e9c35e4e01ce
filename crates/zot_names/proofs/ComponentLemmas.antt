-- The reader of a component passes exactly the components.
use Rattle.std.proofs.Common.{◌≡◌, ℕ, ◌==◌, Bool, true, cond, inl, inr, List, [], ◌∷◌, ◌++◌, Some, refl, sym, ap, ◌∙◌, append_assoc, arith, Decides}
use Rattle.std.specs.Prelude.{codes, ◌⊎◌}
use Rattle.std.specs.List.{AllByRecursion, AllPass, flat_map}
use Rattle.std.proofs.lemmas.Bool.{eqb-true, cases_Bool}
use Rattle.std.proofs.lemmas.List.Elements.{All-nil, All-cons, All-head, All-tail}
use Rattle.zot_names.specs.declared.component.Place.{Place}
use Rattle.zot_names.specs.declared.component.Place.TheVariants.{Start, Run, Underscore, Dashes}
use Rattle.zot_names.specs.Name.{AreDashes, IsComponent, IsRun, IsSeparator, is_alphanumeric}
use Rattle.zot_names.specs.Reading.{after_separator, completes, place_after}

-- a separator with a run after it
abbrev IsPair : List ℕ × List ℕ → Type 0
IsPair pair = IsSeparator pair.0 × IsRun pair.1

abbrev spelled : List (List ℕ × List ℕ) → List ℕ
spelled more = flat_map (λ (pair : List ℕ × List ℕ). pair.0 ++ pair.1) more

-- what may follow at each place
abbrev Expected : Place → List ℕ → Type 0
Expected Start text = IsComponent text
Expected Run text = (run : List ℕ) × (more : List (List ℕ × List ℕ)) × AllPass is_alphanumeric run × AllByRecursion IsPair more × (text ≡ run ++ spelled more)
Expected Underscore text = (front : List ℕ) × (rest : List ℕ) × ((front ≡ []) ⊎ (front ≡ codes "_")) × IsComponent rest × (text ≡ front ++ rest)
Expected Dashes text = (front : List ℕ) × (rest : List ℕ) × AllPass (λ c. c == 45) front × IsComponent rest × (text ≡ front ++ rest)

AllPass-cons : (p : ℕ → Bool) (c : ℕ) (xs : List ℕ) → p c ≡ true → AllPass p xs → AllPass p (c ∷ xs)
AllPass-cons p c xs h all = All-cons (λ x. p x ≡ true) c xs h all

-- after a run, a separator and a component go on as the run's component does
after_run : (separator rest text : List ℕ) → IsSeparator separator → IsComponent rest → text ≡ separator ++ rest → Expected Run text
after_run separator rest text is component e =
    let same : text ≡ (separator ++ component.first) ++ spelled component.more =
    e ∙ ap (λ t. separator ++ t) component.spelled ∙ sym (append_assoc separator component.first (spelled component.more)) in
    ([], (separator, component.first) ∷ component.more, All-nil _, ((is, component.run), component.joined), same)

-- a letter or a digit and what follows a run are a component
component_from : (c : ℕ) (rest : List ℕ) → is_alphanumeric c ≡ true → Expected Run rest → IsComponent (c ∷ rest)
component_from c rest a h = record {
  first = c ∷ h.0;
  more = h.1;
  run = record { nonempty = omega arith; bytes = AllPass-cons is_alphanumeric c h.0 a h.2 };
  joined = h.3;
  spelled = ap (λ t. c ∷ t) h.4;
}

of_byte : (place : Place) (c : ℕ) (rest : List ℕ) → is_alphanumeric c ≡ true → Expected Run rest → Expected place (c ∷ rest)
of_byte Start c rest a h = component_from c rest a h
of_byte Run c rest a h = (c ∷ h.0, h.1, AllPass-cons is_alphanumeric c h.0 a h.2, h.3, ap (λ t. c ∷ t) h.4)
of_byte Underscore c rest a h = ([], c ∷ rest, inl refl, component_from c rest a h, refl)
of_byte Dashes c rest a h = ([], c ∷ rest, All-nil _, component_from c rest a h, refl)

-- after `_`
of_underscore : (rest : List ℕ) → Expected Underscore rest → Expected Run (95 ∷ rest)
of_underscore rest (front, after, is, component, e) =
    elim is [
      | inl none ↦ after_run (codes "_") after (95 ∷ rest) (inr (inl refl)) component (ap (λ t. 95 ∷ t) (e ∙ ap (λ t. t ++ after) none))
      | inr one ↦ after_run (codes "__") after (95 ∷ rest) (inr (inr (inl refl))) component (ap (λ t. 95 ∷ t) (e ∙ ap (λ t. t ++ after) one))
    ]

-- after `-`
of_dash : (rest : List ℕ) → Expected Dashes rest → Expected Run (45 ∷ rest)
of_dash rest (front, after, dashes, component, e) =
    after_run (45 ∷ front) after (45 ∷ rest) (inr (inr (inr (record { nonempty = omega arith; bytes = AllPass-cons (λ d. d == 45) 45 front refl dashes })))) component
    (ap (λ t. 45 ∷ t) e)

-- after a byte of a separator
of_separator : (place : Place) (c : ℕ) (rest : List ℕ) → ((p : Place) → completes (Some p) rest ≡ true → Expected p rest)
    → completes (after_separator place c) rest ≡ true → Expected place (c ∷ rest)
of_separator Start c rest ih h = cc h
of_separator Run c rest ih h =
    elim (cases_Bool (c == 46)) [
      | inl dot ↦ let k = rw dot at h in rw (eqb-true c 46 dot) (after_run (codes ".") rest (46 ∷ rest) (inl refl) (ih Start k) refl)
      | inr no_dot ↦
          let h' = rw no_dot at h in
          elim (cases_Bool (c == 95)) [
            | inl low ↦ let k = rw low at h' in rw (eqb-true c 95 low) (of_underscore rest (ih Underscore k))
            | inr no_low ↦
                let h'' = rw no_low at h' in
                elim (cases_Bool (c == 45)) [
                  | inl dash ↦ let k = rw dash at h'' in rw (eqb-true c 45 dash) (of_dash rest (ih Dashes k))
                  | inr no_dash ↦ let k = rw no_dash at h'' in cc k
                ]
          ]
    ]
of_separator Underscore c rest ih h =
    elim (cases_Bool (c == 95)) [
      | inl low ↦ let k = rw low at h in rw (eqb-true c 95 low) (codes "_", rest, inr refl, ih Start k, refl)
      | inr no_low ↦ let k = rw no_low at h in cc k
    ]
of_separator Dashes c rest ih h =
    elim (cases_Bool (c == 45)) [
      | inl dash ↦
          let k = rw dash at h in
          let (front, after, dashes, component, e) = ih Dashes k in
          rw (eqb-true c 45 dash) (45 ∷ front, after, AllPass-cons (λ d. d == 45) 45 front refl dashes, component, ap (λ t. 45 ∷ t) e)
      | inr no_dash ↦ let k = rw no_dash at h in cc k
    ]

after_sound : (place : Place) (c : ℕ) (rest : List ℕ) → ((p : Place) → completes (Some p) rest ≡ true → Expected p rest)
    → completes (place_after place c) rest ≡ true → Expected place (c ∷ rest)
after_sound place c rest ih h =
    elim (cases_Bool (is_alphanumeric c)) [
      | inl byte ↦ let k = rw byte at h in of_byte place c rest byte (ih Run k)
      | inr none ↦ let k = rw none at h in of_separator place c rest ih k
    ]

-- bytes that complete a component are what is expected
completes_sound : (text : List ℕ) (place : Place) → completes (Some place) text ≡ true → Expected place text
completes_sound [] Start h = cc h
completes_sound [] Run h = ([], [], All-nil _, tt, refl)
completes_sound [] Underscore h = cc h
completes_sound [] Dashes h = cc h
completes_sound (c ∷ rest) place h = after_sound place c rest (completes_sound rest) h

-- a letter or a digit leads after it, wherever it stands
byte_passes : (place : Place) (c : ℕ) (rest : List ℕ) → is_alphanumeric c ≡ true → completes (Some place) (c ∷ rest) ≡ completes (Some Run) rest
byte_passes place c rest byte = ap (λ b. completes (cond b (Some Run) (after_separator place c)) rest) byte

-- a run leads after a letter or a digit
run_passes : (run rest : List ℕ) → AllPass is_alphanumeric run → completes (Some Run) (run ++ rest) ≡ completes (Some Run) rest
run_passes [] rest all = refl
run_passes (c ∷ run) rest all =
    byte_passes Run c (run ++ rest) (All-head (λ x. is_alphanumeric x ≡ true) c run all)
    ∙ run_passes run rest (All-tail (λ x. is_alphanumeric x ≡ true) c run all)

run_from : (place : Place) (run rest : List ℕ) → IsRun run → completes (Some place) (run ++ rest) ≡ completes (Some Run) rest
run_from place [] rest is = absurd (omega (arith, is.nonempty))
run_from place (c ∷ run) rest is =
    byte_passes place c (run ++ rest) (All-head (λ x. is_alphanumeric x ≡ true) c run is.bytes)
    ∙ run_passes run rest (All-tail (λ x. is_alphanumeric x ≡ true) c run is.bytes)

dashes_pass : (dashes rest : List ℕ) → AllPass (λ c. c == 45) dashes → completes (Some Dashes) (dashes ++ rest) ≡ completes (Some Dashes) rest
dashes_pass [] rest all = refl
dashes_pass (c ∷ dashes) rest all =
    let dash = eqb-true c 45 (All-head (λ x. (x == 45) ≡ true) c dashes all) in
    rw dash (dashes_pass dashes rest (All-tail (λ x. (x == 45) ≡ true) c dashes all))

dashes_from : (dashes rest : List ℕ) → AreDashes dashes → completes (Some Run) (dashes ++ rest) ≡ completes (Some Dashes) rest
dashes_from [] rest are = absurd (omega (arith, are.nonempty))
dashes_from (c ∷ dashes) rest are =
    let dash = eqb-true c 45 (All-head (λ x. (x == 45) ≡ true) c dashes are.bytes) in
    rw dash (dashes_pass dashes rest (All-tail (λ x. (x == 45) ≡ true) c dashes are.bytes))

-- a separator with a run after it leads after a letter or a digit again
pair_passes : (separator run rest : List ℕ) → IsSeparator separator → IsRun run → completes (Some Run) (separator ++ (run ++ rest)) ≡ completes (Some Run) rest
pair_passes separator run rest is is_run =
    elim is [
      | inl dot ↦ rw dot (run_from Start run rest is_run)
      | inr other ↦
          elim other [
            | inl one ↦ rw one (run_from Underscore run rest is_run)
            | inr other' ↦
                elim other' [
                  | inl two ↦ rw two (run_from Start run rest is_run)
                  | inr dashes ↦ dashes_from separator (run ++ rest) dashes ∙ run_from Dashes run rest is_run
                ]
          ]
    ]

pairs_pass : (more : List (List ℕ × List ℕ)) → AllByRecursion IsPair more → completes (Some Run) (spelled more) ≡ true
pairs_pass [] all = refl
pairs_pass (pair ∷ more) all =
    ap (λ t. completes (Some Run) t) (append_assoc pair.0 pair.1 (spelled more))
    ∙ pair_passes pair.0 pair.1 (spelled more) all.0.0 all.0.1 ∙ pairs_pass more all.1

completes_component : (text : List ℕ) → IsComponent text → completes (Some Start) text ≡ true
completes_component text is =
    ap (λ t. completes (Some Start) t) is.spelled ∙ run_from Start is.first (spelled is.more) is.run ∙ pairs_pass is.more is.joined

-- the reader passes exactly the components
pub component_decides : (text : List ℕ) → Decides (completes (Some Start) text) (IsComponent text)
component_decides text = (completes_sound text Start, completes_component text)
