-- Texts written one after another.
use Rattle.std.proofs.Common.{◌≡◌, ℕ, ◌-◌, ◌≤◌, arith, List, [], ◌∷◌, ◌++◌, length, get_or, take, drop, Bor, Option, sym, ap, ◌∙◌}
use Rattle.std.specs.Prelude.{OnErr, OnOk, Result, Ok, Err}
use Rattle.std.proofs.lemmas.List.{append_assoc, take_all}
use Rattle.zot_outside.proofs.StreamLemmas.{Appends-append}
use Rattle.zot_outside.specs.Streams.{Appends}
use Rattle.zot_session.specs.Sending.{WritesPart}
use Rattle.zot_commands.specs.Program.{joined}

-- a part of the first text is a part of both
part_of_both : (before after : Option (List ℕ)) (first second text : List ℕ) → text ≡ first ++ second → WritesPart before first after → WritesPart before text after
part_of_both before after first second text is h = record {
  part = h.part;
  lost = h.lost ++ second;
  whole = is ∙ ap (λ t. t ++ second) h.whole ∙ append_assoc h.part h.lost second;
  written = h.written;
}

-- the first text and a part of the second are a part of both
part_after : (before mid after : Option (List ℕ)) (first second text : List ℕ) → text ≡ first ++ second → Appends before first mid → WritesPart mid second after
    → WritesPart before text after
part_after before mid after first second text is h k = record {
  part = first ++ k.part;
  lost = k.lost;
  whole = is ∙ ap (λ t. first ++ t) k.whole ∙ sym (append_assoc first k.part k.lost);
  written = Appends-append before mid after first k.part h k.written;
}

pub on_err : {T E : Type 0} (r : Result T E) (P Q : Type 0) → (P → Q) → OnErr r P → OnErr r Q
on_err (Ok x) P Q f h = tt
on_err (Err e) P Q f h = f h

pub on_ok : {T E : Type 0} (r : Result T E) (P Q : Type 0) → (P → Q) → OnOk r P → OnOk r Q
on_ok (Ok x) P Q f h = f h
on_ok (Err e) P Q f h = tt

pub whole_err : {T E : Type 0} (r : Result T E) (P : Type 0) → P → OnErr r P
whole_err (Ok x) P h = tt
whole_err (Err e) P h = h

-- what is left of some texts after the first
abbrev pub others_of : List (Bor (List ℕ)) → List (Bor (List ℕ))
others_of texts = take (length texts - 1) (drop 1 texts)

-- the first of some texts, and then the others
joined_first : (texts : List (Bor (List ℕ))) (d : Bor (List ℕ)) → 1 ≤ length texts → joined texts ≡ (get_or texts 0 d).now ++ joined (others_of texts)
joined_first [] d some = absurd (omega arith)
joined_first (text ∷ texts) d some = ap (λ (r : List (Bor (List ℕ))). text.now ++ joined r) (sym (take_all (length (text ∷ texts) - 1) texts (omega arith)))

-- a part of the first text is a part of all
pub first_part : (texts : List (Bor (List ℕ))) (d : Bor (List ℕ)) (before after : Option (List ℕ)) → 1 ≤ length texts → WritesPart before (get_or texts 0 d).now after → WritesPart before (joined texts) after
first_part texts d before after some h = part_of_both before after (get_or texts 0 d).now (joined (others_of texts)) (joined texts) (joined_first texts d some) h

-- the first text and a part of the others are a part of all
pub later_part : (texts : List (Bor (List ℕ))) (d : Bor (List ℕ)) (before mid after : Option (List ℕ)) → 1 ≤ length texts → Appends before (get_or texts 0 d).now mid
    → WritesPart mid (joined (others_of texts)) after → WritesPart before (joined texts) after
later_part texts d before mid after some h k = part_after before mid after (get_or texts 0 d).now (joined (others_of texts)) (joined texts) (joined_first texts d some) h k
