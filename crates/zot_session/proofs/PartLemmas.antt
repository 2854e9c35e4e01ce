-- What was written of a text, by what was written of its two parts.
use Rattle.std.proofs.Common.{ℕ, List, ◌++◌, Option, sym, ap, ◌∙◌}
use Rattle.std.specs.Prelude.{Err, Ok, OnErr, Result}
use Rattle.std.proofs.lemmas.List.{append_assoc}
use Rattle.zot_outside.specs.Streams.{Appends}
use Rattle.zot_outside.proofs.StreamLemmas.{Appends-append}
use Rattle.zot_session.specs.Sending.{WritesPart}

-- a text of which the first part was written whole, and of the second a part
pub part_after : (first second : List ℕ) (before mid after : Option (List ℕ)) → Appends before first mid → WritesPart mid second after → WritesPart before (first ++ second) after
part_after first second before mid after h w = record {
  part = first ++ w.part;
  lost = w.lost;
  whole = ap (λ t. first ++ t) w.whole ∙ sym (append_assoc first w.part w.lost);
  written = Appends-append before mid after first w.part h w.written;
}

-- a part of the first
pub part_before : (first second : List ℕ) (before after : Option (List ℕ)) → WritesPart before first after → WritesPart before (first ++ second) after
part_before first second before after w = record {
  part = w.part;
  lost = w.lost ++ second;
  whole = ap (λ t. t ++ second) w.whole ∙ append_assoc w.part w.lost second;
  written = w.written;
}

-- the same where the second isn't written whole
pub both_err : {T E : Type 0} (result : Result T E) (first second : List ℕ) (before mid after : Option (List ℕ)) → Appends before first mid → OnErr result (WritesPart mid second after)
    → OnErr result (WritesPart before (first ++ second) after)
both_err (Ok x) first second before mid after h w = tt
both_err (Err e) first second before mid after h w = part_after first second before mid after h w
