-- Bytes taken and written, one piece after another.
use Rattle.std.proofs.Common.{◌≡◌, List, ℕ, ◌+◌, ◌-◌, ◌≤◌, [], ◌++◌, length, take, drop, arith, Option, Some, None, refl, sym, ap, ◌∙◌, subst, Result, Ok, Err, IfOk, OnErr}
use Rattle.std.proofs.Math.Seq.{take-append-add}
use Rattle.std.proofs.lemmas.List.{append_assoc, append-nil, length-drop, length-take-le, take-append-drop, take-append-le, take_all}
use Rattle.std.specs.Io.KnownBytes.{Consumes, WriteAppends}
use Rattle.std.specs.Io.KnownBytes as known
use borrow.Rule.Slice.PartMut.{post_of, put_mid}
use Rattle.zot_outside.specs.Streams.{Appends, Takes}

pub Appends-nil : (held : Option (List ℕ)) → Appends held [] held
Appends-nil None = tt
Appends-nil (Some held) = ap Some (sym (append-nil held))

-- two pieces written one after the other
pub Appends-append : (before mid after : Option (List ℕ)) (first second : List ℕ) → Appends before first mid → Appends mid second after → Appends before (first ++ second) after
Appends-append None mid after first second h k = tt
Appends-append (Some before) None after first second h k = cc h
Appends-append (Some before) (Some mid) after first second h k =
    let same : mid ≡ before ++ first = cc h in
    k ∙ ap Some (ap (λ held. held ++ second) same ∙ append_assoc before first second)

pub Takes-nil : (left : Option (List ℕ)) → Takes left [] left
Takes-nil None = tt
Takes-nil (Some left) = (left, refl, refl)

-- two pieces taken one after the other
pub Takes-append : (before mid after : Option (List ℕ)) (first second : List ℕ) → Takes before first mid → Takes mid second after → Takes before (first ++ second) after
Takes-append None mid after first second h k = tt
Takes-append (Some before) None after first second h k = cc h.2
Takes-append (Some before) (Some mid) after first second h k =
    let same : mid ≡ h.0 = cc h.2 in
    (k.0, h.1 ∙ ap (λ rest. first ++ rest) (sym same ∙ k.1) ∙ sym (append_assoc first second k.0), k.2)

-- std's word for bytes that were read is this crate's
pub Takes-consumed : (before after : Option (List ℕ)) (bytes : List ℕ) → Consumes before after bytes → Takes before bytes after
Takes-consumed None after bytes h = tt
Takes-consumed (Some left) None bytes h = absurd h
Takes-consumed (Some left) (Some rest) bytes h = (rest, h, refl)

pub Appends-known : (before after : Option (List ℕ)) (bytes : List ℕ) → known.Appends before after bytes → Appends before bytes after
Appends-known None after bytes h = tt
Appends-known (Some held) None bytes h = absurd h
Appends-known (Some held) (Some grown) bytes h = ap Some h

Appends-kept : (before after : Option (List ℕ)) → known.Keeps before after → Appends before [] after
Appends-kept None after h = tt
Appends-kept (Some held) None h = absurd h
Appends-kept (Some held) (Some same) h = ap Some (h ∙ sym (append-nil held))

-- a write that failed, or took nothing of a piece, appended nothing
pub Appends-lost : {E F : Type 0} (before after : Option (List ℕ)) (piece : List ℕ) (written : Result ℕ E) (result : Result ℕ F) → WriteAppends before after written piece → OnErr result (IfOk written (λ n. n ≡ 0))
    → OnErr result (Appends before [] after)
Appends-lost before after piece written (Ok n) h lost = tt
Appends-lost before after piece (Ok n) (Err e) h lost = subst (λ k. Appends before (take k piece) after) lost (Appends-known before after (take n piece) h)
Appends-lost before after piece (Err d) (Err e) h lost = Appends-kept before after h

-- in a buffer whose first n bytes are filled, the next m were read
take_filled : (buf part : List ℕ) (n m : ℕ) → n ≤ length buf → m ≤ length part → take (n + m) (put_mid n (length buf - n) buf part) ≡ take n buf ++ take m part
take_filled buf part n m within few =
    ap (λ k. take (k + m) (put_mid n (length buf - n) buf part)) (sym (length-take-le n buf within))
    ∙ take-append-add (take n buf) (part ++ post_of n (length buf - n) buf) m
    ∙ ap (λ read. take n buf ++ read) (take-append-le m part (post_of n (length buf - n) buf) few)

pub Takes-fill : (before mid after : Option (List ℕ)) (buf part : List ℕ) (n m : ℕ) → n ≤ length buf → m ≤ length part → Takes before (take n buf) mid → Consumes mid after (take m part)
    → Takes before (take (n + m) (put_mid n (length buf - n) buf part)) after
Takes-fill before mid after buf part n m within few h k =
    subst (λ bytes. Takes before bytes after) (sym (take_filled buf part n m within few)) (Takes-append before mid after (take n buf) (take m part) h (Takes-consumed mid after (take m part) k))

-- what is left of a text after the bytes that were written
pub written_more : (bytes part rest : List ℕ) (n : ℕ) → bytes ≡ part ++ rest → bytes ≡ (part ++ take n rest) ++ take (length rest - n) (drop n rest)
written_more bytes part rest n h =
    let left = length-drop n rest in
    let whole : take (length rest - n) (drop n rest) ≡ drop n rest = take_all (length rest - n) (drop n rest) (omega arith) in
    h ∙ ap (λ r. part ++ r) (sym (take-append-drop n rest)) ∙ sym (append_assoc part (take n rest) (drop n rest))
    ∙ ap (λ r. (part ++ take n rest) ++ r) (sym whole)
