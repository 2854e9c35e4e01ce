-- Bytes are JSON of one value and one tree, and so they stand for one thing.
use Rattle.std.proofs.Common.{◌≡◌, ℕ, List, Some, inl, inr, sym, ap₂, ◌∙◌}
use Rattle.json.specs.Json as json
use Rattle.serde_json.specs.Data.{Data}
use Rattle.zot_config.specs.Settings.{Settings}
use Rattle.zot_config.specs.Table.{IsJson, IsRead, document_of}
use Rattle.zot_config.specs.Wrong.{Read}

same_value : (bytes : List ℕ) (d e : Data) → IsJson bytes d → IsJson bytes e → d ≡ e
same_value bytes d e one other =
    let first = one.read_as in
    let second = other.read_as in
    cc

same_tree : (bytes : List ℕ) (j k : json.Json) → json.document bytes ≡ Some j → json.document bytes ≡ Some k → j ≡ k
same_tree bytes j k one other = cc

pub read_one : (bytes : List ℕ) (one other : Read Settings) → IsRead bytes one → IsRead bytes other → one ≡ other
read_one bytes one other (inl a) (inl b) = sym a.4 ∙ ap₂ document_of (same_value bytes a.0 b.0 a.2 b.2) (same_tree bytes a.1 b.1 a.3 b.3) ∙ b.4
read_one bytes one other (inl a) (inr b) = absurd (b.0 a.0 a.2)
read_one bytes one other (inr a) (inl b) = absurd (a.0 b.0 b.2)
read_one bytes one other (inr a) (inr b) = a.1 ∙ sym b.1
