use Rattle.std.proofs.Common.{sym, ap}
use Rattle.hex.specs.Hex.{decode_sized}
use Rattle.zot_names.proofs.UploadLemmas.{decode_sized-upload_text, read_again}
use Rattle.zot_names.proofs.upload_id.UploadId.read.Goals as goal

pub returns-in_default-clause-every : goal.returns-in_default-clause-every
returns-in_default-clause-every c = λ id fits e.
    cc (c.in_default.is, c.from_hex.ensures, ap (λ t. decode_sized t 8) e, decode_sized-upload_text id)

pub returns-clause-every : goal.returns-clause-every
returns-clause-every c = λ id fits e.
    let again = read_again c.args.text.now c.in-Ok.bytes id fits e (sym c.in-Ok.ensures) in
    cc
