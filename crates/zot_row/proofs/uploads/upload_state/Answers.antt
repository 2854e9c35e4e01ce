use Rattle.zot_row.proofs.UploadLemmas.{state_quiet}
use Rattle.zot_row.proofs.uploads.upload_state.Goals as goal

pub returns : goal.returns
returns c = λ moment name. state_quiet moment name c.args.repo.now c.args.id c.state_of.result c.state_of.ensures
