use Rattle.zot_layout.proofs.TagLemmas.{listed_is}
use Rattle.zot_layout.proofs.notes.read_listed.Goals as goal

pub returns : goal.returns
returns c =
    listed_is _ c.in_ok-descriptor.descriptor _ _ _ _ _ _ _ c.in_ok-descriptor.ensures c.in_ok-tag.ensures c.media_of.ensures c.as_str.ensures
    c.moment_of.ensures c.note_of.ensures c.moment_of-2.ensures c.note_of-2.ensures
