use Rattle.zot_uploads.proofs.CaseLemmas.{answered, answered_once, whole_answered, whole_answered_once}
use Rattle.zot_uploads.proofs.laws.one_answer.Goals as goal

pub returns-clause-piece : goal.returns-clause-piece
returns-clause-piece c = answered

pub returns-clause-piece_one : goal.returns-clause-piece_one
returns-clause-piece_one c = answered_once

pub returns-clause-whole : goal.returns-clause-whole
returns-clause-whole c = whole_answered

pub returns-clause-whole_one : goal.returns-clause-whole_one
returns-clause-whole_one c = whole_answered_once
