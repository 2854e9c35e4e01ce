use Rattle.zot_model.proofs.PageLemmas.{pages_are_all, pages_exist, pages_join}
use Rattle.zot_model.proofs.laws.pages_are_the_list.Goals as goal

pub returns-clause-exist : goal.returns-clause-exist
returns-clause-exist c = λ tags n last some. pages_exist tags n some last

pub returns-clause-all : goal.returns-clause-all
returns-clause-all c = pages_are_all

pub returns-clause-after : goal.returns-clause-after
returns-clause-after c = λ tags n last pages some h. pages_join tags n some last pages h
