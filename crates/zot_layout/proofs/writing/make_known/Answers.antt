use Rattle.std.proofs.Common.{ap, ◌∙◌}
use Rattle.zot_outside.specs.Objects.{with_object}
use Rattle.zot_layout.specs.Marker.{marker_text}
use Rattle.zot_layout.specs.Paths.{index_path, marker_path}
use Rattle.zot_layout.specs.State.{as_written}
use Rattle.zot_layout.specs.Text.{index_text}
use Rattle.zot_layout.proofs.ToldLemmas.{err_so, makes_then, ok_so, put_as}
use Rattle.zot_layout.proofs.WritingLemmas.{known_told, unread_told}
use Rattle.zot_layout.proofs.writing.make_known.Goals as goal

pub returns-clause-puts : goal.returns-clause-puts
returns-clause-puts g c =
    let objects = g.S.Store.objects in
    let at = c.as_str-2.ensures.value ∙ c.in_ok-path.ensures ∙ ap marker_path c.as_str.ensures.value in
    let same = c.as_bytes.ensures.value ∙ c.marker_text.ensures in
    ok_so c.put.result _ _ (λ k. makes_then (objects c.args.part.now) (objects c.put_index.new.part) (objects c.put.new.self)
    (λ told. with_object told (index_path c.args.name.now) (index_text c.args.state.now)) (λ told. with_object told (marker_path c.args.name.now) marker_text)
    c.in_ok-put_index.ensures.puts (put_as (objects c.put_index.new.part) (objects c.put.new.self) c.as_str-2.result.now (marker_path c.args.name.now) c.as_bytes.result.now marker_text at same k)) c.put.ensures.ok

pub returns-clause-ok : goal.returns-clause-ok
returns-clause-ok g c = λ is.
    let objects = g.S.Store.objects in
    let at = c.as_str-2.ensures.value ∙ c.in_ok-path.ensures ∙ ap marker_path c.as_str.ensures.value in
    let same = c.as_bytes.ensures.value ∙ c.marker_text.ensures in
    ok_so c.put.result _ _ (known_told (objects c.args.part.now) (objects c.put_index.new.part) (objects c.put.new.self) c.args.name.now c.as_str-2.result.now c.as_bytes.result.now (as_written c.args.state.now) at same
    (c.in_ok-put_index.ensures.ok is)) c.put.ensures.ok

pub returns-clause-err : goal.returns-clause-err
returns-clause-err g c =
    let objects = g.S.Store.objects in
    err_so c.put.result _ _ (unread_told (objects c.args.part.now) (objects c.put_index.new.part) (objects c.put.new.self) c.args.name.now (index_text c.args.state.now) c.in_ok-put_index.ensures.puts) c.put.ensures.err
