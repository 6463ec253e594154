use Rattle.std.proofs.Common.{◌≡◌, ◌<◌, false, true, length, ap, sym, ◌∙◌, arith}
use Rattle.std.specs.Str.{bytes_eq}
use Rattle.indexmap.specs.IndexMap.{insert_entry}
use Rattle.doc_set.proofs.SetLemmas.{put_next}
use Rattle.doc_set.proofs.sets.DocSet.copy.Goals.{in-Some+in_ok-put_copy, in_default}
use Rattle.doc_set.proofs.sets.DocSet.copy.Goals as goal

pub loop-place-preserved : goal.loop-place-preserved
loop-place-preserved c =
    let set = c.self.inside.documents.entries in
    let i = c.loop-place.place in
    let within : i < length set = omega (arith, c.loop-place-test.true, c.len-place-end.ensures.len) in
    elim c.match-get_index.branch [
      | in-Some+in_ok-put_copy w ↦
          let name = w.in-Some.name.now in
          let tree = w.in-Some.tree.now in
          ap (λ m. m.entries) w.documents-is
          ∙ w.in_ok-put_copy.ensures
          ∙ ap (λ es. insert_entry bytes_eq es name tree) c.loop-place.invariant
          ∙ put_next set i name tree c.len-place-end.ensures.unique (sym w.in-Some.ensures.entry)
      | in_default w ↦ (let e : false ≡ true = w.in_default.ensures.found.1 within in absurd cc)
    ]
