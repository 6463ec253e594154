use Rattle.std.proofs.Common.{◌≡◌, false, None, ap, sym, ◌∙◌}
use Rattle.std.specs.Str.{bytes_eq}
use Rattle.indexmap.specs.IndexMap.{get}
use Rattle.indexmap.proofs.CallerLemmas.{insert_entry-new}
use Rattle.doc_set.specs.Sets.{is_named, with_document}
use Rattle.doc_set.proofs.SetLemmas.{none_of, placed}
use Rattle.doc_set.proofs.sets.DocSet.add.Goals as goal

pub returns-clause-added : goal.returns-clause-added
returns-clause-added c =
    let name = c.in_ok-name.name in
    let m = c.self.inside.documents in
    let none : get bytes_eq m name ≡ None = none_of _ (sym c.is_named.ensures.found ∙ c.if-is_named.false) in
    let new : is_named name m.entries ≡ false = sym c.is_named.ensures.named ∙ c.if-is_named.false in
    c.in_ok-put.ensures.put
    ∙ insert_entry-new bytes_eq m name c.args.tree none
    ∙ placed name c.args.tree m.entries new
    ∙ ap (λ n. with_document n c.args.tree m.entries) c.in_ok-name.ensures.ok
    ∙ ap (with_document _ c.args.tree) c.self.view_is
