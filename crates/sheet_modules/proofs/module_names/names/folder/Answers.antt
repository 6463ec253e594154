use Rattle.std.proofs.Common.{◌≡◌, true, false, ◌∙◌, sym, ap, arith}
use Rattle.std.proofs.lemmas.Bool.Decides.{nat_tests}
use Rattle.std.proofs.lemmas.Iterator.{YieldsList-from_chars}
use Rattle.std.proofs.lemmas.Iterator.Consumers.{YieldsList-end}
use Rattle.xt_names.proofs.MarkLemmas.{map_same}
use Rattle.sheet_modules.specs.ModuleNames.Names.{is_slash, folder_of}
use Rattle.sheet_modules.proofs.ModuleNames.Folders.{slash_turn, other_turn}
use Rattle.sheet_modules.proofs.module_names.names.folder.Goals as goal

pub loop-c-preserved-then-c-eq47 : goal.loop-c-preserved-then-c-eq47
loop-c-preserved-then-c-eq47 c =
    let h : is_slash c.in-Some.c ≡ true = grind (arith, nat_tests) in
    let t = slash_turn c.loop-c.yielded c.loop-c.folder c.loop-c.part _ _ c.in-Some.c h
    c.loop-c.invariant.all_is (c.in_ok-whole.ensures ∙ c.in_ok-push.ensures.ok) c.in_ok-push_text.ensures.ok in
    record { folder_is = t.0; all_is = rw c.new-part-then-c-eq47.ensures t.1 }

pub loop-c-preserved : goal.loop-c-preserved
loop-c-preserved c =
    let h : is_slash c.in-Some.c ≡ false = grind (arith, nat_tests) in
    let t = other_turn c.loop-c.yielded c.loop-c.folder c.loop-c.part _ c.in-Some.c h
    c.loop-c.invariant.folder_is c.loop-c.invariant.all_is c.in_ok-push.ensures.ok in
    record { folder_is = t.0; all_is = t.1 }

pub returns : goal.returns
returns c =
    let t = YieldsList-end (YieldsList-from_chars c.args.name.now c.utf8.name cc) c.loop-c.yielded _ c.loop-c.yielded_by _ _ c.in-None.is c.next.ensures.steps in
    c.loop-c.invariant.folder_is ∙ ap folder_of (sym (map_same c.loop-c.yielded) ∙ t.0)
