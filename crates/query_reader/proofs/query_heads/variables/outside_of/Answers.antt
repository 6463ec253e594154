use Rattle.std.proofs.Common.{◌≡◌, true, false, ap, sym, ◌∙◌, arith, codes}
use Rattle.query_grammar.specs.Machine.{is_outside}
use Rattle.query_grammar.specs.Words.{is_named}
use Rattle.query_reader.proofs.QueryHeads.SliceLemmas.{last_named, outside_left, outside_none, outside_some}
use Rattle.query_reader.proofs.query_heads.variables.outside_of.Goals as goal

pub returns-then-not-is_named : goal.returns-then-not-is_named
returns-then-not-is_named c =
    let l = last_named c.args.tokens.now c.last-item.result (omega (arith, c.in-len1-up.len_at_least)) in
    let e : is_outside c.args.tokens.now ≡ false =
    l ∙ (ap (is_named (codes "external")) (sym c.last-item.is)
    ∙ (sym c.is_named.ensures ∙ c.if-not-is_named.true)) in
    outside_left c.args.tokens.now e

pub returns-in-None : goal.returns-in-None
returns-in-None c =
    let l = last_named c.args.tokens.now c.last-item.result (omega (arith, c.in-len1-up.len_at_least)) in
    let e : is_outside c.args.tokens.now ≡ true =
    l ∙ (ap (is_named (codes "external")) (sym c.last-item.is)
    ∙ (sym c.is_named.ensures ∙ c.if-not-is_named.false)) in
    outside_none c.args.tokens.now _ e c.in_ok-typed_of-in-len1-up.ensures c.in-None.is

pub returns-in-Some : goal.returns-in-Some
returns-in-Some c =
    let l = last_named c.args.tokens.now c.last-item.result (omega (arith, c.in-len1-up.len_at_least)) in
    let e : is_outside c.args.tokens.now ≡ true =
    l ∙ (ap (is_named (codes "external")) (sym c.last-item.is)
    ∙ (sym c.is_named.ensures ∙ c.if-not-is_named.false)) in
    outside_some c.args.tokens.now _ _ e c.in_ok-typed_of-in-len1-up.ensures c.in-Some.is
