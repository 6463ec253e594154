-- The steps of a pattern are read as steps.
use Rattle.std.proofs.Common.{◌≡◌, List, [], ◌∷◌, Bool, true, false, cond, refl, sym, subst}
use Rattle.std.proofs.lemmas.Bool.{and_parts}
use Rattle.std.specs.List.{list_all}
use Rattle.expr_terms.specs.Productions.{body, head, speaks, below, repeats, passes}
use Rattle.expr_terms.specs.Raws.{build, is_parens, is_otherwise, is_conditional}
use Rattle.expr_keys.specs.declared.productions.Language.TheVariants.{Xpath as xpath}
use Rattle.expr_keys.specs.declared.productions.Level.{Level}
use Rattle.expr_keys.specs.declared.productions.Level.TheVariants as level
use Rattle.expr_keys.specs.declared.productions.Nonterminal.{Nonterminal}
use Rattle.expr_keys.specs.declared.productions.Nonterminal.TheVariants as nonterminal
use Rattle.expr_keys.specs.declared.productions.Production.{Production}
use Rattle.expr_keys.specs.declared.productions.Production.TheVariants as production
use Rattle.expr_keys.specs.declared.productions.Symbol.TheVariants.{Many as many, Maybe as maybe}
use Rattle.expr_keys.specs.declared.tokens.Token.{Token}
use Rattle.expr_terms.specs.declared.raws.Raw.{Raw}
use Rattle.expr_terms.specs.declared.raws.Raw.TheVariants.{Leaf as leaf, Node as node}
use Rattle.expr_terms.specs.declared.raws.Raw.TheViews.{out-Raw}
use Rattle.expr_grammar.specs.Grammar.{Derives, by, Seq, Spells, end, taken, next, without, with}
use Rattle.expr_grammar.specs.Grammar.{stop, again, bare, given}
use Rattle.sound_expressions.specs.SoundForms.Sound.{are_sound}
use Rattle.pattern_forms.specs.PatternShapes.Shapes.{is_step, is_after, are_steps, is_alternative, is_barred}
use Rattle.pattern_forms.specs.PatternShapes.Shapes.{are_alternatives, is_unions, is_pattern}
use Rattle.pattern_syntax.specs.Parts.{alternatives}
use Rattle.pattern_syntax.proofs.BrokenLemmas.{step_itself, itself}
use Rattle.xpath_laws.proofs.XpathForms.Good.{built}
use Rattle.closed_texts.proofs.PatternCuts.Cut.{apart, behind_token}
use Rattle.closed_texts.specs.PatternCuts.Steps.{IsStep, AreSteps, IsAlternative, AreAlternatives}
use Rattle.closed_texts.proofs.PatternCuts.Parted.{NoPart, none_parts, built_no_part}
use Rattle.closed_texts.proofs.PatternCuts.Parted.{built_no_parts, parens_no_part, Parts, MaybeStep, no_parts}
use Rattle.closed_texts.proofs.PatternCuts.Parted.{conditional_parts, plain_step, joined_parts, root_parts}
use Rattle.closed_texts.proofs.PatternCuts.Parted.{MaybeAfter, behind_slash, MaybeBarred, barred}
use Rattle.closed_texts.proofs.PatternCuts.Parted.{unions_parts, Joined}
use Rattle.pattern_syntax.proofs.CallLemmas.{same_level}

-- what is read as a step
may_be : {ts rest : List Token} {v : Raw} → Derives xpath nonterminal.StepExpr ts v rest
    → are_sound ts ≡ true → MaybeStep v
may_be d h = λ e.
    let a = apart d h in
    record { tokens = a.front; sound = a.sound; derived = a.derived; shape = e }

-- a primary expression is no part of a pattern
pub primary_no_part : (p : Production) {ts rest : List Token} {vs : List Raw}
    → speaks xpath p ≡ true → head p ≡ nonterminal.PrimaryExpr → Seq xpath (body p) ts vs rest
    → NoPart (build p vs)
primary_no_part production.Number {vs = vs} o e q =
    built_no_part production.Number vs refl refl refl refl refl refl refl
primary_no_part production.Literal {vs = vs} o e q =
    built_no_part production.Literal vs refl refl refl refl refl refl refl
primary_no_part production.Variable {vs = vs} o e q =
    built_no_part production.Variable vs refl refl refl refl refl refl refl
primary_no_part production.Parens {vs = vs} o e q = parens_no_part vs
primary_no_part production.Context {vs = vs} o e q =
    built_no_part production.Context vs refl refl refl refl refl refl refl
primary_no_part production.Call {vs = vs} o e q =
    built_no_part production.Call vs refl refl refl refl refl refl refl
primary_no_part production.Computed o e q = absurd cc
primary_no_part production.Constructed o e q = absurd cc
primary_no_part production.PiConstructed o e q = absurd cc
primary_no_part production.Enclosing o e q = absurd cc
primary_no_part production.DirectConstructor o e q = absurd cc
primary_no_part _ o e q = absurd cc

stepped_by : (p : Production) {ts rest : List Token} {vs : List Raw}
    → head p ≡ nonterminal.StepExpr → Seq xpath (body p) ts vs rest → MaybeStep (build p vs)
    → Parts (build p vs)
stepped_by production.AxisStep {vs = vs} e q i =
    plain_step production.AxisStep vs refl refl refl refl refl i
stepped_by production.AttributeStep {vs = vs} e q i =
    plain_step production.AttributeStep vs refl refl refl refl refl i
stepped_by production.TestStep {vs = vs} e q i =
    plain_step production.TestStep vs refl refl refl refl refl i
stepped_by production.ParentStep {vs = vs} e q i =
    built_no_parts production.ParentStep vs refl refl refl refl refl refl refl
stepped_by production.FilterStep e (next (by p {vs = vs} o k q) (stop end)) i =
    none_parts (build p vs) (primary_no_part p o k q)
stepped_by production.FilterStep e (next {v = v} d (again {v = w} {vs = ws} b q)) i =
    no_parts production.FilterStep (v ∷ w ∷ ws) refl refl refl
stepped_by _ e q i = absurd cc

step_read : {ts rest : List Token} {v : Raw} → Derives xpath nonterminal.StepExpr ts v rest
    → MaybeStep v → Parts v
step_read (by p o e q) i = stepped_by p e q i

after_by : (p : Production) {ts rest : List Token} {vs : List Raw}
    → head p ≡ nonterminal.StepMore → Seq xpath (body p) ts vs rest → are_sound ts ≡ true
    → MaybeAfter (build p vs)
after_by production.StepAfter e (taken {t = t} {ts = ts} f (next {v = v} d end)) h =
    behind_slash production.StepAfter v refl refl (may_be d (behind_token t ts h))
after_by production.DeepAfter e (taken {t = t} {ts = ts} f (next {v = v} d end)) h =
    behind_slash production.DeepAfter v refl refl (may_be d (behind_token t ts h))
after_by _ e q h = absurd cc

abbrev AllAfter : List Raw → Type 0
AllAfter [] = Unit {0}
AllAfter (w ∷ ws) = MaybeAfter w × AllAfter ws

all_after : {ts rest : List Token} {ws : List Raw}
    → Seq xpath (many nonterminal.StepMore ∷ []) ts ws rest → are_sound ts ≡ true → AllAfter ws
all_after (stop end) h = tt
all_after (again (by p o e q) s) h =
    (after_by p e q h, all_after s (apart (by p o e q) h).left)

more_steps : (ws : List Raw) → AllAfter ws → list_all is_after ws ≡ true → AreSteps ws
more_steps [] g h = tt
more_steps (w ∷ ws) g h =
    let k = and_parts (is_after w) (list_all is_after ws) h in (g.0 k.0, more_steps ws g.1 k.1)

path_steps : (v : Raw) (ws : List Raw) → MaybeStep v → AllAfter ws → are_steps (v ∷ ws) ≡ true
    → AreSteps (v ∷ ws)
path_steps v ws i g h =
    let k = and_parts (is_step v) (list_all is_after ws) h in
    (subst IsStep (sym (step_itself v (out-Raw v) k.0)) (i k.0), more_steps ws g k.1)

relative_by : (p : Production) {ts rest : List Token} {vs : List Raw}
    → head p ≡ nonterminal.RelativePathExpr → Seq xpath (body p) ts vs rest → are_sound ts ≡ true
    → Parts (build p vs)
relative_by production.Steps e (next d (stop end)) h = step_read d (may_be d h)
relative_by production.Steps e (next {v = v} d (again {v = w} {vs = ws} b q)) h =
    joined_parts production.Steps (v ∷ w ∷ ws) (record {
      steps = refl;
      parts = refl;
      bare = refl;
      alternative = refl;
      pattern = refl;
    })
    (path_steps v (w ∷ ws) (may_be d h) (all_after (again b q) (apart d h).left))
relative_by _ e q h = absurd cc

-- after a `/` or `//` at the front
rooted_steps : (p : Production) {ts mid rest : List Token} {v : Raw} {ws : List Raw}
    → is_parens p ≡ false → is_otherwise p ≡ false → is_conditional p ≡ false
    → passes p ≡ false → Joined p (v ∷ ws) (node p (v ∷ ws))
    → Derives xpath nonterminal.StepExpr ts v mid
    → Seq xpath (many nonterminal.StepMore ∷ []) mid ws rest → are_sound ts ≡ true
    → Parts (build p (v ∷ ws))
rooted_steps p {v = v} {ws = ws} a b c n k d q h =
    subst Parts (sym (built p (v ∷ ws) a b c n)) (joined_parts p (v ∷ ws) k
    (path_steps v ws (may_be d h) (all_after q (apart d h).left)))

after_root : (p : Production) {ts rest : List Token} {vs : List Raw}
    → head p ≡ nonterminal.AfterRoot → Seq xpath (body p) ts vs rest → are_sound ts ≡ true
    → Parts (build p vs)
after_root production.RootSteps e (next d q) h =
    rooted_steps production.RootSteps refl refl refl refl (record {
      steps = refl;
      parts = refl;
      bare = refl;
      alternative = refl;
      pattern = refl;
    }) d q h
after_root _ e q h = absurd cc

path_by : (p : Production) {ts rest : List Token} {vs : List Raw} → head p ≡ nonterminal.PathExpr
    → Seq xpath (body p) ts vs rest → are_sound ts ≡ true → Parts (build p vs)
path_by production.Rooted e (taken f (bare b end)) h = root_parts
path_by production.Rooted e (taken {t = t} {ts = ts} f (given b (by p o k q) end)) h =
    after_root p k q (behind_token t ts h)
path_by production.RootedDeep e (taken {t = t} {ts = ts} f (next d q)) h =
    rooted_steps production.RootedDeep refl refl refl refl (record {
      steps = refl;
      parts = refl;
      bare = refl;
      alternative = refl;
      pattern = refl;
    }) d q (behind_token t ts h)
path_by production.Unrooted e (next (by p o k q) end) h = relative_by p k q h
path_by _ e q h = absurd cc

unary_by : (p : Production) {ts rest : List Token} {vs : List Raw} → head p ≡ nonterminal.UnaryExpr
    → Seq xpath (body p) ts vs rest → are_sound ts ≡ true → Parts (build p vs)
unary_by production.Signed {vs = vs} e q h =
    built_no_parts production.Signed vs refl refl refl refl refl refl refl
unary_by production.Unsigned e (next (by p o k q) end) h = path_by p k q h
unary_by _ e q h = absurd cc

-- what is read as this
abbrev Reads : Nonterminal → Type 0
Reads n = (ts rest : List Token) (v : Raw) → Derives xpath n ts v rest → are_sound ts ≡ true
    → Parts v

unary_reads : Reads nonterminal.UnaryExpr
unary_reads ts rest _ (by p o e q) h = unary_by p e q h

-- a level of operators that is not that of `|`
chain_no_parts : (of : Level) (vs : List Raw) → is_unions of ≡ false
    → Parts (node (production.OperatorChain of) vs)
chain_no_parts of vs u = no_parts (production.OperatorChain of) vs refl refl (rw u refl)

chain_parts : (of : Level) (b : Bool) {mid rest : List Token} (v : Raw) {ws : List Raw}
    → is_unions of ≡ false → Parts v
    → Seq xpath (cond b (many (nonterminal.Tail of)) (maybe (nonterminal.Tail of)) ∷ []) mid ws rest
    → Parts (build (production.OperatorChain of) (v ∷ ws))
chain_parts of true v u g (stop end) = g
chain_parts of true v u g (again {v = w} {vs = ws} d q) =
    chain_no_parts of (v ∷ w ∷ ws) u
chain_parts of false v u g (without end) = g
chain_parts of false v u g (with {v = w} {vs = ws} d q) =
    chain_no_parts of (v ∷ w ∷ ws) u

level_at : (of : Level) → is_unions of ≡ false → Reads (below of) → {ts rest : List Token}
    {vs : List Raw} → Seq xpath (body (production.OperatorChain of)) ts vs rest → are_sound ts ≡ true
    → Parts (build (production.OperatorChain of) vs)
level_at of u r {ts} (next {mid = mid} {v = v} d s) h =
    chain_parts of (repeats of) v u (r ts mid v d h) s

level_by : (of : Level) → is_unions of ≡ false → Reads (below of) → (p : Production)
    {ts rest : List Token} {vs : List Raw} → head p ≡ nonterminal.Level of
    → Seq xpath (body p) ts vs rest → are_sound ts ≡ true → Parts (build p vs)
level_by of u r (production.OperatorChain other) {ts} {rest} {vs} e q h =
    subst (λ x. Seq xpath (body (production.OperatorChain x)) ts vs rest
    → Parts (build (production.OperatorChain x) vs)) (same_level (sym e)) (λ s. level_at of u r s h) q
level_by of u r _ e q h = absurd cc

level_reads : (of : Level) → is_unions of ≡ false → Reads (below of) → Reads (nonterminal.Level of)
level_reads of u r ts rest _ (by p o e q) h = level_by of u r p e q h

crosses_reads : Reads (nonterminal.Level level.Intersect)
crosses_reads =
    level_reads level.Intersect refl (level_reads level.InstanceOf refl (level_reads level.Treat refl
    (level_reads level.Castable refl (level_reads level.Cast refl unary_reads))))

barred_by : (p : Production) {ts rest : List Token} {vs : List Raw}
    → head p ≡ nonterminal.Tail level.Union → Seq xpath (body p) ts vs rest
    → are_sound ts ≡ true → MaybeBarred (build p vs)
barred_by (production.OperatorTail level.Union) e
    (taken {t = t} {ts = ts} f (next {mid = mid} {v = v} d end)) h =
    barred (leaf t) v (crosses_reads ts mid v d (behind_token t ts h))
barred_by (production.OperatorTail _) e q h = absurd cc
barred_by _ e q h = absurd cc

abbrev AllBarred : List Raw → Type 0
AllBarred [] = Unit {0}
AllBarred (w ∷ ws) = MaybeBarred w × AllBarred ws

all_barred : {ts rest : List Token} {ws : List Raw}
    → Seq xpath (many (nonterminal.Tail level.Union) ∷ []) ts ws rest → are_sound ts ≡ true
    → AllBarred ws
all_barred (stop end) h = tt
all_barred (again (by p o e q) s) h =
    (barred_by p e q h, all_barred s (apart (by p o e q) h).left)

more_alternatives : (ws : List Raw) → AllBarred ws → list_all is_barred ws ≡ true
    → AreAlternatives ws
more_alternatives [] g h = tt
more_alternatives (w ∷ ws) g h =
    let k = and_parts (is_barred w) (list_all is_barred ws) h in
    (g.0 k.0, more_alternatives ws g.1 k.1)

all_alternatives : (v : Raw) (ws : List Raw) → Parts v → AllBarred ws
    → are_alternatives (v ∷ ws) ≡ true → AreAlternatives (v ∷ ws)
all_alternatives v ws i g h =
    let k = and_parts (is_alternative v) (list_all is_barred ws) h in (
      subst IsAlternative (sym (itself v (out-Raw v) k.0))
          (record { shape = k.0; steps = i.alternative k.0 }),
      more_alternatives ws g k.1,
    )

unions_by : (p : Production) {ts rest : List Token} {vs : List Raw}
    → head p ≡ nonterminal.Level level.Union → Seq xpath (body p) ts vs rest
    → are_sound ts ≡ true → Parts (build p vs)
unions_by (production.OperatorChain level.Union) {ts} e (next {mid = mid} {v = v} d (stop end)) h =
    crosses_reads ts mid v d h
unions_by (production.OperatorChain level.Union) {ts} e
    (next {mid = mid} {v = v} d (again {v = w} {vs = ws} b q)) h =
    unions_parts (v ∷ w ∷ ws) (all_alternatives v (w ∷ ws) (crosses_reads ts mid v d h)
    (all_barred (again b q) (apart d h).left))
unions_by (production.OperatorChain _) e q h = absurd cc
unions_by _ e q h = absurd cc

unions_reads : Reads (nonterminal.Level level.Union)
unions_reads ts rest _ (by p o e q) h = unions_by p e q h

ors_reads : Reads (nonterminal.Level level.Or)
ors_reads =
    level_reads level.Or refl (level_reads level.And refl (level_reads level.Comparison refl
    (level_reads level.Range refl (level_reads level.Additive refl
    (level_reads level.Multiplicative refl unions_reads)))))

single_by : (p : Production) {ts rest : List Token} {vs : List Raw}
    → head p ≡ nonterminal.ExprSingle → Seq xpath (body p) ts vs rest → are_sound ts ≡ true
    → Parts (build p vs)
single_by production.IfExpr {vs = vs} e q h = conditional_parts vs
single_by production.FlworExpr {vs = vs} e q h =
    built_no_parts production.FlworExpr vs refl refl refl refl refl refl refl
single_by production.QuantifiedExpr {vs = vs} e q h =
    built_no_parts production.QuantifiedExpr vs refl refl refl refl refl refl refl
single_by production.OperatorExpr {ts} e (next {mid = mid} {v = v} d end) h = ors_reads ts mid v d h
single_by _ e q h = absurd cc

list_by : (p : Production) {ts rest : List Token} {vs : List Raw} → head p ≡ nonterminal.Expr
    → Seq xpath (body p) ts vs rest → are_sound ts ≡ true → Parts (build p vs)
list_by production.ExprList e (next (by p o k q) (stop end)) h = single_by p k q h
list_by production.ExprList e (next {v = v} d (again {v = w} {vs = ws} b q)) h =
    no_parts production.ExprList (v ∷ w ∷ ws) refl refl refl
list_by _ e q h = absurd cc

whole_by : (p : Production) {ts rest : List Token} {vs : List Raw} → head p ≡ nonterminal.Whole
    → Seq xpath (body p) ts vs rest → are_sound ts ≡ true → Parts (build p vs)
whole_by production.WholeExpr e (next (by p o k q) end) h = list_by p k q h
whole_by _ e q h = absurd cc

whole_parts : {ts : List Token} {v : Raw} → Spells xpath ts v → are_sound ts ≡ true → Parts v
whole_parts (by p o e q) h = whole_by p e q h

-- each step of each alternative is read as a step
pub pattern_steps : {ts : List Token} {v : Raw} → Spells xpath ts v → are_sound ts ≡ true
    → is_pattern v ≡ true → AreAlternatives (alternatives v)
pattern_steps d h p = (whole_parts d h).pattern p
