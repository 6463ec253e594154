-- The tokens of names, node tests, steps and paths spell them.
use Rattle.std.proofs.Common.{◌≡◌, ℕ, List, [], ◌∷◌, ◌++◌, Bool, true, false, ◌&&◌, cond, refl}
use Rattle.std.proofs.Common.{sym, ◌∙◌, ap, subst, Option, Some, None, append_assoc}
use Rattle.std.proofs.lemmas.Bool.{and_parts}
use Rattle.xt_names.specs.declared.names.ExprName.{ExprName}
use Rattle.xt_types.specs.declared.axes.Axis.{Axis}
use Rattle.xt_types.specs.declared.axes.Axis.TheVariants as axis
use Rattle.xt_types.specs.declared.node_tests.Test.{Test}
use Rattle.xt_types.specs.declared.node_tests.Test.TheVariants as test
use Rattle.xt_types.specs.declared.node_tests.NameTest.{NameTest}
use Rattle.xt_syntax.specs.declared.prefixes.Prefixes.{Prefixes}
use Rattle.expr_keys.specs.Classes.{fits}
use Rattle.expr_keys.specs.declared.keys.Key.{Key}
use Rattle.expr_keys.specs.declared.keys.Key.TheVariants as key
use Rattle.expr_keys.specs.declared.tokens.Token.{Token}
use Rattle.expr_keys.specs.declared.tokens.Token.TheVariants as token
use Rattle.expr_keys.specs.declared.productions.Class.{Class}
use Rattle.expr_keys.specs.declared.productions.Class.TheVariants as class
use Rattle.expr_keys.specs.declared.productions.Symbol.{Symbol}
use Rattle.expr_keys.specs.declared.productions.Symbol.TheVariants.{One as one, Many as many}
use Rattle.expr_keys.specs.declared.productions.Nonterminal.{Nonterminal}
use Rattle.expr_keys.specs.declared.productions.Nonterminal.TheVariants as place
use Rattle.expr_keys.specs.declared.productions.Production.{Production}
use Rattle.expr_keys.specs.declared.productions.Production.TheVariants as production
use Rattle.expr_terms.specs.declared.raws.Raw.{Raw}
use Rattle.expr_terms.specs.declared.raws.Raw.TheVariants.{Leaf as leaf, Node as node, outs-Node}
use Rattle.expr_terms.specs.declared.raws.Raw.TheViews.{out-Raw}
use Rattle.expr_terms.specs.declared.raws.Raw.TheOpen.{Raw-F, Leaf, Node}
use Rattle.expr_grammar.specs.Grammar.{next_begins, Derives, by, Seq, end, taken, next, with}
use Rattle.expr_grammar.specs.Grammar.{without, stop, again, bare, given}
use Rattle.raw_tokens.proofs.Begins.{begins_so}
use Rattle.expr_raws.specs.PathRaws.Forms.{Form, primary, step, single, list, at, said, all_at, all_said}
use Rattle.expr_raws.specs.PathRaws.Forms.{all_can, key_leaf, ends_unmarked}
use Rattle.expr_raws.specs.PathRaws.Names.{names, spellings, tests, test_spellings, test_token, token_in}
use Rattle.expr_raws.specs.PathRaws.Paths.{with_token, variable_with, variable, call_with, call, axis_key}
use Rattle.expr_raws.specs.PathRaws.Paths.{leaf_test, named_test, test_form, predicates, step_with}
use Rattle.expr_raws.specs.PathRaws.Paths.{stepped, step_after, Start, behind, from_root, root, alone}
use Rattle.expr_raws.specs.PathRaws.Paths.{behind_steps, is_rooted, only_rooted, start_of, slash_raw}
use Rattle.expr_raws.specs.PathRaws.Paths.{slash_tokens, slashed, filtered, root_form, lone}
use Rattle.expr_raws.proofs.PathRaws.Paths.{fitting_sound}
use Rattle.expr_terms.specs.Raws.{as_parens, build}
use Rattle.expr_raws.specs.ControlRaws.Operators.{last_unmarked}
use Rattle.xt_names.specs.declared.names.Binding.{Binding}
use Rattle.expr_raws.specs.PathRaws.Paths.{plain_kind}
use Rattle.expr_raws.specs.PathRaws.Forms.{path}
use Rattle.raw_laws.proofs.ExprSpellings.Climb.{X, Rise, spot, climb}
use Rattle.raw_laws.proofs.ExprSpellings.Spelled.{Calm, CalmIf, Inside, Spelled, closed, opened, no_parens}
use Rattle.raw_laws.proofs.ExprSpellings.Spelled.{at_spelled, is_closed}

-- the forms of many expressions
abbrev pub All : (Form → Type 0) → List Form → Type 0
All P [] = Unit {0}
All P (f ∷ fs) = P f × All P fs

-- whatever follows
abbrev pub Always : ℕ → Form → Type 0
Always n f = (rest : List Token) → CalmIf (ends_unmarked n f) rest
    → Derives X (spot n) (said n f rest) (at n f) rest

pub always : (n : ℕ) (f : Form) → Spelled f → Always n f
always n f s = at_spelled f s n

-- one more part at the end
pub one_more : {n : Nonterminal} {ts mid rest : List Token} {us : List Raw} {v : Raw}
    → Seq X (many n ∷ []) ts us mid → Derives X n mid v rest
    → Seq X (many n ∷ []) ts (us ++ v ∷ []) rest
one_more (stop end) d = again d (stop end)
one_more (again e s) d = again e (one_more s d)

-- a primary expression that goes on with nothing and ends in no type
abbrev pub form : Production → List Raw → (List Token → List Token) → ℕ → Bool → Form
form p vs tokens k c =
    record { raw = node p vs; tokens = tokens; place = k; unmarked = false; can = c }

module _ (p : Production) (vs : List Raw) (tokens : List Token → List Token) (c : Bool) where
  pub as_primary : as_parens (Node p vs) ≡ false → is_closed p ≡ true
      → ((rest : List Token) → Derives X place.PrimaryExpr (tokens rest) (node p vs) rest)
      → Spelled (form p vs tokens primary c)
  as_primary a e d = record {
    whole = λ rest u. d rest;
    inside = closed tokens false p vs e;
    placed = refl;
    tightest = λ h. no_parens p vs a h;
    ended = λ h. refl;
    at_step = refl;
  }

  pub as_step : as_parens (Node p vs) ≡ false → is_closed p ≡ true
      → ((rest : List Token) → Derives X place.StepExpr (tokens rest) (node p vs) rest)
      → Spelled (form p vs tokens step c)
  as_step a e d = record {
    whole = λ rest u. d rest;
    inside = closed tokens false p vs e;
    placed = refl;
    tightest = λ h. no_parens p vs a h;
    ended = λ h. refl;
    at_step = refl;
  }

-- parentheses round nothing, or round a `/` that stands alone
pub in_parens_spelled : (vs : List Raw) (tokens : List Token → List Token)
    → ((rest : List Token) → Derives X place.PrimaryExpr (tokens rest) (node production.Parens vs) rest)
    → Spelled (form production.Parens vs tokens primary true)
in_parens_spelled vs tokens d = record {
  whole = λ rest u. d rest;
  inside = closed tokens false production.Parens vs refl;
  placed = refl;
  tightest = λ h. refl;
  ended = λ h. refl;
  at_step = refl;
}

pub empty_spelled : (rest : List Token) → Derives X place.PrimaryExpr
    (token.Key key.OpenParen ∷ token.Key key.CloseParen ∷ rest) (node production.Parens []) rest
empty_spelled rest = by production.Parens refl refl (taken refl (without (taken refl end)))

pub root_spelled : Spelled root_form
root_spelled = in_parens_spelled (node production.Rooted [] ∷ []) (λ rest. token.Key key.OpenParen
    ∷ token.Key key.Slash ∷ token.Key key.CloseParen ∷ rest) (λ rest. one_root rest)
  where
    rooted_alone : (rest : List Token) → Derives X place.PathExpr
        (token.Key key.Slash ∷ token.Key key.CloseParen ∷ rest) (node production.Rooted [])
        (token.Key key.CloseParen ∷ rest)
    rooted_alone rest = by production.Rooted refl refl (taken refl (bare refl end))

    one_root : (rest : List Token) → Derives X place.PrimaryExpr (token.Key key.OpenParen
        ∷ token.Key key.Slash ∷ token.Key key.CloseParen ∷ rest)
        (node production.Parens (node production.Rooted [] ∷ [])) rest
    one_root rest =
        let d : Derives X place.Expr (token.Key key.Slash ∷ token.Key key.CloseParen ∷ rest)
        (node production.Rooted []) (token.Key key.CloseParen ∷ rest) =
        climb 2 17 refl _ _ _ (rooted_alone rest) in
        subst (λ v. Derives X place.PrimaryExpr (token.Key key.OpenParen ∷ token.Key key.Slash
        ∷ token.Key key.CloseParen ∷ rest) v rest)
        (ap (λ f. cond (as_parens f) (node production.Rooted [])
        (node production.Parens (node production.Rooted [] ∷ []))) (outs-Node production.Rooted []))
        (by production.Parens refl refl (taken refl (with d (taken refl end))))

-- names

pub token_fits : (c : Class) (bound : List Binding) (default : List ℕ) (n : ExprName) (t : Token)
    → token_in c bound default n ≡ Some t → fits c t ≡ true
token_fits c bound default n t e =
    (fitting_sound c (names bound default n) (spellings bound n.local) t e).0

pub test_fits : (c : Class) (bound : List Binding) (default : List ℕ) (on : Axis) (n : NameTest)
    (t : Token) → test_token c bound default on n ≡ Some t → fits c t ≡ true
test_fits c bound default on n t e =
    (fitting_sound c (tests bound default on n) (test_spellings bound n) t e).0

pub variable_spelled : (p : Prefixes) (n : ExprName) → (variable p n).can ≡ true
    → Spelled (variable p n)
variable_spelled p n = go (token_in class.Name p.bound [] n) refl
  where
    go : (o : Option Token) → token_in class.Name p.bound [] n ≡ o
        → (with_token o variable_with).can ≡ true → Spelled (with_token o variable_with)
    go None e c = absurd (cc)
    go (Some t) e c = as_primary production.Variable (leaf t ∷ [])
        (λ rest. token.Key key.Dollar ∷ t ∷ rest) true refl refl
        (λ rest. by production.Variable refl refl (taken refl
        (taken (token_fits class.Name p.bound [] n t e) end)))

-- lists with commas

pub comma_items : (f : Form) (fs : List Form) → Always single f → All (Always single) fs
    → (rest : List Token) → CalmIf (last_unmarked single (f ∷ fs)) rest
    → Seq X (one place.ExprSingle ∷ many place.CommaExprSingle ∷ []) (all_said single (f ∷ fs) rest)
    (all_at single (f ∷ fs)) rest
comma_items f [] s a rest c = next (s rest c) (stop end)
comma_items f (g ∷ fs) s a rest c =
    next (s (token.Key key.Comma ∷ all_said single (g ∷ fs) rest) (λ u. refl))
    (after (comma_items g fs a.0 a.1 rest c))
  where
    after : {ts : List Token} {vs : List Raw}
        → Seq X (one place.ExprSingle ∷ many place.CommaExprSingle ∷ []) ts vs rest
        → Seq X (many place.CommaExprSingle ∷ []) (token.Key key.Comma ∷ ts) vs rest
    after (next d s) = again (by production.NextExprSingle refl refl (taken refl (next d end))) s

pub call_spelled : (p : Prefixes) (n : ExprName) (fs : List Form) → All (Always single) fs
    → (call p n fs).can ≡ true → Spelled (call p n fs)
call_spelled p n fs a = go (token_in class.Function p.bound p.function_default n) refl fs a
  where
    go : (o : Option Token) → token_in class.Function p.bound p.function_default n ≡ o
        → (gs : List Form) → All (Always single) gs
        → (with_token o (call_with n gs)).can ≡ true → Spelled (with_token o (call_with n gs))
    go None e gs a c = absurd (cc)
    go (Some t) e [] a c = as_primary production.Call (leaf t ∷ [])
        (λ rest. t ∷ token.Key key.OpenParen ∷ token.Key key.CloseParen ∷ rest) _ refl refl
        (λ rest. by production.Call refl refl
        (taken (token_fits class.Function p.bound p.function_default n t e)
        (taken refl (without (taken refl end)))))
    go (Some t) e (g ∷ gs) a c = as_primary production.Call
        (leaf t ∷ node production.ArgumentList (all_at single (g ∷ gs)) ∷ [])
        (λ rest. t ∷ token.Key key.OpenParen
        ∷ all_said single (g ∷ gs) (token.Key key.CloseParen ∷ rest)) _ refl refl
        (λ rest. by production.Call refl refl
        (taken (token_fits class.Function p.bound p.function_default n t e)
        (taken refl (with (arguments (token.Key key.CloseParen ∷ rest) (λ u. refl))
        (taken refl end)))))
      where
        kept : (vs : List Raw) → build production.ArgumentList vs ≡ node production.ArgumentList vs
        kept [] = refl
        kept (v ∷ []) = refl
        kept (v ∷ w ∷ vs) = refl

        arguments : (rest : List Token) → CalmIf (last_unmarked single (g ∷ gs)) rest
            → Derives X place.Arguments (all_said single (g ∷ gs) rest)
            (node production.ArgumentList (all_at single (g ∷ gs))) rest
        arguments rest c = subst (λ v. Derives X place.Arguments (all_said single (g ∷ gs) rest)
            v rest) (kept (all_at single (g ∷ gs)))
            (by production.ArgumentList refl refl (comma_items g gs a.0 a.1 rest c))

-- node tests

abbrev pub IsTest : Form → Type 0
IsTest f = (rest : List Token) → Derives X place.NodeTest (f.tokens rest) f.raw rest

abbrev pub IsKind : Form → Type 0
IsKind f = (rest : List Token) → Derives X place.KindTest (f.tokens rest) f.raw rest

pub kind_is_test : (f : Form) → IsKind f → IsTest f
kind_is_test f k rest = by production.KindTested refl refl (next (k rest) end)

abbrev pub is_plain_key : Key → Bool
is_plain_key k = fits class.PlainKind (token.Key k)

plain_spelled : (k : Key) → is_plain_key k ≡ true → IsKind (plain_kind k)
plain_spelled k e rest =
    by production.PlainKind refl refl (taken e (taken refl (taken refl end)))

named_spelled : (k : Key) (t : Token) → fits class.NamedKind (token.Key k) ≡ true
    → fits class.NameOrStar t ≡ true → IsKind (named_test k t)
named_spelled k t e f rest =
    by production.NamedKind refl refl (taken e (taken refl (with
    (by production.KindNamed refl refl (taken f end)) (taken refl end))))

abbrev pub is_named : Test → Bool
is_named (test.Named n) = true
is_named _ = false

pub kind_spelled : (p : Prefixes) (on : Axis) (t : Test) → is_named t ≡ false
    → (test_form p on t).can ≡ true → IsKind (test_form p on t)
kind_spelled p on (test.Named n) i c = absurd (cc)
kind_spelled p on test.Node i c = plain_spelled key.NodeWord refl
kind_spelled p on test.Text i c = plain_spelled key.TextWord refl
kind_spelled p on test.Comment i c = plain_spelled key.CommentWord refl
kind_spelled p on test.Doc i c = plain_spelled key.DocumentNodeWord refl
kind_spelled p on (test.Pi None) i c =
    λ rest. by production.PiKind refl refl (taken refl (taken refl (without (taken refl end))))
kind_spelled p on (test.Pi (Some cs)) i c =
    λ rest. by production.PiKind refl refl (taken refl (taken refl (with
    (by production.PiNamed refl refl (taken refl end)) (taken refl end))))
kind_spelled p on (test.Elem n) i c =
    go (test_token class.NameOrStar p.bound p.element_default axis.Child n) refl c
  where
    go : (o : Option Token)
        → test_token class.NameOrStar p.bound p.element_default axis.Child n ≡ o
        → (with_token o (named_test key.ElementWord)).can ≡ true
        → IsKind (with_token o (named_test key.ElementWord))
    go None e c = absurd (cc)
    go (Some t) e c = named_spelled key.ElementWord t refl
        (test_fits class.NameOrStar p.bound p.element_default axis.Child n t e)
kind_spelled p on (test.Attr n) i c =
    go (test_token class.NameOrStar p.bound p.element_default axis.Attribute n) refl c
  where
    go : (o : Option Token)
        → test_token class.NameOrStar p.bound p.element_default axis.Attribute n ≡ o
        → (with_token o (named_test key.AttributeWord)).can ≡ true
        → IsKind (with_token o (named_test key.AttributeWord))
    go None e c = absurd (cc)
    go (Some t) e c = named_spelled key.AttributeWord t refl
        (test_fits class.NameOrStar p.bound p.element_default axis.Attribute n t e)

pub test_spelled : (p : Prefixes) (on : Axis) (t : Test) → (test_form p on t).can ≡ true
    → IsTest (test_form p on t)
test_spelled p on (test.Named n) c =
    go (test_token class.NameTest p.bound p.element_default on n) refl c
  where
    go : (o : Option Token) → test_token class.NameTest p.bound p.element_default on n ≡ o
        → (with_token o leaf_test).can ≡ true → IsTest (with_token o leaf_test)
    go None e c = absurd (cc)
    go (Some t) e c = λ rest. by production.NameTested refl refl
        (taken (test_fits class.NameTest p.bound p.element_default on n t e) end)
test_spelled p on test.Node c = kind_is_test (test_form p on test.Node) (kind_spelled p on test.Node refl c)
test_spelled p on test.Text c = kind_is_test (test_form p on test.Text) (kind_spelled p on test.Text refl c)
test_spelled p on test.Comment c = kind_is_test (test_form p on test.Comment) (kind_spelled p on test.Comment refl c)
test_spelled p on test.Doc c = kind_is_test (test_form p on test.Doc) (kind_spelled p on test.Doc refl c)
test_spelled p on (test.Pi o) c = kind_is_test (test_form p on (test.Pi o)) (kind_spelled p on (test.Pi o) refl c)
test_spelled p on (test.Elem n) c = kind_is_test (test_form p on (test.Elem n)) (kind_spelled p on (test.Elem n) refl c)
test_spelled p on (test.Attr n) c = kind_is_test (test_form p on (test.Attr n)) (kind_spelled p on (test.Attr n) refl c)

-- steps

predicates_spelled : (fs : List Form) → All (Always list) fs → (rest : List Token)
    → Seq X (many place.Predicate ∷ []) (predicates fs rest) (all_at list fs) rest
predicates_spelled [] a rest = stop end
predicates_spelled (f ∷ fs) a rest =
    again (by production.Predicated refl refl (taken refl
    (next (a.0 (token.Key key.CloseBracket ∷ predicates fs rest) (λ u. refl)) (taken refl end))))
    (predicates_spelled fs a.1 rest)

axis_fits : (on : Axis) → fits class.Axis (token.Key (axis_key on)) ≡ true
axis_fits axis.Child = refl
axis_fits _ = refl

pub step_spelled : (p : Prefixes) (on : Axis) (t : Test) (fs : List Form) → All (Always list) fs
    → (stepped p on t fs).can ≡ true → Spelled (stepped p on t fs)
step_spelled p on t fs a c =
    let f : Form = test_form p on t in
    let h = and_parts f.can (all_can fs) c in
    as_step production.AxisStep (key_leaf (axis_key on) ∷ f.raw ∷ all_at list fs)
    (λ rest. token.Key (axis_key on) ∷ token.Key key.Colons ∷ f.tokens (predicates fs rest)) _
    refl refl (λ rest. by production.AxisStep refl refl (taken (axis_fits on) (taken refl
    (next (test_spelled p on t h.0 (predicates fs rest)) (predicates_spelled fs a rest)))))

pub filter_spelled : (f : Form) (fs : List Form) → Always primary f → All (Always list) fs
    → (filtered f fs).can ≡ true → Spelled (filtered f fs)
filter_spelled f [] s a c = absurd (cc)
filter_spelled f (g ∷ fs) s a c =
    as_step production.FilterStep (at primary f ∷ all_at list (g ∷ fs))
    (λ rest. said primary f (predicates (g ∷ fs) rest)) _ refl refl
    (λ rest. by production.FilterStep refl refl
    (next (s (predicates (g ∷ fs) rest) (λ u. refl)) (predicates_spelled (g ∷ fs) a rest)))

-- paths

module _ (a b : Form) (s : Spelled a) (t : Always step b) (u : ends_unmarked step b ≡ false) where
  -- whatever follows, since steps end in no type
  last_step : (rest : List Token) → Derives X place.StepExpr (said step b rest) (at step b) rest
  last_step rest = t rest (λ h. absurd (clash (ends_unmarked step b) u h))
    where
      clash : (c : Bool) → c ≡ false → c ≡ true → ⊥
      clash true e h = cc
      clash false e h = cc

  abbrev tail : List Token → List Token
  tail rest = token.Key key.Slash ∷ said step b rest

  more_step : (rest : List Token) → Derives X place.StepMore (tail rest) (step_after b) rest
  more_step rest = by production.StepAfter refl refl (taken refl (next (last_step rest) end))

  -- what joins steps
  abbrev Steps : (List Token → List Token) → List Raw → Type 0
  Steps tokens vs = (rest : List Token)
      → Seq X (one place.StepExpr ∷ many place.StepMore ∷ []) (tokens rest) vs rest

  kept : (v : Raw) (vs : List Raw) → build production.Steps ((v ∷ vs) ++ step_after b ∷ [])
      ≡ node production.Steps ((v ∷ vs) ++ step_after b ∷ [])
  kept v [] = refl
  kept v (w ∷ vs) = refl

  as_path : (tokens : List Token → List Token) (v : Raw) (vs : List Raw)
      → Steps tokens ((v ∷ vs) ++ step_after b ∷ []) → (c : Bool)
      → Spelled (form production.Steps ((v ∷ vs) ++ step_after b ∷ []) tokens path c)
  as_path tokens v vs d c = record {
    whole = λ rest u. path_of rest;
    inside = opened tokens false production.Steps ((v ∷ vs) ++ step_after b ∷ []) refl refl
        (λ rest u. d rest);
    placed = refl;
    tightest = λ h. no_parens production.Steps ((v ∷ vs) ++ step_after b ∷ []) refl h;
    ended = λ h. refl;
    at_step = refl;
  }
    where
      path_of : (rest : List Token) → Derives X place.PathExpr (tokens rest)
          (node production.Steps ((v ∷ vs) ++ step_after b ∷ [])) rest
      path_of rest =
          let r : Derives X place.RelativePathExpr (tokens rest)
          (node production.Steps ((v ∷ vs) ++ step_after b ∷ [])) rest =
          subst (λ w. Derives X place.RelativePathExpr (tokens rest) w rest) (kept v vs)
          (by production.Steps refl refl (d rest)) in
          by production.Unrooted refl refl (next r end)

  -- one more step after the others
  longer : {ts rest : List Token} {vs : List Raw}
      → Seq X (one place.StepExpr ∷ many place.StepMore ∷ []) ts vs (tail rest)
      → Seq X (one place.StepExpr ∷ many place.StepMore ∷ []) ts (vs ++ step_after b ∷ []) rest
  longer {rest = rest} (next d s) = next d (one_more s (more_step rest))

  root_kept : (vs : List Raw) → build production.RootSteps vs ≡ node production.RootSteps vs
  root_kept [] = refl
  root_kept (v ∷ []) = refl
  root_kept (v ∷ w ∷ vs) = refl

  -- a path from the root: after its `/` the next token begins a step
  as_rooted : (tokens : List Token → List Token) (vs : List Raw) (c : Bool)
      → ((rest : List Token) → (ts : List Token) × (tokens rest ≡ token.Key key.Slash ∷ ts)
      × Seq X (one place.StepExpr ∷ many place.StepMore ∷ []) ts vs rest)
      → Spelled (form production.RootSteps vs tokens path c)
  as_rooted tokens vs c d = record {
    whole = λ rest u. path_of rest;
    inside = subst (λ f. Inside tokens false f) (sym (outs-Node production.RootSteps vs))
        (λ h. absurd (cc), λ h. d, λ h. absurd (cc));
    placed = refl;
    tightest = λ h. no_parens production.RootSteps vs refl h;
    ended = λ h. refl;
    at_step = refl;
  }
    where
      path_of : (rest : List Token)
          → Derives X place.PathExpr (tokens rest) (node production.RootSteps vs) rest
      path_of rest =
          let x = d rest in
          let r : Derives X place.AfterRoot x.0 (node production.RootSteps vs) rest =
          subst (λ w. Derives X place.AfterRoot x.0 w rest) (root_kept vs)
          (by production.RootSteps refl refl x.2) in
          subst (λ ts. Derives X place.PathExpr ts (node production.RootSteps vs) rest) (sym x.1)
          (by production.Rooted refl refl (taken refl
          (given (begins_so place.AfterRoot refl r) r end)))

  abbrev joined : Start → Form
  joined x = record {
    raw = slash_raw x a b;
    tokens = slash_tokens x a b;
    place = path;
    unmarked = false;
    can = a.can && b.can;
  }

  slash_alone : Spelled (joined alone)
  slash_alone = as_path (λ rest. said step a (tail rest)) (at step a) []
      (λ rest. next (always step a s (tail rest) (λ h. refl)) (again (more_step rest) (stop end))) _

  slash_root : Spelled (joined root)
  slash_root = as_rooted (λ rest. token.Key key.Slash ∷ said step b rest) (at step b ∷ []) _
      (λ rest. (said step b rest, refl, next (last_step rest) (stop end)))

  only : (vs : List Raw) → Spelled (joined (only_rooted vs))
  only [] = slash_alone
  only (v ∷ []) = go (is_rooted (out-Raw v))
    where
      go : (r : Bool) → Spelled (joined (cond r root alone))
      go true = slash_root
      go false = slash_alone
  only (v ∷ w ∷ vs) = slash_alone

  slashed_from : (f : Raw-F Raw) → Inside a.tokens a.unmarked f → Spelled (joined (start_of f))
  slashed_from (Leaf t) i = slash_alone
  slashed_from (Node production.Steps []) i = slash_alone
  slashed_from (Node production.Steps (v ∷ vs)) i = as_path (λ rest. a.tokens (tail rest)) v vs
      (λ rest. longer (i.0 refl (tail rest) (λ u. refl))) _
  slashed_from (Node production.RootSteps vs) i =
      as_rooted (λ rest. a.tokens (tail rest)) (vs ++ step_after b ∷ []) _
      (λ rest. let x = i.1 refl (tail rest) in (x.0, x.1, longer x.2))
  slashed_from (Node production.Parens vs) i = only vs
  slashed_from (Node _ vs) i = slash_alone

  pub slashed_spelled : Spelled (slashed a b)
  slashed_spelled = slashed_from (out-Raw a.raw) s.inside
