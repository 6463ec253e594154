-- The tokens of declarations, one list of them after another.
use Rattle.std.proofs.Common.{◌≡◌, List, [], ◌∷◌, ◌++◌, map, true, ◌&&◌}
use Rattle.std.proofs.Common.{refl, sym, ap, subst, ◌∙◌}
use Rattle.std.proofs.lemmas.Bool.{and_parts}
use Rattle.xt_names.specs.declared.names.Binding.{Binding}
use Rattle.xt_types.specs.declared.node_tests.SpaceRule.{SpaceRule}
use Rattle.xt_syntax.specs.declared.prefixes.Prefixes.{Prefixes}
use Rattle.xt_syntax.specs.declared.queries.Query.{Query}
use Rattle.xt_syntax.specs.declared.queries.QueryVar.{QueryVar}
use Rattle.xt_syntax.specs.declared.queries.QueryFunction.{QueryFunction}
use Rattle.expr_keys.specs.declared.keys.Key.TheVariants as key
use Rattle.expr_keys.specs.declared.tokens.Token.{Token}
use Rattle.expr_keys.specs.declared.tokens.Token.TheVariants as token
use Rattle.expr_raws.specs.Raws.{form_of, tokens_of}
use Rattle.printed_laws.specs.QueryRaws.Prologs.{DeclaredForm, version, namespace, preserved}
use Rattle.printed_laws.specs.QueryRaws.Prologs.{space_option, omit_option}
use Rattle.printed_laws.specs.QueryRaws.Declarations.{variable, function, is_clean}
use Rattle.printed_laws.specs.QueryRaws.Queries.{prefixes_of, options, late, declarations, prolog_tokens}
use Rattle.printed_laws.specs.QueryRaws.Queries.{query_tokens, all_can, can_print}

pub prolog_append : (fs gs : List DeclaredForm) (ts : List Token)
    → prolog_tokens (fs ++ gs) ts ≡ prolog_tokens fs (prolog_tokens gs ts)
prolog_append [] gs ts = refl
prolog_append (f ∷ fs) gs ts =
    ap (λ us. f.tokens ++ token.Key key.Semicolon ∷ us) (prolog_append fs gs ts)

all_append : (fs gs : List DeclaredForm) → all_can (fs ++ gs) ≡ true → all_can gs ≡ true
all_append [] gs c = c
all_append (f ∷ fs) gs c = all_append fs gs (and_parts f.can (all_can (fs ++ gs)) c).1

all_front : (fs gs : List DeclaredForm) → all_can (fs ++ gs) ≡ true → all_can fs ≡ true
all_front [] gs c = refl
all_front (f ∷ fs) gs c =
    let h = and_parts f.can (all_can (fs ++ gs)) c in
    ap (λ b. b && all_can fs) h.0 ∙ all_front fs gs h.1

-- the variables and functions of a query that can be printed can be
later : (q : Query) → can_print q ≡ true → all_can (late q) ≡ true
later q c =
    let h = and_parts (all_can (declarations q)) (is_clean (prefixes_of q) q.body) c in
    let i = and_parts true (all_can (map (λ b. namespace b) q.prefixes ++ preserved ∷ late q))
    h.0 in
    let j : all_can (preserved ∷ late q) ≡ true =
    all_append (map (λ b. namespace b) q.prefixes) (preserved ∷ late q) i.1 in
    (and_parts true (all_can (late q)) j).1

pub variables_can : (q : Query) → can_print q ≡ true
    → all_can (map (λ v. variable (prefixes_of q) v) q.variables) ≡ true
variables_can q c =
    all_front (map (λ v. variable (prefixes_of q) v) q.variables)
    (map (λ f. function (prefixes_of q) f) q.functions)
    (all_append (options q) (map (λ v. variable (prefixes_of q) v) q.variables
    ++ map (λ f. function (prefixes_of q) f) q.functions) (later q c))

pub functions_can : (q : Query) → can_print q ≡ true
    → all_can (map (λ f. function (prefixes_of q) f) q.functions) ≡ true
functions_can q c =
    all_append (map (λ v. variable (prefixes_of q) v) q.variables)
    (map (λ f. function (prefixes_of q) f) q.functions)
    (all_append (options q) (map (λ v. variable (prefixes_of q) v) q.variables
    ++ map (λ f. function (prefixes_of q) f) q.functions) (later q c))

-- the tokens of what comes after the setters, part by part
pub late_tokens : (q : Query) (ts : List Token) → prolog_tokens (late q) ts
    ≡ prolog_tokens (space_option (prefixes_of q) q.space)
    (prolog_tokens (omit_option (prefixes_of q) q.omit)
    (prolog_tokens (map (λ v. variable (prefixes_of q) v) q.variables)
    (prolog_tokens (map (λ f. function (prefixes_of q) f) q.functions) ts)))
late_tokens q ts =
    let p = prefixes_of q in
    prolog_append (options q) (map (λ v. variable p v) q.variables
    ++ map (λ f. function p f) q.functions) ts
    ∙ (prolog_append (space_option p q.space) (omit_option p q.omit) _
    ∙ ap (λ us. prolog_tokens (space_option p q.space) (prolog_tokens (omit_option p q.omit) us))
    (prolog_append (map (λ v. variable p v) q.variables) (map (λ f. function p f) q.functions) ts))

-- .. and those of the whole
pub whole_tokens : (q : Query) → query_tokens q
    ≡ version.tokens ++ token.Key key.Semicolon ∷ prolog_tokens (map (λ b. namespace b) q.prefixes)
    (preserved.tokens ++ token.Key key.Semicolon
    ∷ prolog_tokens (late q) (tokens_of (prefixes_of q) q.body))
whole_tokens q =
    ap (λ us. version.tokens ++ token.Key key.Semicolon ∷ us)
    (prolog_append (map (λ b. namespace b) q.prefixes) (preserved ∷ late q)
    (tokens_of (prefixes_of q) q.body))

-- .. whatever prefixes and lists are known to be those of the query
pub functions_ready : (q : Query) (p : Prefixes) (fs : List QueryFunction) → p ≡ prefixes_of q
    → fs ≡ q.functions → can_print q ≡ true → all_can (map (λ f. function p f) fs) ≡ true
functions_ready q p fs s t c =
    subst (λ (r : Prefixes). all_can (map (λ f. function r f) fs) ≡ true) (sym s)
    (subst (λ (gs : List QueryFunction). all_can (map (λ f. function (prefixes_of q) f) gs) ≡ true)
    (sym t) (functions_can q c))

pub variables_ready : (q : Query) (p : Prefixes) (vs : List QueryVar) → p ≡ prefixes_of q
    → vs ≡ q.variables → can_print q ≡ true → all_can (map (λ v. variable p v) vs) ≡ true
variables_ready q p vs s t c =
    subst (λ (r : Prefixes). all_can (map (λ v. variable r v) vs) ≡ true) (sym s)
    (subst (λ (us : List QueryVar). all_can (map (λ v. variable (prefixes_of q) v) us) ≡ true)
    (sym t) (variables_can q c))

functions_put : (q : Query) (p : Prefixes) (fs : List QueryFunction) (ts : List Token)
    → p ≡ prefixes_of q → fs ≡ q.functions → prolog_tokens (map (λ f. function p f) fs) ts
    ≡ prolog_tokens (map (λ f. function (prefixes_of q) f) q.functions) ts
functions_put q p fs ts s t =
    ap (λ (r : Prefixes). prolog_tokens (map (λ f. function r f) fs) ts) s
    ∙ ap (λ (gs : List QueryFunction).
    prolog_tokens (map (λ f. function (prefixes_of q) f) gs) ts) t

variables_put : (q : Query) (p : Prefixes) (vs : List QueryVar) (ts : List Token)
    → p ≡ prefixes_of q → vs ≡ q.variables → prolog_tokens (map (λ v. variable p v) vs) ts
    ≡ prolog_tokens (map (λ v. variable (prefixes_of q) v) q.variables) ts
variables_put q p vs ts s t =
    ap (λ (r : Prefixes). prolog_tokens (map (λ v. variable r v) vs) ts) s
    ∙ ap (λ (us : List QueryVar). prolog_tokens (map (λ v. variable (prefixes_of q) v) us) ts) t

space_put : (q : Query) (p : Prefixes) (rs : List SpaceRule) (ts : List Token)
    → p ≡ prefixes_of q → rs ≡ q.space → prolog_tokens (space_option p rs) ts
    ≡ prolog_tokens (space_option (prefixes_of q) q.space) ts
space_put q p rs ts s t =
    ap (λ (r : Prefixes). prolog_tokens (space_option r rs) ts) s
    ∙ ap (λ (ks : List SpaceRule). prolog_tokens (space_option (prefixes_of q) ks) ts) t

-- what comes after the setters, put part by part
pub late_made : (q : Query) (p : Prefixes) (fs : List QueryFunction) (vs : List QueryVar)
    (rs : List SpaceRule) (old a b d new : List Token) → p ≡ prefixes_of q → fs ≡ q.functions
    → vs ≡ q.variables → rs ≡ q.space
    → a ≡ prolog_tokens (map (λ f. function p f) fs) old
    → b ≡ prolog_tokens (map (λ v. variable p v) vs) a
    → d ≡ prolog_tokens (omit_option p q.omit) b
    → new ≡ prolog_tokens (space_option p rs) d
    → new ≡ prolog_tokens (late q) old
late_made q p fs vs rs old a b d new e f v r s t u w =
    let i = s ∙ functions_put q p fs old e f in
    let j = t ∙ variables_put q p vs a e v in
    let k = u ∙ ap (λ (x : Prefixes). prolog_tokens (omit_option x q.omit) b) e in
    let l = w ∙ space_put q p rs d e r in
    l ∙ (ap (prolog_tokens (space_option (prefixes_of q) q.space))
    (k ∙ ap (prolog_tokens (omit_option (prefixes_of q) q.omit))
    (j ∙ ap (prolog_tokens (map (λ v. variable (prefixes_of q) v) q.variables)) i))
    ∙ sym (late_tokens q old))

-- .. and the whole
pub whole_made : (q : Query) (p : Prefixes) (bs : List Binding) (old a b d e new : List Token)
    → old ≡ [] → p ≡ prefixes_of q → bs ≡ q.prefixes
    → a ≡ (form_of p q.body).tokens old → b ≡ prolog_tokens (late q) a
    → d ≡ preserved.tokens ++ token.Key key.Semicolon ∷ b
    → e ≡ prolog_tokens (map (λ b. namespace b) bs) d
    → new ≡ version.tokens ++ token.Key key.Semicolon ∷ e → new ≡ query_tokens q
whole_made q p bs old a b d e new o y z s t u w x =
    let i = s ∙ (ap (λ (r : Prefixes). (form_of r q.body).tokens old) y
    ∙ ap (form_of (prefixes_of q) q.body).tokens o) in
    let j = w ∙ ap (λ (cs : List Binding). prolog_tokens (map (λ b. namespace b) cs) d) z in
    x ∙ (ap (λ us. version.tokens ++ token.Key key.Semicolon ∷ us)
    (j ∙ ap (prolog_tokens (map (λ b. namespace b) q.prefixes))
    (u ∙ ap (λ us. preserved.tokens ++ token.Key key.Semicolon ∷ us)
    (t ∙ ap (prolog_tokens (late q)) i)))
    ∙ sym (whole_tokens q))
