-- Parameters, and rules of white space, one more of them.
use Rattle.std.proofs.Common.{◌≡◌, ◌<◌, ◌≤◌, ℕ, ◌+◌, ◌-◌, List, [], ◌∷◌, ◌++◌, length, drop, get_or}
use Rattle.std.proofs.Common.{refl, sym, ap, ◌∙◌, append_assoc, arith, length-drop}
use Rattle.xt_names.proofs.ListLemmas.{drop_at}
use Rattle.xt_types.specs.declared.node_tests.SpaceRule.{SpaceRule}
use Rattle.xt_syntax.specs.declared.prefixes.Prefixes.{Prefixes}
use Rattle.xt_syntax.specs.declared.queries.QueryParam.{QueryParam}
use Rattle.expr_keys.specs.declared.keys.Key.TheVariants as key
use Rattle.expr_keys.specs.declared.tokens.Token.{Token}
use Rattle.expr_keys.specs.declared.tokens.Token.TheVariants as token
use Rattle.expr_drafts.proofs.Turns.{from_place}
use Rattle.printed_laws.specs.QueryRaws.Prologs.{rule_text, rules_text}
use Rattle.printed_laws.specs.QueryRaws.Declarations.{typed_tokens, params_tokens}
use Rattle.std.proofs.lemmas.List.{append-nil}

between : (p : Prefixes) (b : QueryParam) (ys : List QueryParam) (page mid ts : List Token)
    → page ≡ params_tokens p ys ++ ts → (0 < length ys → mid ≡ token.Key key.Comma ∷ page)
    → (length ys ≡ 0 → mid ≡ page)
    → typed_tokens p b.name b.kind ++ mid ≡ params_tokens p (b ∷ ys) ++ ts
between p b [] page mid ts e m l = ap (λ us. typed_tokens p b.name b.kind ++ us) (l refl ∙ e)
between p b (y ∷ ys) page mid ts e m l =
    ap (λ us. typed_tokens p b.name b.kind ++ us)
    (m (omega arith) ∙ ap (λ us. token.Key key.Comma ∷ us) e)
    ∙ sym (append_assoc (typed_tokens p b.name b.kind)
    (token.Key key.Comma ∷ params_tokens p (y ∷ ys)) ts)

-- a parameter more
pub param_turn : (p : Prefixes) (xs : List QueryParam) (i : ℕ) (x : QueryParam)
    (page mid new ts : List Token) → 0 < i → i ≤ length xs → x ≡ get_or xs (i - 1) x
    → page ≡ params_tokens p (drop i xs) ++ ts
    → (i - 1 + 1 < length xs → mid ≡ token.Key key.Comma ∷ page)
    → (length xs ≤ i - 1 + 1 → mid ≡ page) → new ≡ typed_tokens p x.name x.kind ++ mid
    → new ≡ params_tokens p (drop (i - 1) xs) ++ ts
param_turn p xs i x page mid new ts o h e q m l n =
    let s : length (drop i xs) ≡ length xs - i = length-drop i xs in
    n ∙ (ap (λ (b : QueryParam). typed_tokens p b.name b.kind ++ mid) e
    ∙ (between p (get_or xs (i - 1) x) (drop i xs) page mid ts q
    (λ z. m (omega arith)) (λ z. l (omega arith))
    ∙ sym (from_place (λ (ys : List QueryParam). params_tokens p ys ++ ts) xs i x o h)))

pub finish_params : (p : Prefixes) (xs : List QueryParam) (i : ℕ) (page ts : List Token) → i ≤ 0
    → page ≡ params_tokens p (drop i xs) ++ ts → page ≡ params_tokens p xs ++ ts
finish_params p xs i page ts h e =
    let z : i ≡ 0 = omega arith in
    e ∙ ap (λ (n : ℕ). params_tokens p (drop n xs) ++ ts) z

step : (p : Prefixes) (r : SpaceRule) (qs : List SpaceRule) (out mid new all : List ℕ)
    → out ++ rules_text p (r ∷ qs) ≡ all → mid ≡ out ++ rule_text p r
    → (0 < length qs → new ≡ mid ++ 32 ∷ []) → (length qs ≡ 0 → new ≡ mid)
    → new ++ rules_text p qs ≡ all
step p r [] out mid new all a e m l =
    ap (λ us. us ++ []) (l refl ∙ e) ∙ (append-nil (out ++ rule_text p r) ∙ a)
step p r (q ∷ qs) out mid new all a e m l =
    ap (λ us. us ++ rules_text p (q ∷ qs)) (m (omega arith) ∙ ap (λ us. us ++ 32 ∷ []) e)
    ∙ (append_assoc (out ++ rule_text p r) (32 ∷ []) (rules_text p (q ∷ qs))
    ∙ (append_assoc out (rule_text p r) (32 ∷ rules_text p (q ∷ qs)) ∙ a))

-- a rule more
pub rule_turn : (p : Prefixes) (rs : List SpaceRule) (i : ℕ) (r : SpaceRule)
    (out mid new all : List ℕ) → i < length rs → r ≡ get_or rs i r
    → out ++ rules_text p (drop i rs) ≡ all → mid ≡ out ++ rule_text p r
    → (i + 1 < length rs → new ≡ mid ++ 32 ∷ []) → (length rs ≤ i + 1 → new ≡ mid)
    → new ++ rules_text p (drop (i + 1) rs) ≡ all
rule_turn p rs i r out mid new all h e a b m l =
    let s : length (drop (i + 1) rs) ≡ length rs - (i + 1) = length-drop (i + 1) rs in
    step p r (drop (i + 1) rs) out mid new all
    (sym (ap (λ (us : List SpaceRule). out ++ rules_text p us) (drop_at rs i r h e)) ∙ a) b
    (λ z. m (omega arith)) (λ z. l (omega arith))
