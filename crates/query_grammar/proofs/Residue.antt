-- What the rest of the tokens must be at each place of a query.
use Rattle.std.proofs.Common.{◌≡◌, ℕ, Bool, true, false, cond, codes}
use Rattle.std.proofs.Common.{List, [], ◌∷◌, ◌++◌, refl, sym, ◌∙◌, ap, subst}
use Rattle.std.proofs.Common.{Option, Some, None, option_and_then}
use Rattle.std.proofs.lemmas.Option.{none-some, same_Some}
use Rattle.std.specs.Str.{bytes_eq}
use Rattle.expr_keys.specs.declared.keys.Key.{Key}
use Rattle.expr_keys.specs.declared.keys.Key.TheVariants as key
use Rattle.expr_keys.specs.Keys.{same_key}
use Rattle.expr_keys.specs.declared.tokens.Token.{Token}
use Rattle.expr_keys.specs.declared.tokens.Token.TheVariants as token
use Rattle.expr_terms.specs.declared.raws.Raw.{Raw}
use Rattle.expr_terms.specs.declared.raws.Raw.TheVariants as raw
use Rattle.expr_terms.specs.declared.choices.Second.{Second}
use Rattle.expr_terms.specs.declared.choices.Second.TheVariants as second
use Rattle.expr_keys.specs.declared.productions.Language.{Language}
use Rattle.expr_keys.specs.declared.productions.Language.TheVariants.{Xquery as xquery}
use Rattle.expr_keys.specs.declared.productions.Production.TheVariants.{WholeExpr as whole_expr}
use Rattle.expr_keys.specs.declared.productions.Production.TheVariants.{NextExprSingle as next_expr_single}
use Rattle.expr_keys.specs.declared.productions.Nonterminal.TheVariants.{ExprSingle as expr_single}
use Rattle.expr_keys.specs.declared.productions.Symbol.TheVariants.{One as one}
use Rattle.expr_terms.specs.Choices.{second_of, open_next}
use Rattle.expr_terms.specs.Raws.{build}
use Rattle.expr_grammar.specs.Grammar.{Derives, Seq, next, end, Spells}
use Rattle.expr_grammar.specs.Machine.{Frame, advance, run, start, read_whole, deep}
use Rattle.expr_grammar.proofs.Keys.{same}
use Rattle.expr_grammar.proofs.Residue as residue
use Rattle.expr_grammar.proofs.Steps as expr
use Rattle.expr_grammar.proofs.Run.{run_finds, run_found, spells_runs, runs_spells}
use Rattle.query_grammar.specs.QueryPlaces.Places.{start_single, IsStart, production, single_alone}
use Rattle.query_grammar.specs.QueryPlaces.Places.{Reached, began, onward}
use Rattle.query_grammar.specs.declared.declared.Opening.{Opening}
use Rattle.query_grammar.specs.declared.declared.Opening.TheVariants as opening
use Rattle.query_grammar.specs.declared.declared.Typed.{Typed}
use Rattle.query_grammar.specs.declared.declared.Declared.{Declared}
use Rattle.query_grammar.specs.declared.declared.Declared.TheVariants as declared
use Rattle.query_grammar.specs.Words.{is_named, opening_of, may_open, declared_by, versioned}
use Rattle.query_grammar.specs.Prolog.{Cut, here, there, IsBehind, IsQuery}
use Rattle.query_grammar.specs.Machine as machine
use Rattle.query_grammar.specs.declared.declared.Signature.{Signature}
use Rattle.query_grammar.specs.Machine.{Mode, function_of}
use Rattle.query_grammar.proofs.Tokens.{heads}
use Rattle.xt_names.proofs.BoolLemmas.{never}

-- the open productions of an expression
pub record Ready (fs : List Frame) : Type 0 where
  pub from : List Frame
  pub is_start : IsStart from
  pub reached : Reached xquery from fs

some_raw : Raw
some_raw = raw.Leaf token.EnclosedOpen

sound_start : {from : List Frame} → IsStart from → residue.IsSound from
sound_start (production p) = (residue.ok_body p, tt)
sound_start single_alone = (refl, tt)

stepped_sound : (l : Language) (t : Token) (ts : List Token) (fs gs : List Frame)
    (o : Option (List Frame)) → o ≡ Some gs → expr.Steps l some_raw t ts fs o → residue.IsSound gs
stepped_sound l t ts fs gs None e s = absurd (none-some _ e)
stepped_sound l t ts fs gs (Some hs) e s = subst residue.IsSound (same_Some _ _ e) s.2

sound_reached : {l : Language} {from fs : List Frame} → IsStart from → Reached l from fs
    → residue.IsSound fs
sound_reached i began = sound_start i
sound_reached {l = l} i (onward {fs = fs} {gs = gs} t ts r e) =
    stepped_sound l t ts fs gs (advance l t (second_of ts) fs) e
    (expr.steps l some_raw t ts fs (sound_reached i r))

pub sound : {fs : List Frame} → Ready fs → residue.IsSound fs
sound r = sound_reached r.is_start r.reached

pub ready_on : {fs gs : List Frame} (t : Token) (ts : List Token) → Ready fs
    → advance xquery t (second_of ts) fs ≡ Some gs → Ready gs
ready_on t ts r e =
    record { from = r.from; is_start = r.is_start; reached = onward t ts r.reached e }

pub ready_top : Ready (start whole_expr)
ready_top = record { from = start whole_expr; is_start = production whole_expr; reached = began }

pub ready_single : Ready start_single
ready_single = record { from = start_single; is_start = single_alone; reached = began }

-- an expression, and a single one
pub spelled : {ts : List Token} {v : Raw} → Spells xquery ts v
    → residue.Rest xquery v (start whole_expr) ts
spelled {ts = ts} {v = v} s = run_found xquery v ts (start whole_expr) (sound ready_top) (spells_runs s)

pub spells : {ts : List Token} {v : Raw} → residue.Rest xquery v (start whole_expr) ts
    → Spells xquery ts v
spells {ts = ts} {v = v} r = runs_spells (run_finds xquery v ts (start whole_expr) (sound ready_top) r)

pub alone_rest : {ts : List Token} {v : Raw} → Derives xquery expr_single ts v []
    → residue.Rest xquery v start_single ts
alone_rest {v = v} d =
    record { values = v ∷ []; mid = []; first = next d end; after = residue.over }

over_end : {w v : Raw} {ts : List Token} → residue.Feeds xquery w [] v ts → (v ≡ w) × (ts ≡ [])
over_end residue.over = (refl, refl)

only_one : {ts mid : List Token} {vs : List Raw} {w : Raw}
    → Seq xquery (one expr_single ∷ []) ts vs mid
    → residue.Feeds xquery w [] (build next_expr_single ([] ++ vs)) mid → Derives xquery expr_single ts w []
only_one {ts = ts} (next {v = v} d end) f =
    let o = over_end f in
    subst (λ x. Derives xquery expr_single ts x []) o.0
    (subst (λ x. Derives xquery expr_single ts v x) o.1 d)

pub rest_alone : {ts : List Token} {w : Raw} → residue.Rest xquery w start_single ts
    → Derives xquery expr_single ts w []
rest_alone a = only_one a.first a.after

-- a token leads on exactly where the rest does
pub stepped : {fs : List Frame} (v : Raw) (t : Token) (ts : List Token) (o : Option (List Frame))
    → Ready fs → advance xquery t (second_of ts) fs ≡ o → expr.Steps xquery v t ts fs o
stepped {fs = fs} v t ts o r e =
    subst (λ x. expr.Steps xquery v t ts fs x) e (expr.steps xquery v t ts fs (sound r))

-- what follows a semicolon or a brace tells nothing of what comes before it
pub second_semicolon : {more ts seg : List Token} → Cut (token.Key key.Semicolon) more ts seg
    → second_of ts ≡ second_of seg
second_semicolon here = refl
second_semicolon (there here) = refl
second_semicolon (there (there c)) = refl

pub second_brace : {more ts seg : List Token} → Cut (token.Key key.CloseBrace) more ts seg
    → second_of ts ≡ second_of seg
second_brace here = refl
second_brace (there here) = refl
second_brace (there (there c)) = refl

-- a declaration, its semicolon and a query
pub record Declares (P : List Token → Declared → Type 0) (ts : List Token) (ds : List Declared)
    (v : Raw) : Type 0 where
  pub seg : List Token
  pub more : List Token
  pub first : Declared
  pub rest : List Declared
  pub cut : Cut (token.Key key.Semicolon) more ts seg
  pub is : P seg first
  pub are : ds ≡ first ∷ rest
  pub query : IsQuery more rest v

abbrev pub Valued : Typed → List Frame → List Token → Declared → Type 0
Valued n fs seg d =
    (w : Raw) × ((d ≡ declared.Variable n (Some w)) × residue.Rest xquery w fs seg)

pub record Defined (q : Signature) (fs : List Frame) (seg : List Token) (d : Declared)
    : Type 0 where
  pub value : Raw
  pub tokens : List Token
  pub is : d ≡ function_of q value
  pub cut : Cut (token.Key key.CloseBrace) [] seg tokens
  pub rest : residue.Rest xquery value fs tokens

abbrev pub Shut : Declared → List Token → Declared → Type 0
Shut d seg e = (seg ≡ []) × (e ≡ d)

abbrev pub Rest : Mode → List Token → List Declared → Raw → Type 0
Rest machine.front ts ds v = IsQuery ts ds v
Rest (machine.held a r) ts ds v = IsQuery (a ∷ ts) ds v
Rest (machine.head o us) ts ds v = Declares (λ seg d. IsBehind o (us ++ seg) d) ts ds v
Rest (machine.body fs) ts ds v = (ds ≡ []) × residue.Rest xquery v fs ts
Rest (machine.value n fs) ts ds v = Declares (Valued n fs) ts ds v
Rest (machine.inner q fs) ts ds v = Declares (Defined q fs) ts ds v
Rest (machine.closed d) ts ds v = Declares (Shut d) ts ds v

abbrev pub Valid : Mode → List Token → Type 0
Valid machine.front ts = Unit {0}
Valid (machine.held a r) ts = (r ≡ second_of ts) × (may_open a ≡ true)
Valid (machine.head o us) ts = heads us ≡ true
Valid (machine.body fs) ts = Ready fs
Valid (machine.value n fs) ts = Ready fs
Valid (machine.inner q fs) ts = Ready fs
Valid (machine.closed d) ts = Unit {0}

-- no expression begins with two names
names_stop : (b : Bool) (s : Second) (n m : List ℕ)
    → option_and_then (advance xquery (token.Name m) s)
    (advance xquery (token.Name n) (cond b second.BeforeNamed second.Alone) (start whole_expr)) ≡ None
unfolding deep
names_stop true second.Alone n m = refl
names_stop true _ n m = refl
names_stop false second.Alone n m = refl
names_stop false _ n m = refl

both_none : {A B C : Type 0} (f : A → Option B) (g : B → Option C) (o : Option A)
    → option_and_then f o ≡ None → option_and_then (λ x. option_and_then g (f x)) o ≡ None
both_none f g None e = refl
both_none f g (Some x) e = ap (option_and_then g) e

two_names : (n m : List ℕ) (ts : List Token)
    → read_whole xquery (token.Name n ∷ token.Name m ∷ ts) ≡ None
two_names n m ts =
    both_none (advance xquery (token.Name m) (second_of ts)) (run xquery ts)
    (advance xquery (token.Name n) (cond (open_next ts) second.BeforeNamed second.Alone)
    (start whole_expr))
    (names_stop (open_next ts) (second_of ts) n m)

none_chosen : (a b : Bool) (o : Opening) → cond a None (cond b None None) ≡ Some o → ⊥
none_chosen true b o e = none-some o e
none_chosen false true o e = none-some o e
none_chosen false false o e = none-some o e

pub unopened : (a t : Token) → may_open a ≡ false → opening_of a t ≡ None
unopened a t e = go (is_named (codes "declare") a) (is_named (codes "xquery") a) e
  where
    go : (x y : Bool) → cond x true y ≡ false
        → cond x (declared_by t) (cond y (versioned t) None) ≡ None
    go true y f = never (sym f)
    go false true f = never (sym f)
    go false false f = refl

-- .. nor with a name and `namespace`
name_stops : (b : Bool) (s : Second) (n : List ℕ)
    → option_and_then (advance xquery (token.Key key.NamespaceWord) s)
    (advance xquery (token.Name n) (cond b second.BeforeNamed second.Alone) (start whole_expr)) ≡ None
unfolding deep
name_stops true second.Alone n = refl
name_stops true _ n = refl
name_stops false second.Alone n = refl
name_stops false _ n = refl

name_and_key : (n : List ℕ) (k : Key) (ts : List Token) → key.NamespaceWord ≡ k
    → read_whole xquery (token.Name n ∷ token.Key k ∷ ts) ≡ None
name_and_key n k ts e =
    subst (λ z. read_whole xquery (token.Name n ∷ token.Key z ∷ ts) ≡ None) e
    (both_none (advance xquery (token.Key key.NamespaceWord) (second_of ts)) (run xquery ts)
    (advance xquery (token.Name n) (cond (open_next ts) second.BeforeNamed second.Alone)
    (start whole_expr))
    (name_stops (open_next ts) (second_of ts) n))

key_opens : (a b c : Bool) (o : Opening)
    → cond a (cond c (Some opening.Namespace) None) (cond b None None) ≡ Some o → c ≡ true
key_opens a b true o e = refl
key_opens true b false o e = absurd (none-some o e)
key_opens false true false o e = absurd (none-some o e)
key_opens false false false o e = absurd (none-some o e)

pub no_names : (a t : Token) (ts : List Token) (o : Opening) (v : Raw)
    → opening_of a t ≡ Some o → Spells xquery (a ∷ t ∷ ts) v → ⊥
no_names (token.Name n) (token.Name m) ts o v e s =
    none-some v (sym (two_names n m ts) ∙ spells_runs s)
no_names (token.Name n) (token.Key k) ts o v e s =
    let f = key_opens (bytes_eq n (codes "declare")) (bytes_eq n (codes "xquery"))
    (same_key key.NamespaceWord k) o e in
    none-some v (sym (name_and_key n k ts (same key.NamespaceWord k f)) ∙ spells_runs s)
no_names (token.Name n) t ts o v e s =
    none_chosen (bytes_eq n (codes "declare")) (bytes_eq n (codes "xquery")) o e
no_names a t ts o v e s = none-some o e
