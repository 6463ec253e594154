-- The first token that means a name is the one with the first prefix that has its uri.
use Rattle.std.proofs.Common.{◌≡◌, ℕ, List, [], ◌∷◌, Bool, true, false, not, ◌&&◌, Option, Some, None}
use Rattle.std.proofs.Common.{refl, ap, ◌∙◌, cond}
use Rattle.std.specs.Prelude.{codes}
use Rattle.std.specs.Str.{bytes_eq}
use Rattle.std.proofs.lemmas.Slice.Eq.{bytes_eq-Decides}
use Rattle.xt_names.specs.Allowed.{is_empty_text}
use Rattle.xt_names.specs.declared.codes.Code.{Code}
use Rattle.xt_names.specs.declared.codes.Code.TheVariants.{QueryStatic}
use Rattle.xt_names.specs.declared.codes.QueryStaticCode.TheVariants.{XPST0081}
use Rattle.xt_names.specs.declared.kinds.AtomType.{AtomType}
use Rattle.xt_names.specs.declared.kinds.AtomType.TheVariants as atom
use Rattle.xt_names.specs.declared.names.Binding.{Binding}
use Rattle.xt_names.specs.declared.names.ExprName.{ExprName}
use Rattle.xt_types.specs.declared.axes.Axis.{Axis}
use Rattle.xt_types.specs.declared.axes.Axis.TheVariants as axis
use Rattle.xt_types.specs.declared.node_tests.NameTest.{NameTest}
use Rattle.xt_types.specs.declared.node_tests.NameTest.TheVariants as name
use Rattle.expr_names.specs.Names.{uri_in, undeclared, undeclared_in, name_test}
use Rattle.expr_names.specs.Names.{test_broken, default_in, default_name}
use Rattle.expr_names.specs.Types.{local_type, type_named}
use Rattle.expr_keys.specs.Classes.{fits}
use Rattle.expr_keys.specs.declared.productions.Class.{Class}
use Rattle.expr_keys.specs.declared.productions.Class.TheVariants as class
use Rattle.expr_keys.specs.declared.tokens.Token.{Token}
use Rattle.expr_keys.specs.declared.tokens.Token.TheVariants as token
use Rattle.expr_rules.specs.ExprMeant.Names.{written_in, written_of, written_test_in}
use Rattle.expr_primaries.specs.ExprPaths.Steps.{defaulted}
use Rattle.expr_raws.specs.PathRaws.Names.{first_that, fitting, qualified, any_locals, no_codes, names}
use Rattle.expr_raws.specs.PathRaws.Names.{tests, same_test}
use Rattle.expr_raws.specs.ControlRaws.Types.{local_name, is_atom, types}
use Rattle.expr_drafts.specs.NamePrefixes.Firsts.{has_uri, first_prefix, prefix_of}
use Rattle.expr_drafts.specs.NameTokens.Prefixed.{made_with, qualified_with, any_local_with}
use Rattle.xt_names.specs.ExprNames.{uri_of}

-- a token for each prefix; the empty one is none
abbrev prefixed : (List ℕ → Token) → List Binding → List Token
prefixed make [] = []
prefixed make (b ∷ bs) =
    cond (is_empty_text b.prefix) (prefixed make bs) (make b.prefix ∷ prefixed make bs)

-- tokens of which the class has each or none, and that mean something where their prefix has a uri
module _ (c : Class) (f : Token → Bool) (make : List ℕ → Token) (bound : List Binding)
    (uri : List ℕ)
    (alike : (p q : List ℕ) → fits c (make p) ≡ fits c (make q))
    (means : (p : List ℕ) → is_empty_text p ≡ false → f (make p) ≡ has_uri bound p uri)
  where
    none_case : (e : Bool) (t : Token) (ts : List Token) → fits c t ≡ false
        → first_that (fitting c f) ts ≡ None
        → first_that (fitting c f) (cond e ts (t ∷ ts)) ≡ None
    none_case true t ts n h = h
    none_case false t ts n h =
        ap (λ (b : Bool). cond (b && f t) (Some t) (first_that (fitting c f) ts)) n ∙ h

    none_fits : ((p : List ℕ) → fits c (make p) ≡ false) → (bs : List Binding)
        → first_that (fitting c f) (prefixed make bs) ≡ None
    none_fits n [] = refl
    none_fits n (b ∷ bs) =
        none_case (is_empty_text b.prefix) (make b.prefix) (prefixed make bs) (n b.prefix)
        (none_fits n bs)

    here : (a : Bool) (t : Token) (rest : Option Token) → (a ≡ false → rest ≡ None)
        → cond (a && true) (Some t) rest ≡ cond a (Some t) None
    here true t rest n = refl
    here false t rest n = n refl

    later : (a : Bool) (t : Token) (rest : Option Token)
        → cond (a && false) (Some t) rest ≡ rest
    later true t rest = refl
    later false t rest = refl

    found_case : (e m : Bool) (p : List ℕ) (ts : List Token) (rest : Option (List ℕ))
        → (e ≡ false → f (make p) ≡ m)
        → (fits c (make p) ≡ false → first_that (fitting c f) ts ≡ None)
        → first_that (fitting c f) ts ≡ made_with c make rest
        → first_that (fitting c f) (cond e ts (make p ∷ ts))
        ≡ made_with c make (cond (not e && m) (Some p) rest)
    found_case true m p ts rest g n h = h
    found_case false true p ts rest g n h =
        ap (λ (b : Bool). cond (fits c (make p) && b) (Some (make p))
        (first_that (fitting c f) ts)) (g refl)
        ∙ here (fits c (make p)) (make p) (first_that (fitting c f) ts) n
    found_case false false p ts rest g n h =
        ap (λ (b : Bool). cond (fits c (make p) && b) (Some (make p))
        (first_that (fitting c f) ts)) (g refl)
        ∙ later (fits c (make p)) (make p) (first_that (fitting c f) ts) ∙ h

    found_among : (bs : List Binding) → first_that (fitting c f) (prefixed make bs)
        ≡ made_with c make (first_prefix bound bs uri)
    found_among [] = refl
    found_among (b ∷ bs) =
        found_case (is_empty_text b.prefix) (has_uri bound b.prefix uri) b.prefix
        (prefixed make bs) (first_prefix bound bs uri) (means b.prefix)
        (λ n. none_fits (λ p. alike p b.prefix ∙ n) bs) (found_among bs)

all_qualified : (local : List ℕ) (bs : List Binding)
    → qualified bs local ≡ prefixed (λ p. token.Qname p local) bs
all_qualified local [] = refl
all_qualified local (b ∷ bs) =
    ap (λ (ts : List Token). cond (is_empty_text b.prefix) ts (token.Qname b.prefix local ∷ ts))
    (all_qualified local bs)

all_locals : (bs : List Binding) → any_locals bs ≡ prefixed (λ p. token.AnyLocal p) bs
all_locals [] = refl
all_locals (b ∷ bs) =
    ap (λ (ts : List Token). cond (is_empty_text b.prefix) ts (token.AnyLocal b.prefix ∷ ts))
    (all_locals bs)

-- no class asks for a prefix
qualified_alike : (c : Class) (local p q : List ℕ)
    → fits c (token.Qname p local) ≡ fits c (token.Qname q local)
qualified_alike class.Name local p q = refl
qualified_alike _ local p q = refl

local_alike : (c : Class) (p q : List ℕ) → fits c (token.AnyLocal p) ≡ fits c (token.AnyLocal q)
local_alike class.Name p q = refl
local_alike _ p q = refl

same : (cs : List ℕ) → bytes_eq cs cs ≡ true
same cs = (bytes_eq-Decides cs cs).1 refl

is_declared : (a e : Bool) (c : Code) → (a && no_codes (cond e (c ∷ []) [])) ≡ (a && not e)
is_declared true true c = refl
is_declared true false c = refl
is_declared false e c = refl

and_true : (a b : Bool) → b ≡ true → (a && b) ≡ a
and_true true b e = e
and_true false b e = refl

neither : (a b : Bool) → (a && false) ≡ (b && false)
neither true true = refl
neither true false = refl
neither false true = refl
neither false false = refl

-- a name with a prefix is that of its uri
named : (bound : List Binding) (default : List ℕ) (n : ExprName) (p : List ℕ)
    → is_empty_text p ≡ false
    → names bound default n (token.Qname p n.local) ≡ has_uri bound p n.uri
unfolding written_in uri_in undeclared_in undeclared
named bound default n p e =
    ap (λ (x : Bool). (bytes_eq (cond x default (uri_of bound p)) n.uri
    && bytes_eq n.local n.local) && no_codes (cond x [] (undeclared bound p))) e
    ∙ ap (λ (x : Bool). x && no_codes (undeclared bound p))
    (and_true (bytes_eq (uri_of bound p) n.uri) (bytes_eq n.local n.local) (same n.local))
    ∙ is_declared (bytes_eq (uri_of bound p) n.uri) (is_empty_text (uri_of bound p))
    (QueryStatic XPST0081)

-- .. and has no default uri
not_defaulted : (default : List ℕ) (on : Axis) (m : ExprName) → is_empty_text m.uri ≡ false
    → defaulted default on (name.Exact m) ≡ name.Exact m
unfolding defaulted default_in default_name
not_defaulted default axis.Attribute m e = refl
not_defaulted default _ m e =
    let d : ExprName = record { uri = default; local = m.local } in
    ap (λ (x : Bool). name.Exact (cond x d m)) e

uri_kept : (default : List ℕ) (on : Axis) (uri : List ℕ)
    → defaulted default on (name.Uri uri) ≡ name.Uri uri
unfolding defaulted default_in
uri_kept default axis.Attribute uri = refl
uri_kept default _ uri = refl

exact_case : (default : List ℕ) (on : Axis) (n : ExprName) (u : List ℕ) (x : Bool)
    → is_empty_text u ≡ x
    → (same_test (defaulted default on (name.Exact (record { uri = u; local = n.local })))
    (name.Exact n) && no_codes (cond x (QueryStatic XPST0081 ∷ []) []))
    ≡ (bytes_eq u n.uri && not x)
exact_case default on n u true h =
    neither (same_test (defaulted default on (name.Exact (record { uri = u; local = n.local })))
    (name.Exact n)) (bytes_eq u n.uri)
exact_case default on n u false h =
    ap (λ (t : NameTest). same_test t (name.Exact n) && true)
    (not_defaulted default on (record { uri = u; local = n.local }) h)
    ∙ ap (λ (b : Bool). b && true)
    (and_true (bytes_eq u n.uri) (bytes_eq n.local n.local) (same n.local))

-- a name test with a prefix is that of its uri
tested : (bound : List Binding) (default : List ℕ) (on : Axis) (n : ExprName) (p : List ℕ)
    → is_empty_text p ≡ false
    → tests bound default on (name.Exact n) (token.Qname p n.local) ≡ has_uri bound p n.uri
unfolding written_in written_test_in uri_in undeclared_in undeclared name_test test_broken
tested bound default on n p e =
    ap (λ (x : Bool). same_test (defaulted default on (name.Exact
    (record { uri = cond x [] (uri_of bound p); local = n.local }))) (name.Exact n)
    && no_codes (cond x [] (undeclared bound p))) e
    ∙ exact_case default on n (uri_of bound p) (is_empty_text (uri_of bound p)) refl

-- `p:*` has the uri of its prefix
any_tested : (bound : List Binding) (default : List ℕ) (on : Axis) (uri p : List ℕ)
    → tests bound default on (name.Uri uri) (token.AnyLocal p) ≡ has_uri bound p uri
unfolding written_test_in name_test test_broken undeclared
any_tested bound default on uri p =
    ap (λ (t : NameTest). same_test t (name.Uri uri) && no_codes (undeclared bound p))
    (uri_kept default on (uri_of bound p))
    ∙ is_declared (bytes_eq (uri_of bound p) uri) (is_empty_text (uri_of bound p))
    (QueryStatic XPST0081)

abbrev types_uri : List ℕ
types_uri = codes "http://www.w3.org/2001/XMLSchema"

its_own : (k : AtomType) → is_atom k (local_type (local_name k)) ≡ true
its_own atom.Str = refl
its_own _ = refl

of_types : (k : AtomType) (b : Bool) → is_atom k (cond b (local_type (local_name k)) None) ≡ b
of_types k true = its_own k
of_types k false = refl

-- the local name of a type names it where its prefix has the uri of types
typed : (bound : List Binding) (k : AtomType) (p : List ℕ) → is_empty_text p ≡ false
    → types bound k (token.Qname p (local_name k)) ≡ has_uri bound p types_uri
unfolding written_in written_of uri_in undeclared_in undeclared type_named
typed bound k p e =
    ap (λ (x : Bool). is_atom k (cond (bytes_eq (cond x [] (uri_of bound p)) types_uri)
    (local_type (local_name k)) None) && no_codes (cond x [] (undeclared bound p))) e
    ∙ ap (λ (b : Bool). b && no_codes (undeclared bound p))
    (of_types k (bytes_eq (uri_of bound p) types_uri))
    ∙ is_declared (bytes_eq (uri_of bound p) types_uri) (is_empty_text (uri_of bound p))
    (QueryStatic XPST0081)

pub names_found : (c : Class) (bound : List Binding) (default : List ℕ) (n : ExprName)
    → first_that (fitting c (names bound default n)) (qualified bound n.local)
    ≡ qualified_with c n.local (prefix_of bound n.uri)
names_found c bound default n =
    ap (λ (ts : List Token). first_that (fitting c (names bound default n)) ts)
    (all_qualified n.local bound)
    ∙ found_among c (names bound default n) (λ p. token.Qname p n.local) bound n.uri
    (qualified_alike c n.local) (named bound default n) bound

pub tests_found : (c : Class) (bound : List Binding) (default : List ℕ) (on : Axis)
    (n : ExprName)
    → first_that (fitting c (tests bound default on (name.Exact n))) (qualified bound n.local)
    ≡ qualified_with c n.local (prefix_of bound n.uri)
tests_found c bound default on n =
    ap (λ (ts : List Token). first_that (fitting c (tests bound default on (name.Exact n))) ts)
    (all_qualified n.local bound)
    ∙ found_among c (tests bound default on (name.Exact n)) (λ p. token.Qname p n.local) bound
    n.uri (qualified_alike c n.local) (tested bound default on n) bound

pub any_local_found : (c : Class) (bound : List Binding) (default : List ℕ) (on : Axis)
    (uri : List ℕ)
    → first_that (fitting c (tests bound default on (name.Uri uri))) (any_locals bound)
    ≡ any_local_with c (prefix_of bound uri)
any_local_found c bound default on uri =
    ap (λ (ts : List Token). first_that (fitting c (tests bound default on (name.Uri uri))) ts)
    (all_locals bound)
    ∙ found_among c (tests bound default on (name.Uri uri)) (λ p. token.AnyLocal p) bound uri
    (local_alike c) (λ p e. any_tested bound default on uri p) bound

pub ruleset found_tokens = (names_found, tests_found, any_local_found)

pub type_found : (bound : List Binding) (k : AtomType)
    → first_that (fitting class.Name (types bound k)) (qualified bound (local_name k))
    ≡ qualified_with class.Name (local_name k)
    (prefix_of bound (codes "http://www.w3.org/2001/XMLSchema"))
type_found bound k =
    ap (λ (ts : List Token). first_that (fitting class.Name (types bound k)) ts)
    (all_qualified (local_name k) bound)
    ∙ found_among class.Name (types bound k) (λ p. token.Qname p (local_name k)) bound types_uri
    (qualified_alike class.Name (local_name k)) (typed bound k) bound
