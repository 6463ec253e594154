-- The table of the first prefixes, one binding after another.
use Rattle.std.proofs.Common.{◌≡◌, ℕ, List, [], ◌∷◌, Bool, true, false, not, ◌&&◌, Option, Some, None}
use Rattle.std.proofs.Common.{refl, sym, ap, ◌∙◌, cond, drop, length, ◌+◌, ◌<◌, get_or}
use Rattle.std.specs.Str.{bytes_eq}
use Rattle.xt_names.proofs.ListLemmas.{drop_at}
use Rattle.xt_names.specs.Allowed.{is_empty_text}
use Rattle.xt_names.specs.declared.names.Binding.{Binding}
use Rattle.bound_prefixes.specs.First.{or_later}
use Rattle.expr_drafts.specs.NamePrefixes.Firsts.{has_uri, names_by, prefix_at, prefix_by, first_prefix}
use Rattle.bound_prefixes.proofs.TableLemmas.{or_nothing}
use Rattle.xt_names.specs.ExprNames.{uri_of}

-- a test that does not hold adds nothing
nothing_added : (test : Bool) (found : Option (List ℕ)) (p : List ℕ) → test ≡ false
    → found ≡ or_later found (cond test (Some p) None)
nothing_added test found p e =
    sym (ap (λ (t : Bool). or_later found (cond t (Some p) None)) e ∙ or_nothing found)

no_uri : (e same : Bool) (u : List ℕ) → e ≡ true → (not (is_empty_text u) && (same && not e)) ≡ false
no_uri e same u h = ap (λ (t : Bool). not (is_empty_text u) && (same && not t)) h ∙ never (not (is_empty_text u)) same
  where
    never : (a b : Bool) → (a && (b && false)) ≡ false
    never true true = refl
    never true false = refl
    never false b = refl

-- no name has the empty prefix
pub unnamed : (bound : List Binding) (b : Binding) (uri : List ℕ) (found : Option (List ℕ))
    → is_empty_text b.prefix ≡ true → found ≡ or_later found (prefix_by bound b uri)
unnamed bound b uri found e =
    nothing_added (names_by bound b uri) found b.prefix
    (ap (λ (t : Bool). not t && has_uri bound b.prefix uri) e)

-- the prefix is not declared
pub undeclared : (bound : List Binding) (b : Binding) (uri : List ℕ) (found : Option (List ℕ))
    → is_empty_text (uri_of bound b.prefix) ≡ true → found ≡ or_later found (prefix_by bound b uri)
undeclared bound b uri found e =
    nothing_added (names_by bound b uri) found b.prefix
    (no_uri (is_empty_text (uri_of bound b.prefix)) (bytes_eq (uri_of bound b.prefix) uri) b.prefix e)

-- names can have it
pub declared : (bound : List Binding) (b : Binding) (uri : List ℕ)
    → is_empty_text b.prefix ≡ false → is_empty_text (uri_of bound b.prefix) ≡ false
    → prefix_at (uri_of bound b.prefix) b.prefix uri ≡ prefix_by bound b uri
declared bound b uri p d =
    sym (ap (λ (t : Bool). cond (not t && has_uri bound b.prefix uri) (Some b.prefix) None) p
    ∙ ap (λ (t : Bool). cond (bytes_eq (uri_of bound b.prefix) uri && not t) (Some b.prefix) None) d
    ∙ ap (λ (t : Bool). cond t (Some b.prefix) None) (alone (bytes_eq (uri_of bound b.prefix) uri)))
  where
    alone : (t : Bool) → (t && true) ≡ t
    alone true = refl
    alone false = refl

pub ruleset additions = (unnamed, undeclared, declared)

both : (found rest : Option (List ℕ)) (e : Bool) (p : List ℕ)
    → or_later (or_later found (cond e (Some p) None)) rest
    ≡ or_later found (cond e (Some p) rest)
both None rest true p = refl
both None rest false p = refl
both (Some u) rest true p = refl
both (Some u) rest false p = refl

-- one binding more
pub turn : (bound all : List Binding) (i : ℕ) (b : Binding) (old new : List ℕ → Option (List ℕ))
    → i < length all → b ≡ get_or all i b
    → ((u : List ℕ) → or_later (old u) (first_prefix bound (drop i all) u)
    ≡ first_prefix bound all u)
    → ((u : List ℕ) → new u ≡ or_later (old u) (prefix_by bound b u))
    → (u : List ℕ) → or_later (new u) (first_prefix bound (drop (i + 1) all) u)
    ≡ first_prefix bound all u
turn bound all i b old new h e before step u =
    let here : drop i all ≡ b ∷ drop (i + 1) all = drop_at all i b h e in
    ap (λ (f : Option (List ℕ)). or_later f (first_prefix bound (drop (i + 1) all) u)) (step u)
    ∙ both (old u) (first_prefix bound (drop (i + 1) all) u) (names_by bound b u) b.prefix
    ∙ sym (ap (λ (l : List Binding). or_later (old u) (first_prefix bound l u)) here)
    ∙ before u
