-- Names in a scope are in each wider one.
use Rattle.std.proofs.Common.{◌≡◌, ℕ, List, [], ◌∷◌, ◌++◌, Bool, true, false, cond, ◌||◌, ◌&&◌, ◌⊎◌}
use Rattle.std.proofs.Common.{inl, inr, refl, sym, subst, ◌∙◌}
use Rattle.std.proofs.lemmas.Bool.{and_parts, or_cases, or_left, or_right}
use Rattle.std.proofs.lemmas.List.Folds.{list_any-append}
use Rattle.std.proofs.lemmas.Slice.Eq.{bytes_eq-Decides}
use Rattle.std.specs.List.{list_any}
use Rattle.std.specs.Str.{bytes_eq}
use Rattle.xt_names.specs.declared.names.ExprName.{ExprName}
use Rattle.name_rules.specs.Broken.{Binder, behind}
use Rattle.name_rules.specs.Scopes.{has_name, with_name, with_names}
use Rattle.xt_names.specs.ExprNames.{same_name}

-- each name of the one scope is in the other
abbrev pub Within : List ExprName → List ExprName → Type 0
Within s t = (n : ExprName) → has_name s n ≡ true → has_name t n ≡ true

-- one name for another of the same uri and local part
name_in : (m n : ExprName) (s : List ExprName) → same_name m n ≡ true → has_name s n ≡ true
    → has_name s m ≡ true
name_in m n s e h =
    let p = and_parts (bytes_eq m.uri n.uri) (bytes_eq m.local n.local) e in
    let u : m.uri ≡ n.uri = (bytes_eq-Decides m.uri n.uri).0 p.0 in
    let l : m.local ≡ n.local = (bytes_eq-Decides m.local n.local).0 p.1 in
    subst (λ (x : List ℕ). list_any (λ (b : ExprName). bytes_eq x b.uri && bytes_eq m.local b.local) s
    ≡ true) (sym u)
    (subst (λ (x : List ℕ). list_any (λ (b : ExprName). bytes_eq n.uri b.uri && bytes_eq x b.local) s
    ≡ true) (sym l) h)

-- a name in a scope with one more is in the scope, or it is that one
named : (s : List ExprName) (n m : ExprName) → has_name (with_name s n) m ≡ true
    → (has_name s m ≡ true) ⊎ (same_name m n ≡ true)
named s n m h = go (has_name s n) h
  where
    last : (same_name m n || false) ≡ true → (has_name s m ≡ true) ⊎ (same_name m n ≡ true)
    last e = elim (or_cases (same_name m n) false e) [ inl a ↦ inr a | inr b ↦ absurd cc ]

    go : (b : Bool) → has_name (cond b s (s ++ n ∷ [])) m ≡ true
        → (has_name s m ≡ true) ⊎ (same_name m n ≡ true)
    go true e = inl e
    go false e = elim (or_cases (has_name s m) (same_name m n || false)
        (sym (list_any-append (same_name m) s (n ∷ [])) ∙ e)) [ inl a ↦ inl a | inr b ↦ last b ]

pub keeps_old : (s : List ExprName) (n m : ExprName) → has_name s m ≡ true
    → has_name (with_name s n) m ≡ true
keeps_old s n m h = go (has_name s n)
  where
    go : (b : Bool) → has_name (cond b s (s ++ n ∷ [])) m ≡ true
    go true = h
    go false = list_any-append (same_name m) s (n ∷ []) ∙ or_left (has_name s m) _ h

has_new : (s : List ExprName) (n m : ExprName) → same_name m n ≡ true
    → has_name (with_name s n) m ≡ true
has_new s n m e = go (has_name s n) refl
  where
    go : (b : Bool) → has_name s n ≡ b → has_name (cond b s (s ++ n ∷ [])) m ≡ true
    go true h = name_in m n s e h
    go false h = list_any-append (same_name m) s (n ∷ [])
        ∙ or_right (has_name s m) (same_name m n || false) (or_left (same_name m n) false e)

within_name : (s t : List ExprName) (n : ExprName) → Within s t
    → Within (with_name s n) (with_name t n)
within_name s t n w m h =
    elim (named s n m h) [ inl a ↦ keeps_old t n m (w m a) | inr e ↦ has_new t n m e ]

pub within_names : (s t : List ExprName) (ns : List ExprName) → Within s t
    → Within (with_names s ns) (with_names t ns)
within_names s t [] w = w
within_names s t (n ∷ ns) w = within_names (with_name s n) (with_name t n) ns (within_name s t n w)

pub within_more : (s ns : List ExprName) → Within s (with_names s ns)
within_more s [] m h = h
within_more s (n ∷ ns) m h = within_more (with_name s n) ns m (keeps_old s n m h)

pub within_behind : (bs : List Binder) (s t : List ExprName) → Within s t
    → Within (behind bs s) (behind bs t)
within_behind [] s t w = w
within_behind (b ∷ bs) s t w =
    within_behind bs (with_names s b.names) (with_names t b.names) (within_names s t b.names w)
