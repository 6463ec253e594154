-- The table of the first bindings, one binding after another.
use Rattle.std.proofs.Common.{◌≡◌, ℕ, List, [], ◌∷◌, Bool, true, false, Option, Some, None, refl, sym, ap, ◌∙◌, cond, if◌then◌else◌, drop, length, ◌+◌, ◌<◌, get_or}
use Rattle.std.proofs.lemmas.Slice.Eq.{bytes_eq-Decides}
use Rattle.std.specs.Str.{bytes_eq}
use Rattle.xt_names.specs.declared.names.Binding.{Binding}
use Rattle.xt_names.proofs.ListLemmas.{drop_at}
use Rattle.bound_prefixes.specs.First.{first_uri, or_later, bound_by}

pub or_nothing : (found : Option (List ℕ)) → or_later found None ≡ found
or_nothing None = refl
or_nothing (Some uri) = refl

-- the prefix is new: it is bound now, and the others as they were
pub added : (b : Binding) (old : List ℕ → Option (List ℕ)) (p : List ℕ) → old b.prefix ≡ None
    → cond (bytes_eq b.prefix p) (Some b.uri) (old p) ≡ or_later (old p) (bound_by b p)
added b old p none =
    elim (bytes_eq b.prefix p) as (λ (e : Bool). bytes_eq b.prefix p ≡ e
    → cond e (Some b.uri) (old p) ≡ or_later (old p) (if e then Some b.uri else None)) [
      | true ↦ λ same. let here : old p ≡ None =
          ap old (sym ((bytes_eq-Decides b.prefix p).0 same)) ∙ none in
          sym (ap (λ (f : Option (List ℕ)). or_later f (Some b.uri)) here)
      | false ↦ λ other. sym (or_nothing (old p))
    ] refl

-- the prefix is bound: nothing changes
pub kept : (b : Binding) (old : List ℕ → Option (List ℕ)) (p uri : List ℕ) → old b.prefix ≡ Some uri
    → old p ≡ or_later (old p) (bound_by b p)
kept b old p uri some =
    elim (bytes_eq b.prefix p) as (λ (e : Bool). bytes_eq b.prefix p ≡ e
    → old p ≡ or_later (old p) (if e then Some b.uri else None)) [
      | true ↦ λ same. let here : old p ≡ Some uri =
          ap old (sym ((bytes_eq-Decides b.prefix p).0 same)) ∙ some in
          here ∙ sym (ap (λ (f : Option (List ℕ)). or_later f (Some b.uri)) here)
      | false ↦ λ other. sym (or_nothing (old p))
    ] refl

both : (found rest : Option (List ℕ)) (e : Bool) (uri : List ℕ)
    → or_later (or_later found (if e then Some uri else None)) rest
    ≡ or_later found (if e then Some uri else rest)
both None rest true uri = refl
both None rest false uri = refl
both (Some u) rest true uri = refl
both (Some u) rest false uri = refl

-- one binding more
pub turn : (all : List Binding) (i : ℕ) (b : Binding) (old new : List ℕ → Option (List ℕ))
    → i < length all → b ≡ get_or all i b
    → ((p : List ℕ) → or_later (old p) (first_uri (drop i all) p) ≡ first_uri all p)
    → ((p : List ℕ) → new p ≡ or_later (old p) (bound_by b p))
    → (p : List ℕ) → or_later (new p) (first_uri (drop (i + 1) all) p) ≡ first_uri all p
turn all i b old new h e before step p =
    let here : drop i all ≡ b ∷ drop (i + 1) all = drop_at all i b h e in
    ap (λ (f : Option (List ℕ)). or_later f (first_uri (drop (i + 1) all) p)) (step p)
    ∙ both (old p) (first_uri (drop (i + 1) all) p) (bytes_eq b.prefix p) b.uri
    ∙ sym (ap (λ (l : List Binding). or_later (old p) (first_uri l p)) here)
    ∙ before p
