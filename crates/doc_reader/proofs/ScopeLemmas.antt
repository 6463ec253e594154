-- Scopes and start tags, taken apart from their front.
use Rattle.std.proofs.Common.{◌≡◌, ℕ, ◌+◌, ◌<◌, ◌≤◌, List, [], ◌∷◌, ◌++◌, length, drop, map, get_or, not, ◌&&◌, ◌||◌, Option, Some, None, refl, sym, ap, ◌∙◌, append-nil, append_assoc}
use Rattle.std.specs.List.{list_any}
use Rattle.std.specs.Str.{bytes_eq, chars}
use Rattle.xt_names.specs.declared.names.Binding.{Binding}
use Rattle.xt_tree.specs.declared.attributes.Attribute.{Attribute}
use Rattle.xt_tree.specs.Sound.{names_differ}
use Rattle.xt_names.proofs.ListLemmas.{drop_at}
use Rattle.name_scopes.proofs.LookupLemmas.{drop_past}
use Rattle.doc_grammar.specs.RawNames.{RawAttribute}
use Rattle.doc_grammar.specs.Scopes.{with_declaration, declarations, declared_by, one_named, behind_named, both_named, named_attributes, prefix_name, prefixes_differ}
use Rattle.xt_names.specs.Names.{same_name}
use Rattle.std.proofs.lemmas.Str.{chars-nil}

declarations-cons : (a : RawAttribute) (more : List RawAttribute) → declarations (a ∷ more) ≡ with_declaration (declared_by a.name) a.value (declarations more)
unfolding declarations
declarations-cons a more = refl

declarations_none : declarations [] ≡ []
unfolding declarations
declarations_none = refl

with_declaration-append : (d : Option (List ℕ)) (value : List ℕ) (rest : List Binding) → with_declaration d value rest ≡ with_declaration d value [] ++ rest
with_declaration-append None value rest = refl
with_declaration-append (Some prefix) value rest = refl

-- one attribute more is declared
pub declared_preserved : {A : Type 0} (view : A → RawAttribute) (xs : List A) (i : ℕ) (x : A) (old new all : List Binding) → i < length xs → x ≡ get_or xs i x
    → old ++ declarations (map view (drop i xs)) ≡ all → new ≡ old ++ with_declaration (declared_by (view x).name) (view x).value []
    → new ++ declarations (map view (drop (i + 1) xs)) ≡ all
declared_preserved view xs i x old new all h e inv n =
    let rest = declarations (map view (drop (i + 1) xs)) in
    let one = with_declaration (declared_by (view x).name) (view x).value [] in
    let step : declarations (map view (drop i xs)) ≡ one ++ rest =
    rw (drop_at xs i x h e) (declarations-cons (view x) (map view (drop (i + 1) xs)) ∙ with_declaration-append _ _ rest) in
    ap (λ (b : List Binding). b ++ rest) n ∙ append_assoc old one rest ∙ ap (λ (b : List Binding). old ++ b) (sym step) ∙ inv

pub declared_all : {A : Type 0} (view : A → RawAttribute) (xs : List A) (i : ℕ) (old all : List Binding) → length xs ≤ i → old ++ declarations (map view (drop i xs)) ≡ all → old ≡ all
declared_all view xs i old all h inv =
    let none : drop i xs ≡ [] = drop_past xs i h in
    let e : old ++ declarations [] ≡ all = rw none at inv in
    sym (append-nil old) ∙ ap (λ (b : List Binding). old ++ b) (sym declarations_none) ∙ e

named-cons : (scope : List Binding) (a : RawAttribute) (more : List RawAttribute) → named_attributes scope (a ∷ more) ≡ both_named (one_named scope a) (named_attributes scope more)
unfolding named_attributes
named-cons scope a more = refl

named_none : (scope : List Binding) → named_attributes scope [] ≡ Some []
unfolding named_attributes
named_none scope = refl

behind_both : (front new : List Attribute) (one rest : Option (List Attribute)) → behind_named front one ≡ Some new → behind_named front (both_named one rest) ≡ behind_named new rest
behind_both front new None rest e = absurd (cc)
behind_both front new (Some xs) None e = refl
behind_both front new (Some xs) (Some rest) e = let same : front ++ xs ≡ new = cc in ap Some (sym (append_assoc front xs rest) ∙ ap (λ (b : List Attribute). b ++ rest) same)

-- one item more of a list
pub mapped_preserved : {A B : Type 0} (f : A → B) (xs : List A) (i : ℕ) (x : A) (old new all : List B) → i < length xs → x ≡ get_or xs i x
    → old ++ map f (drop i xs) ≡ all → (y : B) → y ≡ f x → new ≡ old ++ (y ∷ []) → new ++ map f (drop (i + 1) xs) ≡ all
mapped_preserved {B = B} f xs i x old new all h e inv y m n =
    let rest = map f (drop (i + 1) xs) in
    let step : map f (drop i xs) ≡ f x ∷ rest = rw (drop_at xs i x h e) refl in
    ap (λ (b : List B). b ++ rest) (n ∙ ap (λ (z : B). old ++ (z ∷ [])) m) ∙ append_assoc old (f x ∷ []) rest ∙ ap (λ (b : List B). old ++ b) (sym step) ∙ inv

pub mapped_all : {A B : Type 0} (f : A → B) (xs : List A) (i : ℕ) (old all : List B) → length xs ≤ i → old ++ map f (drop i xs) ≡ all → old ≡ all
mapped_all f xs i old all h inv =
    let none : drop i xs ≡ [] = drop_past xs i h in
    let e : old ++ [] ≡ all = rw none at inv in
    sym (append-nil old) ∙ e

any_as_names : (b : Binding) (bs : List Binding) → list_any (λ (c : Attribute). same_name (prefix_name b).name c.name) (map prefix_name bs) ≡ list_any (λ (c : Binding). bytes_eq b.prefix c.prefix) bs
unfolding prefix_name
any_as_names b [] = refl
any_as_names b (c ∷ bs) = ap (λ x. bytes_eq b.prefix c.prefix || x) (any_as_names b bs)

-- prefixes differ where they do as names
pub differ_as_names : (bs : List Binding) → names_differ (map prefix_name bs) ≡ prefixes_differ bs
unfolding prefixes_differ
differ_as_names [] = refl
differ_as_names (b ∷ bs) =
    ap (λ x. not x && names_differ (map prefix_name bs)) (any_as_names b bs)
    ∙ ap (λ y. not (list_any (λ (c : Binding). bytes_eq b.prefix c.prefix) bs) && y) (differ_as_names bs)

-- one attribute more is named
pub named_preserved : {A : Type 0} (view : A → RawAttribute) (scope : List Binding) (xs : List A) (i : ℕ) (x : A) (old new : List Attribute) (all : Option (List Attribute)) → i < length xs → x ≡ get_or xs i x
    → behind_named old (named_attributes scope (map view (drop i xs))) ≡ all → behind_named old (one_named scope (view x)) ≡ Some new
    → behind_named new (named_attributes scope (map view (drop (i + 1) xs))) ≡ all
named_preserved view scope xs i x old new all h e inv n =
    let rest = named_attributes scope (map view (drop (i + 1) xs)) in
    let step : named_attributes scope (map view (drop i xs)) ≡ both_named (one_named scope (view x)) rest =
    rw (drop_at xs i x h e) (named-cons scope (view x) (map view (drop (i + 1) xs))) in
    sym (behind_both old new (one_named scope (view x)) rest n) ∙ ap (behind_named old) (sym step) ∙ inv

pub named_refused : {A : Type 0} (view : A → RawAttribute) (scope : List Binding) (xs : List A) (i : ℕ) (x : A) (old : List Attribute) (all : Option (List Attribute)) → i < length xs → x ≡ get_or xs i x
    → behind_named old (named_attributes scope (map view (drop i xs))) ≡ all → one_named scope (view x) ≡ None → None ≡ all
named_refused view scope xs i x old all h e inv n =
    let rest = named_attributes scope (map view (drop (i + 1) xs)) in
    let step : named_attributes scope (map view (drop i xs)) ≡ both_named (one_named scope (view x)) rest =
    rw (drop_at xs i x h e) (named-cons scope (view x) (map view (drop (i + 1) xs))) in
    let none : both_named (one_named scope (view x)) rest ≡ None = rw n refl in
    sym (ap (behind_named old) (step ∙ none)) ∙ inv

pub named_all : {A : Type 0} (view : A → RawAttribute) (scope : List Binding) (xs : List A) (i : ℕ) (old : List Attribute) (all : Option (List Attribute)) → length xs ≤ i
    → behind_named old (named_attributes scope (map view (drop i xs))) ≡ all → Some old ≡ all
named_all view scope xs i old all h inv =
    let none : drop i xs ≡ [] = drop_past xs i h in
    let e : behind_named old (named_attributes scope []) ≡ all = rw none at inv in
    ap Some (sym (append-nil old)) ∙ ap (behind_named old) (sym (named_none scope)) ∙ e

pub chars_empty : chars [] ≡ []
chars_empty = chars-nil
