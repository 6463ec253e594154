-- The uri of a name that is computed: that of the first prefix with which its text begins.
use Rattle.std.proofs.Common.{◌≡◌, ℕ, List, [], ◌∷◌, ◌++◌, refl, sym, ap, ◌∙◌, subst}
use Rattle.std.proofs.Common.{inl, inr}
use Rattle.std.proofs.lemmas.Bool.{and_parts, eqb-true, eq-eqb}
use Rattle.std.specs.Prelude.{Bool, true, false, ◌&&◌, not, codes, nat_eq, if◌then◌else◌, is_some}
use Rattle.std.specs.Prelude.{◌⊎◌, Option, Some, None, Ok, Err}
use Rattle.std.specs.List.{list_all, starts_with}
use Rattle.std.specs.Str.{bytes_eq}
use Rattle.xt_names.specs.Allowed.{is_allowed_name, is_empty_text}
use Rattle.xt_names.specs.Classes.{is_ncname_text, is_xml_text, begins_name}
use Rattle.xt_names.specs.declared.codes.Code.{Code}
use Rattle.xt_names.specs.declared.names.Binding.{Binding}
use Rattle.xt_names.specs.declared.names.Name.{Name}
use Rattle.xt_tree.specs.Sound.{is_sound_name}
use Rattle.text_operations.specs.Searches.{text_before, text_after}
use Rattle.text_functions.specs.NameFunctions.QNames.{name_of_parts as qname_parts, spelled_name as qname_spelled}
use Rattle.text_functions.specs.NameFunctions.QNames.{allowed_name, prefixed_name}
use Rattle.expr_laws.specs.Carrier.{OnValue}
use Rattle.transform_meaning.specs.Names.{name_of_parts, spelled_name, plain_name, declared_name}
use Rattle.transform_meaning.specs.Names.{prefixed_name as prefixed_result}
use Rattle.lockstep.proofs.ComputedNames.{IsThat}
use Rattle.lockstep.proofs.SpelledNames.{HasNoColon, all_after, all_before, ncname_has_none, none_before}
use Rattle.std.proofs.Math.Bool.{and-false}
use Rattle.xt_names.specs.ExprNames.{uri_of}
use Rattle.xt_names.proofs.BoolLemmas.{is_false}

-- the uri that is chosen, or none where the name fails
abbrev pub chosen_uri : List Binding → List ℕ → List ℕ → Option (List ℕ)
chosen_uri [] default v = if is_some (text_before (codes ":") v) then None else Some default
chosen_uri (b ∷ bs) default v =
    if is_empty_text b.prefix then chosen_uri bs default v
    else if starts_with nat_eq v (b.prefix ++ codes ":")
    then (if is_empty_text b.uri then None else Some b.uri)
    else chosen_uri bs default v

-- a text without a colon begins with no prefix
pub no_prefix : (p v : List ℕ) → HasNoColon v → starts_with nat_eq v (p ++ 58 ∷ []) ≡ false
no_prefix [] [] h = refl
no_prefix [] (c ∷ cs) h =
    rw (is_false (nat_eq 58 c) (and_parts (not (nat_eq 58 c)) (list_all (λ c. not (nat_eq 58 c)) cs) h).0) refl
no_prefix (x ∷ p) [] h = refl
no_prefix (x ∷ p) (c ∷ cs) h =
    ap (λ b. nat_eq x c && b)
    (no_prefix p cs (and_parts (not (nat_eq 58 c)) (list_all (λ c. not (nat_eq 58 c)) cs) h).1)
    ∙ and-false (nat_eq x c)
  where
    and-false : (b : Bool) → (b && false) ≡ false
    and-false true = refl
    and-false false = refl

pub no_truth : false ≡ true → ⊥
no_truth e = absurd cc

nat_swap : (x y : ℕ) → nat_eq x y ≡ nat_eq y x
nat_swap x y = by (nat_eq x y) (λ e. eqb-true x y e) (nat_eq y x) (λ e. eqb-true y x e) refl refl
  where
    by : (a : Bool) → (a ≡ true → x ≡ y) → (b : Bool) → (b ≡ true → y ≡ x) → nat_eq x y ≡ a →
        nat_eq y x ≡ b → a ≡ b
    by true h true g e f = refl
    by true h false g e f = sym (eq-eqb y x (sym (h refl))) ∙ f
    by false h true g e f = sym e ∙ eq-eqb x y (sym (g refl))
    by false h false g e f = refl

-- a text with one colon begins with the prefix before it alone
pub own_prefix : (p prefix local : List ℕ) → HasNoColon prefix → HasNoColon local →
    starts_with nat_eq (prefix ++ 58 ∷ local) (p ++ 58 ∷ []) ≡ bytes_eq p prefix
own_prefix [] [] local h g = refl
own_prefix [] (c ∷ cs) local h g =
    rw (is_false (nat_eq 58 c) (and_parts (not (nat_eq 58 c)) (list_all (λ c. not (nat_eq 58 c)) cs) h).0) refl
own_prefix (x ∷ p) [] local h g =
    ap (λ b. nat_eq x 58 && b) (no_prefix p local g) ∙ and-false (nat_eq x 58)
own_prefix (x ∷ p) (c ∷ cs) local h g =
    ap (λ b. nat_eq x c && b)
    (own_prefix p cs local (and_parts (not (nat_eq 58 c)) (list_all (λ c. not (nat_eq 58 c)) cs) h).1 g)

-- a text with a colon, or without
abbrev Halves : List ℕ → Type 0
Halves v = (p : List ℕ) × (l : List ℕ) × (v ≡ p ++ 58 ∷ l) × HasNoColon p

split_more : (c : ℕ) (cs : List ℕ) → nat_eq 58 c ≡ false → HasNoColon cs ⊎ Halves cs →
    HasNoColon (c ∷ cs) ⊎ Halves (c ∷ cs)
split_more c cs e (inl h) = inl (rw (e) h)
split_more c cs e (inr h) = inr (c ∷ h.0, h.1, ap (λ zs. c ∷ zs) h.2, rw (e) h.3)

pub split_text : (v : List ℕ) → HasNoColon v ⊎ Halves v
split_text [] = inl refl
split_text (c ∷ cs) = by (nat_eq 58 c) refl (split_text cs)
  where
    by : (b : Bool) → nat_eq 58 c ≡ b → HasNoColon cs ⊎ Halves cs → HasNoColon (c ∷ cs) ⊎ Halves (c ∷ cs)
    by true e more = inr ([], cs, ap (λ d. d ∷ cs) (sym (eqb-true 58 c e)), refl)
    by false e more = split_more c cs e more

pub chosen_default : (scope : List Binding) (default v : List ℕ) → HasNoColon v →
    chosen_uri scope default v ≡ Some default
chosen_default [] default v h = rw (none_before v h) refl
chosen_default (b ∷ bs) default v h =
    rw (no_prefix b.prefix v h) (by (is_empty_text b.prefix) (chosen_default bs default v h))
  where
    by : (e : Bool) → chosen_uri bs default v ≡ Some default →
        (if e then chosen_uri bs default v else chosen_uri bs default v) ≡ Some default
    by true g = g
    by false g = g

empty_apart : (x p : List ℕ) → is_empty_text x ≡ true → is_empty_text p ≡ false → bytes_eq x p ≡ false
unfolding is_empty_text
empty_apart [] [] h g = sym h ∙ g
empty_apart [] (c ∷ cs) h g = refl
empty_apart (y ∷ x) p h g = absurd cc

abbrev uri_if : List ℕ → Option (List ℕ)
uri_if u = if is_empty_text u then None else Some u

chosen_prefix : (scope : List Binding) (default p l : List ℕ) → HasNoColon p → HasNoColon l →
    is_empty_text p ≡ false → chosen_uri scope default (p ++ 58 ∷ l) ≡ uri_if (uri_of scope p)
unfolding is_empty_text
chosen_prefix [] default p l h g some = rw (all_before p l h) refl
chosen_prefix (b ∷ bs) default p l h g some =
    rw (own_prefix b.prefix p l h g)
    (by (is_empty_text b.prefix) refl (bytes_eq b.prefix p) refl (chosen_prefix bs default p l h g some))
  where
    by : (c : Bool) → is_empty_text b.prefix ≡ c → (d : Bool) → bytes_eq b.prefix p ≡ d →
        chosen_uri bs default (p ++ 58 ∷ l) ≡ uri_if (uri_of bs p) →
        (if c then chosen_uri bs default (p ++ 58 ∷ l)
        else (if d then uri_if b.uri else chosen_uri bs default (p ++ 58 ∷ l)))
        ≡ uri_if (if d then b.uri else uri_of bs p)
    by true e true f more = absurd (no_truth (sym (empty_apart b.prefix p e some) ∙ f))
    by true e false f more = more
    by false e true f more = refl
    by false e false f more = more

not_allowed : (p u l : List ℕ) → is_ncname_text l ≡ false → is_allowed_name p u l ≡ false
unfolding is_allowed_name
not_allowed p u l h = rw (h) refl

pub sound_allowed : (n : Name) → is_sound_name n ≡ true → is_allowed_name n.prefix n.uri n.local ≡ true
unfolding is_sound_name
sound_allowed n h = (and_parts (is_allowed_name n.prefix n.uri n.local) (is_xml_text n.uri) h).0

abbrev pub IsSoundName : Name → Type 0
IsSoundName n = is_sound_name n ≡ true

abbrev pub of_chosen : List ℕ → Option (List ℕ) → Option Name
of_chosen v None = None
of_chosen v (Some u) = qname_spelled u v

-- without a colon
plain_that : (c : Code) (default v : List ℕ) → OnValue IsSoundName (plain_name c default v) →
    IsThat (plain_name c default v) (allowed_name [] default v)
plain_that c default v h = by (is_ncname_text v) refl h
  where
    by : (b : Bool) → is_ncname_text v ≡ b →
        OnValue IsSoundName (if b then Ok (record { prefix = []; uri = default; local = v }) else Err c) →
        IsThat (if b then Ok (record { prefix = []; uri = default; local = v }) else Err c)
        (allowed_name [] default v)
    by true e g = rw (sound_allowed (record { prefix = []; uri = default; local = v }) g) refl
    by false e g = rw (not_allowed [] default v e) tt

-- with one
allowed_none : (p u l : List ℕ) → (is_ncname_text p && is_ncname_text l) ≡ false →
    prefixed_name p u l ≡ None
allowed_none p u l h = by (is_ncname_text p) refl
  where
    by : (b : Bool) → is_ncname_text p ≡ b → (if b then allowed_name p u l else None) ≡ None
    by true e = rw (not_allowed p u l (ap (λ b. b && is_ncname_text l) (sym e) ∙ h)) refl
    by false e = refl

ncname_some : (p : List ℕ) → is_ncname_text p ≡ true → is_empty_text p ≡ false
unfolding is_ncname_text begins_name is_empty_text
ncname_some [] h = sym h
ncname_some (c ∷ cs) h = refl

none_chosen : (p l v : List ℕ) (o : Option (List ℕ)) →
    ((u : List ℕ) → qname_spelled u v ≡ prefixed_name p u l) →
    (is_ncname_text p && is_ncname_text l) ≡ false → of_chosen v o ≡ None
none_chosen p l v None h g = refl
none_chosen p l v (Some u) h g = h u ∙ allowed_none p u l g

-- the parts of a text without a colon, and of one with one
spelled_plain : (c d : Code) (scope : List Binding) (default v : List ℕ) → HasNoColon v →
    spelled_name c d scope default v ≡ plain_name c default v
unfolding spelled_name
spelled_plain c d scope default v h = rw (none_before v h) refl

pub qname_plain : (u v : List ℕ) → HasNoColon v → qname_spelled u v ≡ allowed_name [] u v
unfolding qname_spelled
qname_plain u v h = rw (none_before v h) refl

spelled_prefixed : (c d : Code) (scope : List Binding) (default p l : List ℕ) → HasNoColon p →
    spelled_name c d scope default (p ++ 58 ∷ l) ≡ prefixed_result c d scope p l
unfolding spelled_name
spelled_prefixed c d scope default p l h =
    ap (λ o. name_of_parts c d scope default (p ++ 58 ∷ l) o (text_after (codes ":") (p ++ 58 ∷ l))) (all_before p l h)
    ∙ ap (name_of_parts c d scope default (p ++ 58 ∷ l) (Some p)) (all_after p l h)

qname_prefixed : (u p l : List ℕ) → HasNoColon p → qname_spelled u (p ++ 58 ∷ l) ≡ prefixed_name p u l
unfolding qname_spelled
qname_prefixed u p l h =
    ap (λ o. qname_parts u (p ++ 58 ∷ l) o (text_after (codes ":") (p ++ 58 ∷ l))) (all_before p l h)
    ∙ ap (qname_parts u (p ++ 58 ∷ l) (Some p)) (all_after p l h)

declared_that : (d : Code) (p u l : List ℕ) → is_ncname_text p ≡ true →
    OnValue IsSoundName (declared_name d p u l) → (v : List ℕ) →
    ((w : List ℕ) → qname_spelled w v ≡ prefixed_name p w l) →
    IsThat (declared_name d p u l) (of_chosen v (uri_if u))
declared_that d p u l n h v is = by (is_empty_text u) refl h
  where
    by : (b : Bool) → is_empty_text u ≡ b →
        OnValue IsSoundName (if b then Err d else Ok (record { prefix = p; uri = u; local = l })) →
        IsThat (if b then Err d else Ok (record { prefix = p; uri = u; local = l }))
        (of_chosen v (if b then None else Some u))
    by true e g = tt
    by false e g =
        rw (is u, n, sound_allowed (record { prefix = p; uri = u; local = l }) g) refl

prefixed_that : (c d : Code) (scope : List Binding) (default p l : List ℕ) → HasNoColon p →
    OnValue IsSoundName (prefixed_result c d scope p l) →
    IsThat (prefixed_result c d scope p l)
    (of_chosen (p ++ 58 ∷ l) (chosen_uri scope default (p ++ 58 ∷ l)))
prefixed_that c d scope default p l plain h = by (is_ncname_text p && is_ncname_text l) refl h
  where
    by : (b : Bool) → (is_ncname_text p && is_ncname_text l) ≡ b →
        OnValue IsSoundName (if b then declared_name d p (uri_of scope p) l else Err c) →
        IsThat (if b then declared_name d p (uri_of scope p) l else Err c)
        (of_chosen (p ++ 58 ∷ l) (chosen_uri scope default (p ++ 58 ∷ l)))
    by true e g =
        let n = and_parts (is_ncname_text p) (is_ncname_text l) e in
        rw (chosen_prefix scope default p l plain (ncname_has_none l n.1) (ncname_some p n.0))
        (declared_that d p (uri_of scope p) l n.0 g (p ++ 58 ∷ l) (λ w. qname_prefixed w p l plain))
    by false e g =
        rw (none_chosen p l (p ++ 58 ∷ l) (chosen_uri scope default (p ++ 58 ∷ l))
        (λ w. qname_prefixed w p l plain) e) tt

-- the name that the chosen uri gives is the name that the stylesheet spells
pub chosen_is : (c d : Code) (scope : List Binding) (default v : List ℕ) →
    OnValue IsSoundName (spelled_name c d scope default v) →
    IsThat (spelled_name c d scope default v) (of_chosen v (chosen_uri scope default v))
chosen_is c d scope default v h = by (split_text v)
  where
    by : HasNoColon v ⊎ Halves v →
        IsThat (spelled_name c d scope default v) (of_chosen v (chosen_uri scope default v))
    by (inl g) =
        let same = spelled_plain c d scope default v g in
        rw (same, chosen_default scope default v g, qname_plain default v g)
        (plain_that c default v (subst (OnValue IsSoundName) same h))
    by (inr g) =
        let there : spelled_name c d scope default v ≡ prefixed_result c d scope g.0 g.1 =
        ap (spelled_name c d scope default) g.2 ∙ spelled_prefixed c d scope default g.0 g.1 g.3 in
        subst (λ o. IsThat o (of_chosen v (chosen_uri scope default v))) (sym there)
        (subst (λ w. IsThat (prefixed_result c d scope g.0 g.1) (of_chosen w (chosen_uri scope default w)))
        (sym g.2) (prefixed_that c d scope default g.0 g.1 g.3 (subst (OnValue IsSoundName) there h)))
