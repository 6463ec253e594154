-- Attributes whose names are all different.
use Rattle.std.proofs.Common.{◌≡◌, List, [], ◌∷◌, ◌++◌, refl, sym, ap, ◌∙◌, subst, map}
use Rattle.std.proofs.lemmas.Bool.{and_parts}
use Rattle.std.proofs.lemmas.List.Folds.{list_any-append}
use Rattle.std.specs.Prelude.{Bool, true, false, ◌&&◌, ◌||◌, not, if◌then◌else◌}
use Rattle.std.specs.List.{list_any}
use Rattle.xt_names.specs.declared.names.ExprName.{ExprName}
use Rattle.xt_names.specs.declared.names.Name.{Name}
use Rattle.xt_tree.specs.Sound.{names_differ}
use Rattle.xt_tree.specs.declared.attributes.Attribute.{Attribute}
use Rattle.name_rules.specs.Scopes.{are_new, has_name, with_name}
use Rattle.translated_forms.specs.Making.{expr_name}
use Rattle.lockstep.proofs.Passed.{names_swap}
use Rattle.xt_names.proofs.BoolLemmas.{is_false}
use Rattle.xt_names.specs.Names.{same_name}
use Rattle.xt_names.specs.ExprNames.{same_name as same_expr_name}

abbrev pub differ : List Name → Bool
differ [] = true
differ (n ∷ ns) = not (list_any (same_name n) ns) && differ ns

any_named : (n : Name) (us : List Attribute) →
    list_any (λ b. same_name n b.name) us ≡ list_any (same_name n) (map (λ a. a.name) us)
any_named n [] = refl
any_named n (u ∷ us) = ap (λ b. same_name n u.name || b) (any_named n us)

pub by_names : (us : List Attribute) → names_differ us ≡ differ (map (λ a. a.name) us)
by_names [] = refl
by_names (u ∷ us) = λ i. not (any_named u.name us i) && by_names us i

-- a name that is in the list: what is not in it is another
abbrev IsIn : ExprName → List ExprName → Type 0
IsIn x names = (m : ExprName) → has_name names m ≡ false → same_expr_name m x ≡ false

or_left : (a b : Bool) → (a || b) ≡ false → a ≡ false
or_left true b h = h
or_left false b h = refl

or_right : (a b : Bool) → (a || b) ≡ false → b ≡ false
or_right true b h = absurd cc
or_right false b h = h

in_more : (x n : ExprName) (names : List ExprName) → IsIn x names → IsIn x (with_name names n)
in_more x n names h = by (has_name names n)
  where
    by : (b : Bool) → IsIn x (if b then names else names ++ n ∷ [])
    by true = h
    by false = λ m g. h m (or_left (has_name names m) (same_expr_name m n || false)
        (sym (list_any-append (same_expr_name m) names (n ∷ [])) ∙ g))

in_last : (n : ExprName) (names : List ExprName) → has_name names n ≡ false → IsIn n (with_name names n)
in_last n names h =
    subst (λ b. IsIn n (if b then names else names ++ n ∷ [])) (sym h)
    (λ m g. or_left (same_expr_name m n) false (or_right (has_name names m) (same_expr_name m n || false)
    (sym (list_any-append (same_expr_name m) names (n ∷ [])) ∙ g)))

none_same : (x : Name) (names : List ExprName) → IsIn (expr_name x) names → (ns : List Name) →
    are_new names (map expr_name ns) ≡ true → list_any (same_name x) ns ≡ false
none_same x names h [] g = refl
none_same x names h (n ∷ ns) g =
    let p = and_parts (not (has_name names (expr_name n)))
    (are_new (with_name names (expr_name n)) (map expr_name ns)) g in
    rw (names_swap (expr_name x) (expr_name n), h (expr_name n) (is_false (has_name names (expr_name n)) p.0))
    (none_same x (with_name names (expr_name n)) (in_more (expr_name x) (expr_name n) names h) ns p.1)

pub names_apart : (names : List ExprName) (ns : List Name) → are_new names (map expr_name ns) ≡ true →
    differ ns ≡ true
names_apart names [] h = refl
names_apart names (n ∷ ns) h =
    let p = and_parts (not (has_name names (expr_name n)))
    (are_new (with_name names (expr_name n)) (map expr_name ns)) h in
    rw (none_same n (with_name names (expr_name n))
    (in_last (expr_name n) names (is_false (has_name names (expr_name n)) p.0)) ns p.1)
    (names_apart (with_name names (expr_name n)) ns p.1)
