-- Names of globals, templates, functions and keys that are declared, and those that count.
use Rattle.std.proofs.Common.{◌≡◌, ℕ, List, [], ◌∷◌, ◌++◌, map, length, Bool, true, false, ◌&&◌, ◌||◌}
use Rattle.std.proofs.Common.{cond, Option, Some, None, refl, sym, ap, subst, ◌∙◌}
use Rattle.std.proofs.lemmas.List.Folds.{list_any-append}
use Rattle.std.specs.List.{list_any}
use Rattle.xt_names.specs.declared.names.ExprName.{ExprName}
use Rattle.xt_syntax.specs.declared.exprs.Expr.{Expr}
use Rattle.xt_syntax.specs.declared.patterns.Pattern.{Pattern}
use Rattle.xt_sheets.specs.declared.sheets.Global.{Global}
use Rattle.xt_sheets.specs.declared.sheets.SheetFunction.{SheetFunction}
use Rattle.xt_sheets.specs.declared.sheets.KeyRule.{KeyRule}
use Rattle.name_rules.specs.declared.functions.Signature.{Signature}
use Rattle.name_rules.specs.Scopes.{has_name, with_name, with_names, same_signature}
use Rattle.name_rules.specs.Scopes.{signature, has_function, with_function}
use Rattle.sheet_modules.specs.declared.modules.Part.{Part}
use Rattle.sheet_modules.specs.declared.modules.Part.TheVariants as part
use Rattle.sheet_modules.specs.declared.modules.KeyPart.{KeyPart}
use Rattle.sheet_rules.specs.declared.sheet_declarations.lists.Declaration.{Declaration}
use Rattle.sheet_rules.specs.SheetDeclarations.Counts.{a_global, a_function, a_template, declared_by, replaces}
use Rattle.sheet_rules.specs.SheetDeclarations.Counts.{template_of}
use Rattle.sheet_rules.proofs.SheetDeclarations.Sames.{same_signature_is}
use Rattle.sheet_rules.specs.Names as rules
use Rattle.sheet_rules.specs.Names.{global_names, template_names, with_global, with_template, if_name}
use Rattle.sheet_rules.specs.Names.{with_function_of, with_keys, with_keys_of}
use Rattle.sheet_assembly.specs.Named.{each_by, each, is_marked, behind, global_in, global_if}
use Rattle.sheet_assembly.specs.Named.{function_in, function_if, key_rule, keys_in}
use Rattle.assembly_laws.specs.SheetClosure.Declared.{global_name, with_functions, key_name}
use Rattle.declared_uses.proofs.Counts.{declares, counts}
use Rattle.std.proofs.Math.Bool.{and-true, or-false}
use Rattle.xt_names.proofs.NameLemmas.{same_names}
use Rattle.assembly_laws.proofs.Functions.{of}
use Rattle.xt_names.specs.ExprNames.{same_name}

or_assoc : (a b c : Bool) → ((a || b) || c) ≡ (a || (b || c))
or_assoc true b c = refl
or_assoc false b c = refl

-- one more of a list changes nothing where it is there
absorbed : (p q : Bool) → (q ≡ true → p ≡ true) → p ≡ (p || q)
absorbed true q h = refl
absorbed false true h = h refl
absorbed false false h = refl

pub name_more : (names : List ExprName) (m n : ExprName)
    → has_name (with_name names m) n ≡ (has_name names n || same_name n m)
name_more names m n = go (has_name names m) refl
  where
    go : (b : Bool) → has_name names m ≡ b
        → has_name (cond b names (names ++ m ∷ [])) n ≡ (has_name names n || same_name n m)
    go true h =
        absorbed (has_name names n) (same_name n m)
        (λ e. subst (λ x. has_name names x ≡ true) (sym (same_names n m e)) h)
    go false h =
        list_any-append (same_name n) names (m ∷ [])
        ∙ ap (λ (b : Bool). has_name names n || b) (or-false (same_name n m))

pub names_more : (names ms : List ExprName) (n : ExprName)
    → has_name (with_names names ms) n ≡ (has_name names n || has_name ms n)
names_more names [] n = sym (or-false (has_name names n))
names_more names (m ∷ ms) n =
    names_more (with_name names m) ms n
    ∙ ap (λ (b : Bool). b || has_name ms n) (name_more names m n)
    ∙ or_assoc (has_name names n) (same_name n m) (has_name ms n)

-- globals
one_global : (n : ExprName) (p : Part Expr Pattern) (names : List ExprName)
    → has_name (with_global p names) n
    ≡ (replaces (a_global (signature n 0)) (declared_by p) || has_name names n)
one_global n (part.Global g) names =
    ap (λ (b : Bool). b || has_name names n) (sym (and-true _))
one_global n (part.Template t rules) names = template_not t.name
  where
    template_not : (o : Option ExprName) → has_name names n
        ≡ (replaces (a_global (signature n 0)) (template_of o) || has_name names n)
    template_not None = refl
    template_not (Some m) = refl
one_global n (part.Function f) names = refl
one_global n (part.Key keys) names = refl
one_global n (part.Space rules) names = refl
one_global n (part.Output omit) names = refl
one_global n part.Ignored names = refl
one_global n part.Linked names = refl

pub globals_declared : (n : ExprName) (ds : List (Declaration Expr Pattern))
    → has_name (global_names ds) n ≡ declares (a_global (signature n 0)) ds
globals_declared n [] = refl
globals_declared n (d ∷ ds) =
    one_global n d.part (global_names ds)
    ∙ ap (λ (b : Bool). replaces (a_global (signature n 0)) (declared_by d.part) || b)
    (globals_declared n ds)

one_counts : (n : ExprName) (m : Bool) (p : Part Expr Pattern) (gs : List Global)
    → has_name (map global_name (global_in m p ++ gs)) n
    ≡ ((m && replaces (a_global (signature n 0)) (declared_by p)) || has_name (map global_name gs) n)
one_counts n true (part.Global g) gs =
    ap (λ (b : Bool). b || has_name (map global_name gs) n) (sym (and-true _))
one_counts n false (part.Global g) gs = refl
one_counts n true (part.Template t rules) gs = template_not t.name
  where
    template_not : (o : Option ExprName) → has_name (map global_name gs) n
        ≡ (replaces (a_global (signature n 0)) (template_of o) || has_name (map global_name gs) n)
    template_not None = refl
    template_not (Some m) = refl
one_counts n false (part.Template t rules) gs = refl
one_counts n true (part.Function f) gs = refl
one_counts n false (part.Function f) gs = refl
one_counts n true (part.Key keys) gs = refl
one_counts n false (part.Key keys) gs = refl
one_counts n true (part.Space rules) gs = refl
one_counts n false (part.Space rules) gs = refl
one_counts n true (part.Output omit) gs = refl
one_counts n false (part.Output omit) gs = refl
one_counts n true part.Ignored gs = refl
one_counts n false part.Ignored gs = refl
one_counts n true part.Linked gs = refl
one_counts n false part.Linked gs = refl

pub globals_count : (n : ExprName) (marks : List Bool) (ds : List (Declaration Expr Pattern))
    → has_name (map global_name (each_by global_if marks ds)) n
    ≡ counts (a_global (signature n 0)) marks ds
globals_count n marks [] = refl
globals_count n marks (d ∷ ds) =
    one_counts n (is_marked marks) d.part (each_by global_if (behind marks) ds)
    ∙ ap (λ (b : Bool).
    (is_marked marks && replaces (a_global (signature n 0)) (declared_by d.part)) || b)
    (globals_count n (behind marks) ds)

-- templates
one_template : (n : ExprName) (p : Part Expr Pattern) (names : List ExprName)
    → has_name (with_template p names) n
    ≡ (replaces (a_template (signature n 0)) (declared_by p) || has_name names n)
one_template n (part.Template t rules) names = named t.name
  where
    named : (o : Option ExprName) → has_name (if_name o names) n
        ≡ (replaces (a_template (signature n 0)) (template_of o) || has_name names n)
    named None = refl
    named (Some m) = ap (λ (b : Bool). b || has_name names n) (sym (and-true (same_name n m)))
one_template n (part.Global g) names = refl
one_template n (part.Function f) names = refl
one_template n (part.Key keys) names = refl
one_template n (part.Space rules) names = refl
one_template n (part.Output omit) names = refl
one_template n part.Ignored names = refl
one_template n part.Linked names = refl

pub templates_declared : (n : ExprName) (ds : List (Declaration Expr Pattern))
    → has_name (template_names ds) n ≡ declares (a_template (signature n 0)) ds
templates_declared n [] = refl
templates_declared n (d ∷ ds) =
    one_template n d.part (template_names ds)
    ∙ ap (λ (b : Bool). replaces (a_template (signature n 0)) (declared_by d.part) || b)
    (templates_declared n ds)

-- functions
function_more : (known : List Signature) (m n : ExprName) (a b : ℕ)
    → has_function (with_function known m a) n b
    ≡ (has_function known n b || same_signature (signature n b) (signature m a))
function_more known m n a b = go (has_function known m a) refl
  where
    go : (t : Bool) → has_function known m a ≡ t
        → has_function (cond t known (known ++ signature m a ∷ [])) n b
        ≡ (has_function known n b || same_signature (signature n b) (signature m a))
    go true h =
        absorbed (has_function known n b) (same_signature (signature n b) (signature m a))
        (λ e. subst (λ (s : Signature). list_any (same_signature s) known ≡ true)
        (sym (same_signature_is (signature n b) (signature m a) e)) h)
    go false h =
        list_any-append (same_signature (signature n b)) known (signature m a ∷ [])
        ∙ ap (λ (t : Bool). has_function known n b || t)
        (or-false (same_signature (signature n b) (signature m a)))

one_function : (n : ExprName) (b : ℕ) (p : Part Expr Pattern) (known : List Signature)
    → has_function (with_function_of p known) n b
    ≡ (has_function known n b || replaces (a_function (signature n b)) (declared_by p))
one_function n b (part.Function f) known = function_more known f.name n (length f.params) b
one_function n b (part.Global g) known = sym (or-false (has_function known n b))
one_function n b (part.Template t rules) known = template_not t.name
  where
    template_not : (o : Option ExprName) → has_function known n b
        ≡ (has_function known n b || replaces (a_function (signature n b)) (template_of o))
    template_not None = sym (or-false (has_function known n b))
    template_not (Some m) = sym (or-false (has_function known n b))
one_function n b (part.Key keys) known = sym (or-false (has_function known n b))
one_function n b (part.Space rules) known = sym (or-false (has_function known n b))
one_function n b (part.Output omit) known = sym (or-false (has_function known n b))
one_function n b part.Ignored known = sym (or-false (has_function known n b))
one_function n b part.Linked known = sym (or-false (has_function known n b))

functions_more : (n : ExprName) (b : ℕ) (known : List Signature)
    (ds : List (Declaration Expr Pattern)) → has_function (rules.with_functions known ds) n b
    ≡ (has_function known n b || declares (a_function (signature n b)) ds)
functions_more n b known [] = sym (or-false (has_function known n b))
functions_more n b known (d ∷ ds) =
    functions_more n b (with_function_of d.part known) ds
    ∙ ap (λ (t : Bool). t || declares (a_function (signature n b)) ds) (one_function n b d.part known)
    ∙ or_assoc (has_function known n b) _ _

pub functions_declared : (n : ExprName) (b : ℕ) (ds : List (Declaration Expr Pattern))
    → has_function (rules.with_functions [] ds) n b ≡ declares (a_function (signature n b)) ds
functions_declared n b ds = functions_more n b [] ds

listed_more : (n : ExprName) (b : ℕ) (known : List Signature) (fs : List SheetFunction)
    → has_function (with_functions known fs) n b
    ≡ (has_function known n b || list_any (λ f. same_signature (signature n b) (of f)) fs)
listed_more n b known [] = sym (or-false (has_function known n b))
listed_more n b known (f ∷ fs) =
    listed_more n b (with_function known f.name (length f.params)) fs
    ∙ ap (λ (t : Bool). t || list_any (λ g. same_signature (signature n b) (of g)) fs)
    (function_more known f.name n (length f.params) b)
    ∙ or_assoc (has_function known n b) _ _

one_function_counts : (n : ExprName) (b : ℕ) (m : Bool) (p : Part Expr Pattern)
    (fs : List SheetFunction)
    → list_any (λ f. same_signature (signature n b) (of f)) (function_in m p ++ fs)
    ≡ ((m && replaces (a_function (signature n b)) (declared_by p))
    || list_any (λ f. same_signature (signature n b) (of f)) fs)
one_function_counts n b true (part.Function f) fs = refl
one_function_counts n b false (part.Function f) fs = refl
one_function_counts n b true (part.Template t rules) fs = template_not t.name
  where
    template_not : (o : Option ExprName) → list_any (λ f. same_signature (signature n b) (of f)) fs
        ≡ (replaces (a_function (signature n b)) (template_of o)
        || list_any (λ f. same_signature (signature n b) (of f)) fs)
    template_not None = refl
    template_not (Some m) = refl
one_function_counts n b false (part.Template t rules) fs = refl
one_function_counts n b true (part.Global g) fs = refl
one_function_counts n b false (part.Global g) fs = refl
one_function_counts n b true (part.Key keys) fs = refl
one_function_counts n b false (part.Key keys) fs = refl
one_function_counts n b true (part.Space rules) fs = refl
one_function_counts n b false (part.Space rules) fs = refl
one_function_counts n b true (part.Output omit) fs = refl
one_function_counts n b false (part.Output omit) fs = refl
one_function_counts n b true part.Ignored fs = refl
one_function_counts n b false part.Ignored fs = refl
one_function_counts n b true part.Linked fs = refl
one_function_counts n b false part.Linked fs = refl

listed_count : (n : ExprName) (b : ℕ) (marks : List Bool) (ds : List (Declaration Expr Pattern))
    → list_any (λ f. same_signature (signature n b) (of f)) (each_by function_if marks ds)
    ≡ counts (a_function (signature n b)) marks ds
listed_count n b marks [] = refl
listed_count n b marks (d ∷ ds) =
    one_function_counts n b (is_marked marks) d.part (each_by function_if (behind marks) ds)
    ∙ ap (λ (t : Bool).
    (is_marked marks && replaces (a_function (signature n b)) (declared_by d.part)) || t)
    (listed_count n b (behind marks) ds)

pub functions_count : (n : ExprName) (b : ℕ) (marks : List Bool)
    (ds : List (Declaration Expr Pattern))
    → has_function (with_functions [] (each_by function_if marks ds)) n b
    ≡ counts (a_function (signature n b)) marks ds
functions_count n b marks ds =
    listed_more n b [] (each_by function_if marks ds) ∙ listed_count n b marks ds

-- keys, each once
keys_more : (keys : List (KeyPart Expr Pattern)) (known : List ExprName) (more : List KeyRule)
    → with_names (with_names known (map rules.key_name keys)) (map key_name more)
    ≡ with_names known (map key_name (map key_rule keys ++ more))
keys_more [] known more = refl
keys_more (k ∷ keys) known more = keys_more keys (with_name known (rules.key_name k)) more

one_key : (p : Part Expr Pattern) (level : ℕ) (known : List ExprName) (more : List KeyRule)
    → with_names (with_keys_of p known) (map key_name more)
    ≡ with_names known (map key_name (keys_in (record { level = level; part = p }) ++ more))
one_key (part.Key keys) level known more = keys_more keys known more
one_key (part.Global g) level known more = refl
one_key (part.Template t rules) level known more = refl
one_key (part.Function f) level known more = refl
one_key (part.Space rules) level known more = refl
one_key (part.Output omit) level known more = refl
one_key part.Ignored level known more = refl
one_key part.Linked level known more = refl

pub keys_same : (known : List ExprName) (ds : List (Declaration Expr Pattern))
    → with_keys known ds ≡ with_names known (map key_name (each keys_in ds))
keys_same known [] = refl
keys_same known (d ∷ ds) =
    keys_same (with_keys_of d.part known) ds ∙ one_key d.part d.level known (each keys_in ds)
