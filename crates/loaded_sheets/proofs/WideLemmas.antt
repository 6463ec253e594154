-- Each rule that declarations may break together is one that a stylesheet is refused for.
use Rattle.std.proofs.Common.{◌≡◌, ◌∙◌, ℕ, List, [], ◌∷◌, ◌++◌, Bool, true, false, ◌&&◌, ◌||◌}
use Rattle.std.proofs.Common.{Option, Some, None, if◌then◌else◌, nat_lt, refl, length, slice_get}
use Rattle.std.proofs.lemmas.List.Folds.{list_all-append}
use Rattle.std.specs.List.{list_any, list_all}
use Rattle.std.specs.Str.{bytes_eq}
use Rattle.xt_names.specs.Codes.{code_text}
use Rattle.xt_names.specs.declared.names.ExprName.{ExprName}
use Rattle.xt_names.specs.declared.codes.Code.{Code}
use Rattle.xt_names.specs.declared.codes.Code.TheVariants.{QueryStatic, SheetStatic}
use Rattle.xt_names.specs.declared.codes.SheetStaticCode.{SheetStaticCode}
use Rattle.xt_names.specs.declared.codes.QueryStaticCode.TheVariants.{XPST0008, XPST0017}
use Rattle.xt_names.specs.declared.codes.SheetStaticCode.TheVariants.{XTSE0630, XTSE0650, XTSE0660, XTSE0680, XTSE0690, XTSE0770, XTDE0640, XTDE1260, XTUN0001, XTSE1560}
use Rattle.xt_syntax.specs.declared.exprs.Expr.{Expr}
use Rattle.xt_syntax.specs.declared.patterns.Pattern.{Pattern}
use Rattle.xt_sheets.specs.declared.sheets.Sheet.{Sheet}
use Rattle.name_rules.specs.declared.functions.Signature.{Signature}
use Rattle.name_rules.specs.Scopes.{has_name, with_names}
use Rattle.sheet_uses.specs.declared.uses.Use.{Use}
use Rattle.sheet_uses.specs.declared.uses.Use.TheVariants as use_of
use Rattle.sheet_rules.specs.SheetExpressions.declared.sheet_names.names.Names.{Names}
use Rattle.sheet_rules.specs.SheetExpressions.SheetNames.Names.{as_name}
use Rattle.sheet_rules.specs.SheetExpressions.SheetNames.Uses.{broken_key, broken_use, broken_uses, broken_in, is_callable, is_key_call}
use Rattle.sheet_rules.specs.declared.sheet_declarations.lists.Declaration.{Declaration}
use Rattle.sheet_rules.specs.declared.wide_rules.passing.Parameters.{Parameters}
use Rattle.sheet_rules.specs.WideRules.Doubles.{code_if, double_codes, doubles_of}
use Rattle.sheet_rules.specs.WideRules.Outputs.{outputs_differ}
use Rattle.sheet_rules.specs.WideRules.Passing.{passes_in_vain, leaves_out, passing_codes, broken_passing, broken_passings}
use Rattle.sheet_rules.specs.WideRules.First.{wide_codes, has_code, first_of, first_wide}
use Rattle.sheet_uses.specs.KeyCalls.Called.{called_code, called_codes, is_declared}
use Rattle.sheet_rules.specs.Names.{names_of, template_names, with_functions, missing_code, missing_codes}
use Rattle.sheet_rules.specs.Uses.{declared_uses, declared_keys}
use Rattle.sheet_rules.specs.Rules.{broken_rules}
use Rattle.loaded_sheets.specs.Wholes.{is_circular, called_parameters, wide_broken, as_faults, wide_faults}
use Rattle.module_loading.specs.declared.loaded.LoadedSheet.{LoadedSheet}
use Rattle.loaded_sheets.specs.Sheets.{names_in, own_faults, declarations_in, declared_in, sheet_faults}

abbrev is_wide : Code → Bool
is_wide c = list_any (λ w. bytes_eq (code_text c) (code_text w)) wide_codes

abbrev AreWide : List Code → Type 0
AreWide cs = list_all is_wide cs ≡ true

both : (xs ys : List Code) → AreWide xs → AreWide ys → AreWide (xs ++ ys)
both xs ys p q = list_all-append is_wide xs ys ∙ rw p (rw q refl)

if_code : (b : Bool) (c : SheetStaticCode) → is_wide (SheetStatic c) ≡ true → AreWide (code_if b c)
if_code true c h = rw h refl
if_code false c h = refl

unless : (b : Bool) (c : Code) → is_wide c ≡ true → AreWide (broken_in (if b then None else Some c))
unless true c h = refl
unless false c h = rw h refl

of_key : (names : Names) (o : Option (List ℕ)) → AreWide (broken_in (broken_key names o))
unfolding broken_key
of_key names None = refl
of_key names (Some text) = unless (has_name names.keys (as_name text)) (SheetStatic XTDE1260) refl

of_call : (callable key : Bool) (o : Option Code) → AreWide (broken_in o)
    → AreWide (broken_in (if callable then (if key then o else None) else Some (QueryStatic XPST0017)))
of_call true true o h = h
of_call true false o h = refl
of_call false key o h = refl

of_use : (names : Names) (u : Use) → AreWide (broken_in (broken_use names u))
unfolding broken_use
of_use names (use_of.Variable name) = unless (has_name names.variables name) (QueryStatic XPST0008) refl
of_use names (use_of.Call name arity literal) =
    of_call (is_callable names name arity) (is_key_call name arity) (broken_key names literal)
    (of_key names literal)
of_use names (use_of.Template number passed) =
    unless (nat_lt number names.templates) (SheetStatic XTSE0650) refl
of_use names (use_of.Apply mode) = refl

of_uses : (names : Names) (us : List Use) → AreWide (broken_uses names us)
of_uses names [] = refl
of_uses names (u ∷ us) =
    both (broken_in (broken_use names u)) (broken_uses names us) (of_use names u) (of_uses names us)

missing_one : (b : Bool) → AreWide (if b then [] else SheetStatic XTSE0650 ∷ [])
missing_one true = refl
missing_one false = refl

of_missing : (declared called : List ExprName) → AreWide (missing_codes declared called)
of_missing declared [] = refl
of_missing declared (n ∷ ns) =
    both (missing_code declared n) (missing_codes declared ns)
    (missing_one (has_name declared n)) (of_missing declared ns)

of_kinds : (globals templates functions : Bool)
    → AreWide (code_if globals XTSE0630 ++ (code_if templates XTSE0660 ++ code_if functions XTSE0770))
of_kinds globals templates functions =
    both (code_if globals XTSE0630) (code_if templates XTSE0660 ++ code_if functions XTSE0770)
    (if_code globals XTSE0630 refl)
    (both (code_if templates XTSE0660) (code_if functions XTSE0770)
    (if_code templates XTSE0660 refl) (if_code functions XTSE0770 refl))

of_doubles : (ds : List (Declaration Expr Pattern)) → AreWide (double_codes (doubles_of ds))
of_doubles ds = let d = doubles_of ds in of_kinds d.globals d.templates d.functions

of_passed : (o : Option Parameters) (passed : List ExprName) → AreWide (passing_codes o passed)
of_passed None passed = refl
of_passed (Some p) passed =
    both (code_if (passes_in_vain p passed) XTSE0680) (code_if (leaves_out p passed) XTSE0690)
    (if_code (passes_in_vain p passed) XTSE0680 refl) (if_code (leaves_out p passed) XTSE0690 refl)

of_passing : (templates : List Parameters) (u : Use) → AreWide (broken_passing templates u)
unfolding broken_passing
of_passing templates (use_of.Template number passed) =
    of_passed (slice_get templates number) passed
of_passing templates (use_of.Variable name) = refl
of_passing templates (use_of.Call name arity literal) = refl
of_passing templates (use_of.Apply mode) = refl

of_passings : (templates : List Parameters) (us : List Use) → AreWide (broken_passings templates us)
of_passings templates [] = refl
of_passings templates (u ∷ us) =
    both (broken_passing templates u) (broken_passings templates us)
    (of_passing templates u) (of_passings templates us)

called_one : (b : Bool) → AreWide (if b then SheetStatic XTUN0001 ∷ [] else [])
called_one true = refl
called_one false = refl

of_called : (functions : List Signature) (us : List Use) → AreWide (called_codes functions us)
of_called functions [] = refl
of_called functions (u ∷ us) =
    both (called_code functions u) (called_codes functions us)
    (called_one (is_declared functions u)) (of_called functions us)

of_rules : (ds : List (Declaration Expr Pattern)) (called : List ExprName) (templates : List Parameters)
    → AreWide (broken_rules ds called templates)
of_rules ds called templates =
    let names = names_of ds 4294967295 in
    let uses = declared_uses ds [] [] in
    let declared = with_names [] (template_names ds) in
    let functions = with_functions [] ds in
    let keys = declared_keys ds [] [] in
    let output = code_if (outputs_differ ds) XTSE1560 in
    let in_keys = called_codes functions keys ++ output in
    let passing = broken_passings templates uses ++ in_keys in
    let twice = double_codes (doubles_of ds) ++ passing in
    let missing = missing_codes declared called ++ twice in
    both (broken_uses names uses) missing (of_uses names uses)
    (both (missing_codes declared called) twice (of_missing declared called)
    (both (double_codes (doubles_of ds)) passing (of_doubles ds)
    (both (broken_passings templates uses) in_keys (of_passings templates uses)
    (both (called_codes functions keys) output (of_called functions keys)
    (if_code (outputs_differ ds) XTSE1560 refl)))))

of_all : (ds : List (Declaration Expr Pattern)) (called : List ExprName) (s : Sheet)
    → AreWide (wide_broken ds called s)
unfolding wide_broken
of_all ds called s =
    both (broken_rules ds called (called_parameters (length called) s.templates))
    (code_if (is_circular s) XTDE0640)
    (of_rules ds called (called_parameters (length called) s.templates))
    (if_code (is_circular s) XTDE0640 refl)

-- the first of the order is there, where the first code is one of it
step : (same more rest : Bool) (w : Code) (o : Option Code) → (same || rest) ≡ true
    → (if same || more then Some w else o) ≡ None → (rest ≡ true → o ≡ None → ⊥) → ⊥
step true more rest w o p none go = absurd (let no : Some w ≡ None = none in cc)
step false true rest w o p none go = absurd (let no : Some w ≡ None = none in cc)
step false false rest w o p none go = go p none

is_first : (c : Code) (cs ws : List Code)
    → list_any (λ w. bytes_eq (code_text c) (code_text w)) ws ≡ true → first_of ws (c ∷ cs) ≡ None → ⊥
is_first c cs [] p none = absurd (let no : false ≡ true = p in cc)
is_first c cs (w ∷ ws) p none =
    step (bytes_eq (code_text c) (code_text w)) (has_code cs w)
    (list_any (λ v. bytes_eq (code_text c) (code_text v)) ws) w (first_of ws (c ∷ cs)) p none
    (λ q n. is_first c cs ws q n)

first_passes : (c : Code) (cs : List Code) (b : Bool) → is_wide c ≡ b → (b && list_all is_wide cs) ≡ true
    → is_wide c ≡ true
first_passes c cs true e h = e
first_passes c cs false e h = absurd (let no : false ≡ true = h in cc)

none_broken : (cs : List Code) → AreWide cs → first_wide cs ≡ None → cs ≡ []
none_broken [] wide none = refl
none_broken (c ∷ cs) wide none =
    absurd (is_first c cs wide_codes (first_passes c cs (is_wide c) refl wide) none)

no_code : (o : Option Code) → as_faults o ≡ [] → o ≡ None
no_code None h = refl
no_code (Some c) h = absurd (let no : (c ∷ []) ≡ [] = h in cc)

-- where no rule is told none is broken
pub together_told : (ds : List (Declaration Expr Pattern)) (called : List ExprName) (s : Sheet)
    → wide_faults ds called s ≡ [] → wide_broken ds called s ≡ []
unfolding wide_faults
together_told ds called s h =
    none_broken (wide_broken ds called s) (of_all ds called s)
    (no_code (first_wide (wide_broken ds called s)) h)

parts_empty : (xs ys : List Code) → xs ++ ys ≡ [] → (xs ≡ []) × (ys ≡ [])
parts_empty [] ys h = (refl, h)
parts_empty (x ∷ xs) ys h = absurd (let no : (x ∷ (xs ++ ys)) ≡ [] = h in cc)

-- .. neither by a module by itself nor by all together
pub all_told : (l : LoadedSheet) → sheet_faults l ≡ []
    → (own_faults l ≡ []) × (wide_broken (declarations_in l) (names_in l).called (declared_in l) ≡ [])
unfolding sheet_faults
all_told l h =
    let t = parts_empty (own_faults l)
    (wide_faults (declarations_in l) (names_in l).called (declared_in l)) h in
    (t.0, together_told (declarations_in l) (names_in l).called (declared_in l) t.1)
