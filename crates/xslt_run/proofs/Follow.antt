-- How the parts of a run follow one another.
use Rattle.std.proofs.Common.{◌≡◌, ℕ, zero, suc, ◌+◌, ◌-◌, ◌<◌, ◌≤◌, List, [], ◌∷◌, length, drop, get_or, Bool, true, false, refl, ap, sym, ◌∙◌, arith, add-one, drop-cons}
use Rattle.std.proofs.lemmas.List.{drop_all}
use mathlib.Core.Path.{fun_ext}
use Rattle.std.specs.Prelude.{if◌then◌else◌, Option, Some, Result, Ok, Err, IfOk, IfErr}
use Rattle.xt_names.specs.declared.names.Name.{Name}
use Rattle.xt_names.specs.declared.codes.Code.{Code}
use Rattle.xt_tree.specs.declared.trees.Tree.{Tree}
use Rattle.xt_tree.specs.declared.trees.Tree.TheVariants.{Doc, Elem, Text, Comment, Pi, Attr}
use Rattle.xt_tree.specs.Forest.{Forest}
use Rattle.xt_tree.specs.TreeView.{put, forest_of, kids_of}
use Rattle.sheet_meaning.specs.Meaning.{Calls, applied, constructed, entered, ruled, limited, is_within_limits, element_of, document_of, listed, transform_meaning}
use Rattle.sheet_meaning.specs.Rules.{best_rule, templates_of}
use Rattle.sheet_meaning.specs.Outcome.{Outcome, Ends, Fails, Deep as past_depth, and_then, joined}
use Rattle.eval_scopes.specs.declared.faults.EvalFault.{EvalFault}
use Rattle.eval_scopes.specs.declared.faults.EvalFault.TheVariants.{Error, Deep, Memory}
use Rattle.xslt_run.specs.Answers.{IsFaultOf, Grows, Makes}
use Rattle.xslt_run.specs.Content.{Built, empty, all_of, with_tree, with_items, grown, instructed, literal_of}
use Rattle.xslt_run.proofs.ContentLemmas.{with_items-append, all_of-empty}

pub grown-joined : (b : Built) (o p : Outcome (List Tree)) → grown b (joined o p) ≡ and_then (grown b o) (λ mid. grown mid p)
grown-joined b (Ends xs) (Ends ys) = ap Ends (with_items-append b xs ys)
grown-joined b (Ends xs) (Fails c) = refl
grown-joined b (Ends xs) past_depth = refl
grown-joined b (Fails c) p = refl
grown-joined b past_depth p = refl

pub grown_more : (b mid : Built) (o p : Outcome (List Tree)) → grown b o ≡ Ends mid → grown b (joined o p) ≡ grown mid p
grown_more b mid o p e = grown-joined b o p ∙ ap (λ q. and_then q (λ m. grown m p)) e

-- a fault of the first part is one of the whole
pub fault_first : {A B : Type 0} (f : EvalFault) (o : Outcome A) (go : A → Outcome B) → IsFaultOf f o → IsFaultOf f (and_then o go)
fault_first (Error c) o go h = ap (λ p. and_then p go) h
fault_first Deep o go h = ap (λ p. and_then p go) h
fault_first (Memory e) o go h = tt

pub fault_along : {A : Type 0} (f : EvalFault) (o p : Outcome A) → o ≡ p → IsFaultOf f p → IsFaultOf f o
fault_along f o p e h = rw e h

-- a fault of the content is one of what it is made of
pub fault_grown : (f : EvalFault) (b : Built) (o : Outcome (List Tree)) → IsFaultOf f (grown b o) → IsFaultOf f o
fault_grown (Error c) b (Ends items) h = absurd cc
fault_grown (Error c) b (Fails d) h = cc
fault_grown (Error c) b past_depth h = absurd cc
fault_grown Deep b (Ends items) h = absurd cc
fault_grown Deep b (Fails d) h = absurd cc
fault_grown Deep b past_depth h = refl
fault_grown (Memory e) b o h = tt

-- what is left of a loop after i trees, and what the whole is
pub record Runs (step : Calls) (xs : List Tree) (b : Built) (o : Outcome Built) (i : ℕ) : Type 0 where
  pub left : grown b (applied step (drop i xs)) ≡ o

drop_item : (xs : List Tree) (i : ℕ) (x d : Tree) → i < length xs → x ≡ get_or xs i d → drop i xs ≡ x ∷ drop (suc i) xs
drop_item xs i x d lt is = drop-cons xs i d lt ∙ ap (λ y. y ∷ drop (suc i) xs) (sym is)

pub runs_first_of : (step : Calls) (xs : List Tree) (b : Built) (o : Outcome (List Tree)) → o ≡ applied step xs → Runs step xs b (grown b o) 0
runs_first_of step xs b o e = record { left = ap (λ p. grown b p) (sym e) }

pub runs_step : (step : Calls) (xs : List Tree) (b mid : Built) (o : Outcome Built) (i : ℕ) (x d : Tree) → Runs step xs b o i → i < length xs → x ≡ get_or xs i d → grown b (step x) ≡ Ends mid → Runs step xs mid o (i + 1)
runs_step step xs b mid o i x d inv lt is e =
    let whole = sym (grown_more b mid (step x) (applied step (drop (suc i) xs)) e) ∙ ap (λ ys. grown b (applied step ys)) (sym (drop_item xs i x d lt is)) ∙ inv.left in
    record { left = rw add-one whole }

pub runs_exit : (f : EvalFault) (step : Calls) (xs : List Tree) (b : Built) (o : Outcome Built) (i : ℕ) (x d : Tree) → Runs step xs b o i → i < length xs → x ≡ get_or xs i d → IsFaultOf f (grown b (step x)) → IsFaultOf f o
runs_exit f step xs b o i x d inv lt is h =
    let whole = sym inv.left ∙ ap (λ ys. grown b (applied step ys)) (drop_item xs i x d lt is) ∙ grown-joined b (step x) (applied step (drop (suc i) xs)) in
    fault_along f o _ whole (fault_first f (grown b (step x)) _ h)

pub runs_end : (step : Calls) (xs : List Tree) (b : Built) (o : Outcome Built) (i : ℕ) → Runs step xs b o i → length xs ≤ i → o ≡ Ends b
runs_end step xs b o i inv le = sym inv.left ∙ ap (λ rest. grown b (applied step rest)) (drop_all i xs le)

joined_nothing : {A : Type 0} (o : Outcome (List A)) → joined (Ends []) o ≡ o
joined_nothing (Ends v) = refl
joined_nothing (Fails c) = refl
joined_nothing past_depth = refl

constructed-put : (enter : Calls) (kids : List Tree) (t : Tree) (rest : Forest) → constructed enter kids (put t rest) ≡ joined (instructed enter kids t) (constructed enter kids rest)
constructed-put enter kids (Doc inside) rest = sym (joined_nothing (constructed enter kids rest))
constructed-put enter kids (Elem name attributes inside) rest = refl
constructed-put enter kids (Text t) rest = refl
constructed-put enter kids (Comment t) rest = sym (joined_nothing (constructed enter kids rest))
constructed-put enter kids (Pi target t) rest = sym (joined_nothing (constructed enter kids rest))
constructed-put enter kids (Attr name t) rest = sym (joined_nothing (constructed enter kids rest))

-- a sequence constructor as the list of its parts
pub constructed_each : (enter : Calls) (kids parts : List Tree) → constructed enter kids (forest_of parts) ≡ applied (instructed enter kids) parts
constructed_each enter kids [] = refl
constructed_each enter kids (part ∷ parts) =
    constructed-put enter kids part (forest_of parts) ∙ ap (λ o. joined (instructed enter kids part) o) (constructed_each enter kids parts)

entered_below : (best : Tree → Option Forest) (n : ℕ) (node : Tree) → (n ≡ 0 → ⊥) → entered best n node ≡ ruled (entered best (n - 1)) (best node) node
entered_below best zero node z = absurd (z refl)
entered_below best (suc n) node z = let m : suc n - 1 ≡ n = omega arith in rw m refl

-- with a call left, the best rule is run with one call less
pub entered_rule : (best : Tree → Option Forest) (n : ℕ) (node : Tree) (content : Forest) (kids : List Tree) (f : Forest) → (n ≡ 0 → ⊥) → best node ≡ Some content → kids ≡ kids_of node → f ≡ content → entered best n node ≡ constructed (entered best (n - 1)) kids f
entered_rule best n node content kids f z e k g =
    entered_below best n node z ∙ ap (λ o. ruled (entered best (n - 1)) o node) e
    ∙ ap (λ ks. constructed (entered best (n - 1)) ks content) (sym k) ∙ ap (λ h. constructed (entered best (n - 1)) kids h) (sym g)

pub element_made : (name : Name) (o : Outcome (List Tree)) (c : Built) → grown empty o ≡ Ends c → and_then o (λ items. listed (element_of name items)) ≡ listed (limited (Elem name [] (forest_of (all_of c))))
unfolding element_of
element_made name (Ends items) c e =
    let same : with_items empty items ≡ c = cc in
    rw (← same, all_of-empty items) refl
element_made name (Fails d) c e = absurd cc
element_made name past_depth c e = absurd cc

pub document_made : (o : Outcome (List Tree)) (c : Built) → grown empty o ≡ Ends c → and_then o document_of ≡ limited (Doc (forest_of (all_of c)))
unfolding document_of
document_made (Ends items) c e =
    let same : with_items empty items ≡ c = cc in
    rw (← same, all_of-empty items) refl
document_made (Fails d) c e = absurd cc
document_made past_depth c e = absurd cc

limited_by : (b : Bool) (x t : Tree) (code : Code) → (if b then Ends x else Fails code) ≡ Ends t → t ≡ x
limited_by true x t code e = cc
limited_by false x t code e = absurd cc

-- an element that is made is that element
pub limited_same : (x t : Tree) → limited x ≡ Ends t → t ≡ x
unfolding limited
limited_same x t e = limited_by (is_within_limits x) x t _ e

-- an element that is made, put at the end
pub grown_element : (b new : Built) (name : Name) (attributes : _) (kids : Forest) (t : Tree) → limited (Elem name attributes kids) ≡ Ends t → new ≡ with_tree b t → grown b (listed (limited (Elem name attributes kids))) ≡ Ends new
grown_element b new name attributes kids t e n =
    let same : t ≡ Elem name attributes kids = limited_same (Elem name attributes kids) t e in
    rw (e, n, same) refl

-- an element that is not made
pub fault_element : (f : EvalFault) (b : Built) (o : Outcome Tree) → IsFaultOf f o → IsFaultOf f (grown b (listed o))
fault_element f b o h = fault_first f (listed o) _ (fault_first f o _ h)

-- a literal element whose content is made
pub literal_made : (start : Built) (enter : Calls) (kids : List Tree) (name : Name) (inside : Forest) (c : Built) → start ≡ empty → grown start (constructed enter kids inside) ≡ Ends c → literal_of enter kids name inside ≡ listed (limited (Elem name [] (forest_of (all_of c))))
literal_made start enter kids name inside c s e = element_made name (constructed enter kids inside) c (rw s at e)

pub grows_along : (r : Result (Unit {0}) EvalFault) (content b : Built) (o p : Outcome (List Tree)) → o ≡ p → Grows r content (grown b p) → Grows r content (grown b o)
grows_along r content b o p e h = rw e h

same_rules : (sheet document : Tree) (n : ℕ) (best : Tree → Option Forest) → ((node : Tree) → best node ≡ best_rule (templates_of sheet) node) → transform_meaning sheet document n ≡ and_then (entered best n document) document_of
same_rules sheet document n best h = ap (λ g. and_then (entered g n document) document_of) (sym (fun_ext h))

-- a run whose content is made
pub transform_made : (sheet document : Tree) (n : ℕ) (best : Tree → Option Forest) (start c : Built) → ((node : Tree) → best node ≡ best_rule (templates_of sheet) node) → start ≡ empty → grown start (entered best n document) ≡ Ends c → transform_meaning sheet document n ≡ limited (Doc (forest_of (all_of c)))
transform_made sheet document n best start c h s e =
    same_rules sheet document n best h ∙ document_made (entered best n document) c (rw s at e)

-- a run whose content is not made
pub transform_fault : (f : EvalFault) (sheet document : Tree) (n : ℕ) (best : Tree → Option Forest) (start : Built) → ((node : Tree) → best node ≡ best_rule (templates_of sheet) node) → IsFaultOf f (grown start (entered best n document)) → IsFaultOf f (transform_meaning sheet document n)
transform_fault f sheet document n best start h e =
    fault_along f _ _ (same_rules sheet document n best h) (fault_first f (entered best n document) document_of (fault_grown f start (entered best n document) e))

pub makes_found : (r : Result Tree EvalFault) (o p : Outcome Tree) → p ≡ o → Makes r o → IfOk r (λ t. p ≡ Ends t)
makes_found (Ok t) o p e h = e ∙ h
makes_found (Err f) o p e h = tt

pub makes_refused : (r : Result Tree EvalFault) (o p : Outcome Tree) → p ≡ o → Makes r o → IfErr r (λ f. IsFaultOf f p)
makes_refused (Ok t) o p e h = tt
makes_refused (Err f) o p e h = fault_along f p o e h
