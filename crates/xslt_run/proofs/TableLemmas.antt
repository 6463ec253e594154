-- The table of rules against the templates of the stylesheet.
use Rattle.std.proofs.Common.{◌≡◌, ℕ, List, [], ◌∷◌, ◌++◌, Bool, true, false, refl, ap, sym, ◌∙◌}
use Rattle.std.specs.Prelude.{Option, Some, None, if◌then◌else◌, codes}
use Rattle.std.specs.Option.{option_or}
use Rattle.std.specs.Str.{bytes_eq}
use Rattle.std.specs.HashMap.{get}
use Rattle.xt_names.specs.Allowed.{is_empty_text}
use Rattle.xt_names.specs.declared.names.Name.{Name}
use Rattle.xt_tree.specs.declared.trees.Tree.{Tree}
use Rattle.xt_tree.specs.declared.trees.Tree.TheVariants.{Doc, Elem, Text, Comment, Pi, Attr}
use Rattle.xt_tree.specs.Forest.{Forest}
use Rattle.xt_tree.specs.TreeView.{put}
use Rattle.sheet_meaning.specs.Rules.{Template, best_rule, templates_among, pattern_matches}
use Rattle.xslt_run.specs.declared.rules.Rules.{Rules}
use Rattle.xslt_run.specs.Table.{last_with, templates_in, rule_for}

pub option_or_assoc : {A : Type 0} (x y z : Option A) → option_or (option_or x y) z ≡ option_or x (option_or y z)
option_or_assoc None y z = refl
option_or_assoc (Some x) y z = refl

option_or_none : {A : Type 0} (x : Option A) → option_or x None ≡ x
option_or_none None = refl
option_or_none (Some x) = refl

pub templates_among-put : (t : Tree) (rest : Forest) → templates_among (put t rest) ≡ templates_in t ++ templates_among rest
templates_among-put (Doc kids) rest = refl
templates_among-put (Elem name attributes kids) rest = refl
templates_among-put (Text t) rest = refl
templates_among-put (Comment t) rest = refl
templates_among-put (Pi target t) rest = refl
templates_among-put (Attr name t) rest = refl

pub last_with-append : (xs ys : List Template) (q : List ℕ) → last_with (xs ++ ys) q ≡ option_or (last_with ys q) (last_with xs q)
last_with-append [] ys q = sym (option_or_none (last_with ys q))
last_with-append (x ∷ xs) ys q =
    ap (λ o. option_or o (if bytes_eq x.pattern q then Some x.content else None)) (last_with-append xs ys q)
    ∙ option_or_assoc (last_with ys q) (last_with xs q) (if bytes_eq x.pattern q then Some x.content else None)

best_rule-doc : (ts : List Template) (kids : Forest) → best_rule ts (Doc kids) ≡ last_with ts (codes "/")
best_rule-doc [] kids = refl
best_rule-doc (t ∷ ts) kids =
    ap (λ o. option_or o (if bytes_eq t.pattern (codes "/") then Some t.content else None)) (best_rule-doc ts kids)

best_rule-elem : (b : Bool) (ts : List Template) (name : Name) (attributes : _) (kids : Forest) → is_empty_text name.uri ≡ b → best_rule ts (Elem name attributes kids) ≡ (if b then last_with ts name.local else None)
best_rule-elem true [] name attributes kids e = refl
best_rule-elem false [] name attributes kids e = refl
best_rule-elem true (t ∷ ts) name attributes kids e =
    rw (e, best_rule-elem true ts name attributes kids e) refl
best_rule-elem false (t ∷ ts) name attributes kids e =
    rw (e, best_rule-elem false ts name attributes kids e) refl

best_rule-none : (ts : List Template) (node : Tree) → ((p : List ℕ) → pattern_matches p node ≡ false) → best_rule ts node ≡ None
best_rule-none [] node h = refl
best_rule-none (t ∷ ts) node h = rw (best_rule-none ts node h, h t.pattern) refl

-- a table with the last content for each pattern has the best rule for each node
pub rule_for_best : (rules : Rules) (ts : List Template) → rules.root ≡ last_with ts (codes "/") → ((q : List ℕ) → get bytes_eq rules.named q ≡ last_with ts q) → (node : Tree) → rule_for rules node ≡ best_rule ts node
rule_for_best rules ts root named (Doc kids) = root ∙ sym (best_rule-doc ts kids)
rule_for_best rules ts root named (Elem name attributes kids) =
    ap (λ o. if is_empty_text name.uri then o else None) (named name.local)
    ∙ sym (best_rule-elem (is_empty_text name.uri) ts name attributes kids refl)
rule_for_best rules ts root named (Text t) = sym (best_rule-none ts (Text t) (λ p. refl))
rule_for_best rules ts root named (Comment t) = sym (best_rule-none ts (Comment t) (λ p. refl))
rule_for_best rules ts root named (Pi target t) = sym (best_rule-none ts (Pi target t) (λ p. refl))
rule_for_best rules ts root named (Attr name t) = sym (best_rule-none ts (Attr name t) (λ p. refl))
