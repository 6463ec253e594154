-- More calls change no outcome that is over.
use Rattle.std.proofs.Common.{◌≡◌, ℕ, zero, suc, ◌≤◌, List, [], ◌∷◌, Bool, true, false, refl, arith}
use Rattle.std.specs.Prelude.{Option, Some, None, if◌then◌else◌}
use Rattle.xt_tree.specs.declared.trees.Tree.{Tree}
use Rattle.xt_tree.specs.declared.trees.Tree.TheVariants.{Doc, Elem, Text, Comment, Pi, Attr}
use Rattle.xt_tree.specs.Forest.{Forest, end, doc, elem, text, comment, pi, attr}
use Rattle.xt_tree.specs.TreeView.{trees, kids_of}
use Rattle.xt_tree.specs.White.{is_white_text}
use Rattle.sheet_meaning.specs.Outcome.{Outcome, Ends, Fails, Deep, and_then, joined, IsOver}
use Rattle.sheet_meaning.specs.Rules.{best_rule, templates_of}
use Rattle.sheet_meaning.specs.Meaning.{Calls, applied, constructed, built_in, ruled, entered, listed, element_of, document_of, transform_meaning}
use Rattle.xt_names.specs.Names.{is_in_xslt}

-- the second outcome is the first, unless the first is Deep
abbrev pub Reaches : {A : Type 0} → Outcome A → Outcome A → Type 0
Reaches (Ends v) p = p ≡ Ends v
Reaches (Fails c) p = p ≡ Fails c
Reaches Deep p = Unit {0}

reaches_refl : {A : Type 0} (o : Outcome A) → Reaches o o
reaches_refl (Ends v) = refl
reaches_refl (Fails c) = refl
reaches_refl Deep = tt

reaches_over : {A : Type 0} (o p : Outcome A) → Reaches o p → IsOver o → p ≡ o
reaches_over (Ends v) p r h = r
reaches_over (Fails c) p r h = r
reaches_over Deep p r h = absurd h

reaches_and_then : {A B : Type 0} (o p : Outcome A) (f g : A → Outcome B) → Reaches o p → ((v : A) → Reaches (f v) (g v)) → Reaches (and_then o f) (and_then p g)
reaches_and_then (Ends v) p f g r h = rw r (h v)
reaches_and_then (Fails c) p f g r h = rw r refl
reaches_and_then Deep p f g r h = tt

reaches_joined : {A : Type 0} (o p q r : Outcome (List A)) → Reaches o p → Reaches q r → Reaches (joined o q) (joined p r)
reaches_joined o p q r h i = reaches_and_then o p _ _ h (λ xs. reaches_and_then q r _ _ i (λ ys. refl))

reaches_if : {A : Type 0} (b : Bool) (o p q r : Outcome A) → Reaches o p → Reaches q r → Reaches (if b then o else q) (if b then p else r)
reaches_if true o p q r h i = h
reaches_if false o p q r h i = i

abbrev CallsReach : Calls → Calls → Type 0
CallsReach f g = (node : Tree) → Reaches (f node) (g node)

applied_reaches : (f g : Calls) → CallsReach f g → (nodes : List Tree) → Reaches (applied f nodes) (applied g nodes)
applied_reaches f g h [] = refl
applied_reaches f g h (node ∷ nodes) =
    reaches_joined (f node) (g node) (applied f nodes) (applied g nodes) (h node) (applied_reaches f g h nodes)

constructed_reaches : (f g : Calls) → CallsReach f g → (kids : List Tree) (parts : Forest) → Reaches (constructed f kids parts) (constructed g kids parts)
constructed_reaches f g h kids end = refl
constructed_reaches f g h kids (doc inside rest) = constructed_reaches f g h kids rest
constructed_reaches f g h kids (elem name attributes inside rest) =
    reaches_joined _ _ (constructed f kids rest) (constructed g kids rest)
    (reaches_if (is_in_xslt name) (applied f kids) (applied g kids) _ _ (applied_reaches f g h kids)
    (reaches_and_then (constructed f kids inside) (constructed g kids inside) _ _ (constructed_reaches f g h kids inside) (λ items. reaches_refl (listed (element_of name items)))))
    (constructed_reaches f g h kids rest)
constructed_reaches f g h kids (text t rest) =
    reaches_joined _ _ (constructed f kids rest) (constructed g kids rest)
    (reaches_refl (if is_white_text t then Ends [] else Ends (Text t ∷ []))) (constructed_reaches f g h kids rest)
constructed_reaches f g h kids (comment t rest) = constructed_reaches f g h kids rest
constructed_reaches f g h kids (pi target t rest) = constructed_reaches f g h kids rest
constructed_reaches f g h kids (attr name t rest) = constructed_reaches f g h kids rest

built_in_reaches : (f g : Calls) → CallsReach f g → (node : Tree) → Reaches (built_in f node) (built_in g node)
built_in_reaches f g h (Doc kids) = applied_reaches f g h (trees kids)
built_in_reaches f g h (Elem name attributes kids) = applied_reaches f g h (trees kids)
built_in_reaches f g h (Text t) = refl
built_in_reaches f g h (Comment t) = refl
built_in_reaches f g h (Pi target t) = refl
built_in_reaches f g h (Attr name t) = refl

ruled_reaches : (f g : Calls) → CallsReach f g → (best : Option Forest) (node : Tree) → Reaches (ruled f best node) (ruled g best node)
ruled_reaches f g h None node = built_in_reaches f g h node
ruled_reaches f g h (Some content) node = constructed_reaches f g h (kids_of node) content

entered_reaches : (best : Tree → Option Forest) (m n : ℕ) → m ≤ n → CallsReach (entered best m) (entered best n)
entered_reaches best zero n le node = tt
entered_reaches best (suc m) zero le node = absurd (omega arith)
entered_reaches best (suc m) (suc n) le node =
    ruled_reaches (entered best m) (entered best n) (entered_reaches best m n (omega arith)) (best node) node

pub deeper_same : (sheet document : Tree) (m n : ℕ) → m ≤ n → IsOver (transform_meaning sheet document m) → transform_meaning sheet document n ≡ transform_meaning sheet document m
deeper_same sheet document m n le over =
    let best = best_rule (templates_of sheet) in
    reaches_over (transform_meaning sheet document m) (transform_meaning sheet document n)
    (reaches_and_then (entered best m document) (entered best n document) document_of document_of (entered_reaches best m n le document) (λ items. reaches_refl (document_of items)))
    over
