-- Calls are carried where their arguments are.
use Rattle.std.proofs.Common.{◌≡◌, ℕ, suc, ap, refl, List, [], ◌∷◌, length, subst}
use Rattle.std.specs.Prelude.{map, Bool, true, false, if◌then◌else◌, Option, Some, None, Ok, Err}
use Rattle.xt_names.specs.declared.codes.Code.TheVariants.{Dynamic}
use Rattle.xt_names.specs.declared.codes.DynamicCode.TheVariants.{XPDY0050}
use Rattle.doc_set.specs.Sets.{is_document}
use Rattle.xt_names.specs.declared.names.ExprName.{ExprName}
use Rattle.xdm_items.specs.declared.items.Item.{Item}
use Rattle.xdm_items.specs.declared.items.Item.TheVariants.{Node, Atom}
use Rattle.expr_meaning.specs.SortMeaning.Sorted.{Placed}
use Rattle.expr_meaning.specs.Paths.{root_place}
use Rattle.fn_lib.specs.Values.{argument}
use Rattle.operator_values.specs.Operands.{atom_of}
use Rattle.expr_meaning.specs.Outcomes.Outcome.{Ends, and_then, step_outcome, Every}
use Rattle.expr_meaning.proofs.OutcomesLemmas.Relations.{every_append}
use Rattle.expr_meaning.specs.Env.{Env, Meaning, Program}
use Rattle.expr_meaning.specs.Calls.{listed, lists_of, Called, library, document, current}
use Rattle.expr_meaning.specs.Calls.{current_group, current_key, key, declared, called}
use Rattle.expr_meaning.specs.Calls.{library_value, document_value, current_value, members_of}
use Rattle.expr_meaning.specs.Calls.{key_of, keyed_root, literal_text, found_by_key, call_value}
use Rattle.expr_meaning.specs.Calls.{root_of_item, no_tree}
use Rattle.expr_meaning.specs.Calls.{call_of}
use Rattle.function_table.specs.declared.builtins.Builtin.{Builtin}
use Rattle.expr_laws.specs.Carrier.{Carrier, AreAlike, SeesFocus, Meet, AllMeet, ProgramsMeet}
use Rattle.expr_laws.specs.Carrier.{ProgramsAgree, OnValue}
use Rattle.expr_laws.proofs.Steps.{same_step}

module _ (c : Carrier) (sight : c.Sight) where
  pub lists_meet : (ms ns : List Meaning) → AllMeet c sight ms ns → (e f : Env) → c.at sight e f → (k : ℕ) →
      c.rel (List (List Item)) (Every (Every c.good)) (lists_of ms e k) (lists_of ns f k)
  lists_meet [] [] h e f s k = c.carries.ends _ _ _ _ tt
  lists_meet [] (n ∷ ns) h e f s k = absurd h
  lists_meet (m ∷ ms) [] h e f s k = absurd h
  lists_meet (m ∷ ms) (n ∷ ns) h e f s k =
      c.carries.next _ _ (Every (Every c.good)) (Every (Every c.good)) (listed e m k)
      (listed f n k) _ _
      (c.carries.next _ _ (Every c.good) (Every (Every c.good)) (m e k) (n f k) _ _ (h.0 e f s k)
      (λ xs j g. c.carries.ends _ _ _ _ (g, tt))) (λ xs j g.
      c.carries.next _ _ (Every (Every c.good)) (Every (Every c.good)) (lists_of ms e j)
      (lists_of ns f j) _ _ (lists_meet ms ns h.1 e f s j)
      (λ ys i d. c.carries.ends _ _ _ _ (every_append (Every c.good) xs ys g d)))

  -- lists of meanings that are related are as long
  pub as_long : (ms ns : List Meaning) → AllMeet c sight ms ns → length ms ≡ length ns
  as_long [] [] h = refl
  as_long [] (n ∷ ns) h = absurd h
  as_long (m ∷ ms) [] h = absurd h
  as_long (m ∷ ms) (n ∷ ns) h = ap suc (as_long ms ns h.1)

  -- the root of a tree of which something is known
  pub item_root : (x : Item) → c.good x → OnValue (λ r. c.good (Node r)) (root_of_item x)
  item_root (Atom a) g = tt
  item_root (Node n) g = by (is_document n.tree) (c.kept.root (Node n) g)
    where
      by : (b : Bool) → OnValue (Every c.good)
          (if b then Ok (Node (root_place n) ∷ []) else Err (Dynamic XPDY0050)) →
          OnValue (λ r. c.good (Node r)) (if b then Ok (root_place n) else Err no_tree)
      by true h = h.0
      by false h = tt

  root_known : (o : Option (Placed Item)) → ((p : Placed Item) → o ≡ Some p → c.good p.value) →
      OnValue (λ r. c.good (Node r)) (keyed_root o)
  root_known None h = tt
  root_known (Some p) h = item_root p.value (h p refl)

  -- a function of the library, where the focus is the same
  pub library_meets : SeesFocus c sight → (b : Builtin) (e f : Env) → c.at sight e f →
      (args : List (List Item)) → Every (Every c.good) args → (k : ℕ) →
      c.rel (List Item) (Every c.good) (step_outcome (library_value b e.focus args) k)
      (step_outcome (library_value b f.focus args) k)
  library_meets sees b e f s args g k =
      subst (λ o. c.rel (List Item) (Every c.good)
      (step_outcome (library_value b e.focus args) k) (step_outcome (library_value b o args) k))
      (sees.same e f s)
      (same_step c (Every c.good) (library_value b e.focus args)
      (c.kept.library b e.focus (sees.item e f s) args g) k)

  module _ (p q : Program) (meet : ProgramsMeet c p q) where
    -- what doc() and a declared function give
    pub document_meets : (args : List (List Item)) (k : ℕ) → c.rel (List Item) (Every c.good)
        (step_outcome (document_value p (argument args 0)) k)
        (step_outcome (document_value q (argument args 0)) k)
    document_meets args k =
        subst (λ v. c.rel (List Item) (Every c.good)
        (step_outcome (document_value p (argument args 0)) k) (step_outcome v k))
        (meet.document (argument args 0))
        (same_step c (Every c.good) (document_value p (argument args 0))
        (meet.documents (argument args 0)) k)

  module _ (places : AreAlike c) (p q : Program) (agree : ProgramsAgree c p q) where
    keyed_meets : (e f : Env) → c.at sight e f → (args : List (List Item)) → (k : ℕ) →
        c.rel (List Item) (Every c.good) (found_by_key p e args k) (found_by_key q f args k)
    keyed_meets e f s args k =
        subst (λ o. c.rel (List Item) (Every c.good) (found_by_key p e args k)
        (and_then (step_outcome (keyed_root o) k) (q.keys (literal_text (argument args 0))
        (map atom_of (argument args 1))))) ((places.focus sight).same e f s)
        (c.carries.next _ _ (λ r. c.good (Node r)) (Every c.good)
        (step_outcome (keyed_root e.focus) k) (step_outcome (keyed_root e.focus) k) _ _
        (same_step c (λ r. c.good (Node r)) (keyed_root e.focus)
        (root_known e.focus ((places.focus sight).item e f s)) k)
        (λ root j u. agree.keys (literal_text (argument args 0)) (map atom_of (argument args 1))
        root u j))

    value_meets : (d : Called) (name : ExprName) (e f : Env) → c.at sight e f →
        (args : List (List Item)) → Every (Every c.good) args → (k : ℕ) →
        c.rel (List Item) (Every c.good) (call_value p d name e args k)
        (call_value q d name f args k)
    value_meets (library b) name e f s args g k =
        library_meets (places.focus sight) b e f s args g k
    value_meets document name e f s args g k = document_meets p q agree.meet args k
    value_meets current name e f s args g k =
        subst (λ t. c.rel (List Item) (Every c.good)
        (step_outcome (current_value e.state.current) k) (step_outcome
        (current_value t.current) k))
        (places.state sight e f s)
        (same_step c (Every c.good) (current_value e.state.current) (places.current sight e f s) k)
    value_meets current_group name e f s args g k =
        subst (λ t. c.rel (List Item) (Every c.good) (Ends (members_of e.state.group) k)
        (Ends (members_of t.group) k)) (places.state sight e f s)
        (c.carries.ends _ _ _ _ (places.members sight e f s))
    value_meets current_key name e f s args g k =
        subst (λ t. c.rel (List Item) (Every c.good) (Ends (key_of e.state.group) k)
        (Ends (key_of t.group) k)) (places.state sight e f s)
        (c.carries.ends _ _ _ _ (places.key sight e f s))
    value_meets key name e f s args g k = keyed_meets e f s args k
    value_meets declared name e f s args g k =
        agree.meet.calls name (places.functions name) args g k

    pub call_meets : (name : ExprName) (ms ns : List Meaning) → AllMeet c sight ms ns →
        Meet c sight (call_of p name ms) (call_of q name ns)
    call_meets name ms ns h e f s k =
        subst (λ l. c.rel (List Item) (Every c.good) (call_of p name ms e k)
        (and_then (lists_of ns f k) (call_value q (called name l) name f))) (as_long ms ns h)
        (c.carries.next _ _ (Every (Every c.good)) (Every c.good) (lists_of ms e k)
        (lists_of ns f k) _ _ (lists_meet ms ns h e f s k)
        (λ args j g. value_meets (called name (length ms)) name e f s args g j))
