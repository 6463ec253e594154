-- The content of what is kept in a query is the content of all in a stylesheet.
use Rattle.std.proofs.Common.{◌≡◌, ℕ, List, [], ◌∷◌, ◌++◌, Bool, true, false, not, ◌&&◌, ◌||◌}
use Rattle.std.proofs.Common.{◌⊎◌, inl, inr, Option, Some, None, refl, ap, sym, ◌∙◌, subst, append_assoc}
use Rattle.std.proofs.lemmas.List.{append-nil}
use Rattle.std.proofs.lemmas.List.Folds.{list_any-append}
use Rattle.std.specs.List.{list_any}
use Rattle.std.specs.Prelude.{if◌then◌else◌}
use Rattle.xt_names.specs.Allowed.{is_empty_text}
use Rattle.xt_names.specs.declared.codes.Code.{Code}
use Rattle.xt_names.specs.declared.names.Name.{Name}
use Rattle.xt_atoms.specs.AtomTexts.{text_of}
use Rattle.xt_tree.specs.Place.{Place, subtree_of}
use Rattle.xt_tree.specs.Sound.{names_differ}
use Rattle.xt_tree.specs.TreeView.{trees}
use Rattle.xt_tree.specs.declared.attributes.Attribute.{Attribute}
use Rattle.xt_tree.specs.declared.trees.Tree.{Tree}
use Rattle.xt_tree.specs.declared.trees.Tree.TheVariants.{Doc, Elem, Text, Comment, Pi, Attr}
use Rattle.xdm_items.specs.declared.items.Item.{Item}
use Rattle.xdm_items.specs.declared.items.Item.TheVariants.{Node, Atom}
use Rattle.expr_meaning.specs.Outcomes.Outcome.{Every}
use Rattle.node_builder.specs.Made.{Made, Gives, Fails, made_then}
use Rattle.node_builder.specs.Complex.{is_attribute, last_of_each, misplaced, complex_content}
use Rattle.node_builder.specs.Building.{Built, empty, all_of, with_text, with_kid, with_attribute}
use Rattle.node_builder.specs.Building.{with_space}
use Rattle.node_builder.specs.Building.{with_trees, with_opened, behind_node, with_node}
use Rattle.node_builder.specs.Building.{with_gap, with_atom, with_items, finished}
use Rattle.node_builder.specs.declared.contents.Content.{Content}
use Rattle.node_builder.specs.declared.kinds.Duplicates.{Duplicates}
use Rattle.node_builder.specs.declared.kinds.Duplicates.TheVariants.{KeepLast, Refuse}
use Rattle.node_builder.specs.declared.kinds.Holder.TheVariants.{Element}
use Rattle.node_builder.proofs.OnePass.{one_pass, made_then-chain}
use Rattle.node_builder.proofs.AttributeLemmas.{all_kept}
use Rattle.query_helpers.specs.Last.{attribute_below, put_attribute, attributes_in}
use Rattle.query_helpers.specs.Last.{is_named_in, is_word_before, begins_with_word, is_lost}
use Rattle.query_helpers.specs.Last.{attribute_stays, kept_behind, last_of, HasPlainKids}
use Rattle.query_helpers.specs.Last.{IsPlaced, SameMade}
use Rattle.std.proofs.Math.Bool.{or-false, or-true}
use Rattle.xt_names.proofs.BoolLemmas.{neither}
use Rattle.xt_names.specs.Names.{same_name}

abbrev attr_named : Name → List ℕ → Attribute
attr_named n t = record { name = n; value = t }

-- a tree that is no attribute goes to the content, whatever the side and the attributes
abbrev moved : Built → Tree → Built
moved b (Doc kids) = with_kid b (Doc kids)
moved b (Elem name attributes kids) = with_kid b (Elem name attributes kids)
moved b (Text t) = with_text b t
moved b (Comment t) = with_kid b (Comment t)
moved b (Pi target t) = with_kid b (Pi target t)
moved b (Attr name t) = b

abbrev all_moved : Built → List Tree → Built
all_moved b [] = b
all_moved b (x ∷ xs) = all_moved (moved b x) xs

abbrev opened_on : Built → Tree → Built
opened_on b (Doc kids) = all_moved b (trees kids)
opened_on b (Elem name attributes kids) = with_kid b (Elem name attributes kids)
opened_on b (Text t) = with_text b t
opened_on b (Comment t) = with_kid b (Comment t)
opened_on b (Pi target t) = with_kid b (Pi target t)
opened_on b (Attr name t) = b

trees_moved : (side : Duplicates) (b : Built) (xs : List Tree) → list_any is_attribute xs ≡ false →
    with_trees side Element b xs ≡ Gives (all_moved b xs)
trees_moved side b [] h = refl
trees_moved side b (Doc kids ∷ xs) h = trees_moved side (with_kid b (Doc kids)) xs h
trees_moved side b (Elem n us kids ∷ xs) h = trees_moved side (with_kid b (Elem n us kids)) xs h
trees_moved side b (Text t ∷ xs) h = trees_moved side (with_text b t) xs h
trees_moved side b (Comment t ∷ xs) h = trees_moved side (with_kid b (Comment t)) xs h
trees_moved side b (Pi target t ∷ xs) h = trees_moved side (with_kid b (Pi target t)) xs h
trees_moved side b (Attr n t ∷ xs) h = absurd cc

is_opened : (side : Duplicates) (b : Built) (x : Tree) → is_attribute x ≡ false → HasPlainKids x →
    with_opened side Element b x ≡ Gives (opened_on b x)
is_opened side b (Doc kids) h p = trees_moved side b (trees kids) p
is_opened side b (Elem n us kids) h p = refl
is_opened side b (Text t) h p = refl
is_opened side b (Comment t) h p = refl
is_opened side b (Pi target t) h p = refl
is_opened side b (Attr n t) h p = absurd cc

-- the same but for the attributes
abbrev with_attributes : List Attribute → Built → Built
with_attributes us b = record b { attributes = us }

all_moved_with : (us : List Attribute) (b : Built) (xs : List Tree) →
    all_moved (with_attributes us b) xs ≡ with_attributes us (all_moved b xs)
all_moved_with us b [] = refl
all_moved_with us b (Doc kids ∷ xs) = all_moved_with us (with_kid b (Doc kids)) xs
all_moved_with us b (Elem n bs kids ∷ xs) = all_moved_with us (with_kid b (Elem n bs kids)) xs
all_moved_with us b (Text t ∷ xs) = all_moved_with us (with_text b t) xs
all_moved_with us b (Comment t ∷ xs) = all_moved_with us (with_kid b (Comment t)) xs
all_moved_with us b (Pi target t ∷ xs) = all_moved_with us (with_kid b (Pi target t)) xs
all_moved_with us b (Attr n t ∷ xs) = all_moved_with us b xs

opened_with : (us : List Attribute) (b : Built) (x : Tree) →
    opened_on (with_attributes us b) x ≡ with_attributes us (opened_on b x)
opened_with us b (Doc kids) = all_moved_with us b (trees kids)
opened_with us b (Elem n bs kids) = refl
opened_with us b (Text t) = refl
opened_with us b (Comment t) = refl
opened_with us b (Pi target t) = refl
opened_with us b (Attr n t) = refl

-- .. and the attributes stay
all_moved_keeps : (b : Built) (xs : List Tree) → (all_moved b xs).attributes ≡ b.attributes
all_moved_keeps b [] = refl
all_moved_keeps b (Doc kids ∷ xs) = all_moved_keeps (with_kid b (Doc kids)) xs
all_moved_keeps b (Elem n bs kids ∷ xs) = all_moved_keeps (with_kid b (Elem n bs kids)) xs
all_moved_keeps b (Text t ∷ xs) = all_moved_keeps (with_text b t) xs
all_moved_keeps b (Comment t ∷ xs) = all_moved_keeps (with_kid b (Comment t)) xs
all_moved_keeps b (Pi target t ∷ xs) = all_moved_keeps (with_kid b (Pi target t)) xs
all_moved_keeps b (Attr n t ∷ xs) = all_moved_keeps b xs

opened_keeps : (b : Built) (x : Tree) → (opened_on b x).attributes ≡ b.attributes
opened_keeps b (Doc kids) = all_moved_keeps b (trees kids)
opened_keeps b (Elem n bs kids) = refl
opened_keeps b (Text t) = refl
opened_keeps b (Comment t) = refl
opened_keeps b (Pi target t) = refl
opened_keeps b (Attr n t) = refl

-- .. and so does whether an atom is at the end
all_moved_after : (b : Built) (xs : List Tree) → (all_moved b xs).after_atom ≡ b.after_atom
all_moved_after b [] = refl
all_moved_after b (Doc kids ∷ xs) = all_moved_after (with_kid b (Doc kids)) xs
all_moved_after b (Elem n bs kids ∷ xs) = all_moved_after (with_kid b (Elem n bs kids)) xs
all_moved_after b (Text t ∷ xs) = all_moved_after (with_text b t) xs
all_moved_after b (Comment t ∷ xs) = all_moved_after (with_kid b (Comment t)) xs
all_moved_after b (Pi target t ∷ xs) = all_moved_after (with_kid b (Pi target t)) xs
all_moved_after b (Attr n t ∷ xs) = all_moved_after b xs

opened_after : (b : Built) (x : Tree) → (opened_on b x).after_atom ≡ b.after_atom
opened_after b (Doc kids) = all_moved_after b (trees kids)
opened_after b (Elem n bs kids) = refl
opened_after b (Text t) = refl
opened_after b (Comment t) = refl
opened_after b (Pi target t) = refl
opened_after b (Attr n t) = refl

-- .. and once there is a child there is one
or_stays : (b c : Bool) → b ≡ true → (b || c) ≡ true
or_stays true c h = refl
or_stays false c h = absurd cc

all_moved_begun : (b : Built) (xs : List Tree) → b.begun ≡ true → (all_moved b xs).begun ≡ true
all_moved_begun b [] h = h
all_moved_begun b (Doc kids ∷ xs) h = all_moved_begun (with_kid b (Doc kids)) xs refl
all_moved_begun b (Elem n bs kids ∷ xs) h = all_moved_begun (with_kid b (Elem n bs kids)) xs refl
all_moved_begun b (Text t ∷ xs) h =
    all_moved_begun (with_text b t) xs (or_stays b.begun (not (is_empty_text t)) h)
all_moved_begun b (Comment t ∷ xs) h = all_moved_begun (with_kid b (Comment t)) xs refl
all_moved_begun b (Pi target t ∷ xs) h = all_moved_begun (with_kid b (Pi target t)) xs refl
all_moved_begun b (Attr n t ∷ xs) h = all_moved_begun b xs h

opened_begun : (b : Built) (x : Tree) → b.begun ≡ true → (opened_on b x).begun ≡ true
opened_begun b (Doc kids) h = all_moved_begun b (trees kids) h
opened_begun b (Elem n bs kids) h = refl
opened_begun b (Text t) h = or_stays b.begun (not (is_empty_text t)) h
opened_begun b (Comment t) h = refl
opened_begun b (Pi target t) h = refl
opened_begun b (Attr n t) h = h

-- the attributes that are named neither again among these nor later
abbrev left : List Attribute → List Attribute → List Attribute
left [] later = []
left (a ∷ us) later =
    if is_named_in us a || is_named_in later a then left us later else a ∷ left us later

abbrev alone_unless : Bool → Attribute → List Attribute
alone_unless named a = if named then [] else a ∷ []

shuffle : (p r s : Bool) → ((p || (r || false)) || s) ≡ (p || (r || s))
shuffle true r s = refl
shuffle false true s = refl
shuffle false false s = refl

chosen_with : (b : Bool) (u : Attribute) (us vs : List Attribute) →
    (if b then us ++ vs else u ∷ (us ++ vs)) ≡ (if b then us else u ∷ us) ++ vs
chosen_with true u us vs = refl
chosen_with false u us vs = refl

left_push : (us : List Attribute) (a : Attribute) (later : List Attribute) →
    left (us ++ a ∷ []) later ≡ left us (a ∷ later) ++ alone_unless (is_named_in later a) a
left_push [] a later = by (is_named_in later a)
  where
    by : (b : Bool) → (if b then [] else a ∷ []) ≡ alone_unless b a
    by true = refl
    by false = refl
left_push (u ∷ us) a later =
    rw (
      list_any-append (λ (b : Attribute). same_name u.name b.name) us (a ∷ []),
      shuffle (is_named_in us u) (same_name u.name a.name) (is_named_in later u),
      left_push us a later,
    )
    (chosen_with (is_named_in us u || (same_name u.name a.name || is_named_in later u)) u
    (left us (a ∷ later)) (alone_unless (is_named_in later a) a))

left_end : (us : List Attribute) → left us [] ≡ last_of_each us
left_end [] = refl
left_end (u ∷ us) = rw (or-false (is_named_in us u), left_end us) refl

-- no name comes twice among those that are kept
fewer_named : (us : List Attribute) (a : Attribute) → is_named_in us a ≡ false →
    is_named_in (last_of_each us) a ≡ false
fewer_named [] a h = refl
fewer_named (u ∷ us) a h =
    let n = neither (same_name a.name u.name) (is_named_in us a) h in
    by (is_named_in us u) n.0 (fewer_named us a n.1)
  where
    by : (b : Bool) → same_name a.name u.name ≡ false → is_named_in (last_of_each us) a ≡ false →
        is_named_in (if b then last_of_each us else u ∷ last_of_each us) a ≡ false
    by true e g = g
    by false e g = rw (e, g) refl

kept_differ : (us : List Attribute) → names_differ (last_of_each us) ≡ true
kept_differ [] = refl
kept_differ (u ∷ us) = by (is_named_in us u) refl (kept_differ us)
  where
    by : (b : Bool) → is_named_in us u ≡ b → names_differ (last_of_each us) ≡ true →
        names_differ (if b then last_of_each us else u ∷ last_of_each us) ≡ true
    by true e g = g
    by false e g = rw (fewer_named us u e, g) refl

-- the end of both
at_end : (b d : Built) → all_of d ≡ all_of b →
    SameMade (finished KeepLast b) (finished Refuse (with_attributes (left b.attributes []) d))
at_end b d e =
    rw (left_end b.attributes, kept_differ b.attributes)
    (ap (λ kids. record { attributes = last_of_each b.attributes; kids = kids }) (sym e))

-- atoms
gap_with : (us : List Attribute) (b : Built) →
    with_gap (with_attributes us b) ≡ with_attributes us (with_gap b)
gap_with us b = by b.after_atom
  where
    by : (x : Bool) → (if x then with_space (with_attributes us b) else with_attributes us b)
        ≡ with_attributes us (if x then with_space b else b)
    by true = refl
    by false = refl

atom_with : (us : List Attribute) (b : Built) (t : List ℕ) →
    with_atom (with_attributes us b) t ≡ with_attributes us (with_atom b t)
atom_with us b t = ap (λ g. record (with_text g t) { after_atom = true }) (gap_with us b)

gap_keeps : (b : Built) → (with_gap b).attributes ≡ b.attributes
gap_keeps b = by b.after_atom
  where
    by : (x : Bool) → (if x then with_space b else b).attributes ≡ b.attributes
    by true = refl
    by false = refl

-- where an atom stands before, or the atom has characters, there is a child
gap_begun : (b : Built) (t : List ℕ) → b.after_atom ≡ true → (with_atom b t).begun ≡ true
gap_begun b t h = by b.after_atom h
  where
    by : (x : Bool) → x ≡ true →
        ((if x then with_space b else b).begun || not (is_empty_text t)) ≡ true
    by true e = refl
    by false e = absurd cc

text_begun : (b : Built) (t : List ℕ) → is_empty_text t ≡ false → (with_atom b t).begun ≡ true
text_begun b t h = rw h (or-true (with_gap b).begun)

atom_begun : (b : Built) (t : List ℕ) → b.begun ≡ true → (with_atom b t).begun ≡ true
atom_begun b t h = by b.after_atom
  where
    by : (x : Bool) → ((if x then with_space b else b).begun || not (is_empty_text t)) ≡ true
    by true = refl
    by false = or_stays b.begun (not (is_empty_text t)) h

-- an atom without characters gives nothing where no atom stands before
lost_atom : (b : Built) (t : List ℕ) → b.after_atom ≡ false → is_empty_text t ≡ true →
    behind_node (with_atom b t) ≡ b
unfolding is_empty_text
lost_atom b [] h e =
    ap (λ x. behind_node (record (with_text (if x then with_space b else b) []) { after_atom = true })) h
    ∙ (λ i. record {
      attributes = b.attributes;
      done = b.done;
      pending = append-nil b.pending i;
      begun = or-false b.begun i;
      after_atom = sym h i;
    })
lost_atom b (c ∷ cs) h e = absurd cc

-- How far both are: what stands before, which attributes are to come, and whether an atom comes next.
-- After an atom the query is where the stylesheet is, or it has left the atom out.
data Stage (before : Option Item) (later : List Attribute) (next : Bool) (b c : Built) : Type 0 where
  fresh : is_word_before before ≡ false → b.after_atom ≡ false →
      c ≡ with_attributes (left b.attributes later) b → Stage before later next b c
  spoken : is_word_before before ≡ true → b.after_atom ≡ true → (next ≡ true) ⊎ (b.begun ≡ true) →
      c ≡ with_attributes (left b.attributes later) b → Stage before later next b c
  lost : is_word_before before ≡ true → next ≡ false →
      c ≡ with_attributes (left b.attributes later) (behind_node b) → Stage before later next b c

-- after a node both are in one place
node_stage : (before : Option Item) (later : List Attribute) (next : Bool) (b c : Built) →
    Stage before later next b c →
    behind_node c ≡ with_attributes (left b.attributes later) (behind_node b)
node_stage before later next b c (fresh w a e) = ap behind_node e
node_stage before later next b c (spoken w a n e) = ap behind_node e
node_stage before later next b c (lost w n e) = ap behind_node e

begun_stage : (before : Option Item) (later : List Attribute) (next : Bool) (b c : Built) →
    Stage before later next b c → c.begun ≡ b.begun
begun_stage before later next b c (fresh w a e) = ap (λ d. d.begun) e
begun_stage before later next b c (spoken w a n e) = ap (λ d. d.begun) e
begun_stage before later next b c (lost w n e) = ap (λ d. d.begun) e

abbrev IsFailed : {A : Type 0} → Made A → Type 0
IsFailed (Gives a) = ⊥
IsFailed (Fails code) = Unit {0}

both_failed : {A : Type 0} (code : Code) (o : Made A) → IsFailed o → SameMade (Fails code) o
both_failed code (Gives a) h = absurd h
both_failed code (Fails d) h = tt

abbrev IsSome : List Attribute → Type 0
IsSome [] = ⊥
IsSome (a ∷ us) = Unit {0}

some_named : (us : List Attribute) (a : Attribute) → is_named_in us a ≡ true → IsSome us
some_named [] a h = absurd cc
some_named (u ∷ us) a h = tt

abbrev in_sheet : Built → List Item → Made Content
in_sheet b xs = made_then (with_items KeepLast Element b xs) (finished KeepLast)

abbrev in_query : Built → List Item → Made Content
in_query c xs = made_then (with_items Refuse Element c xs) (finished Refuse)

-- an attribute after a child fails in the query
attribute_fails : (c : Built) (n : Name) (t : List ℕ) (go : Built → Made Content) → c.begun ≡ true →
    IsFailed (made_then (with_attribute Refuse Element c n t) go)
unfolding with_attribute
attribute_fails c n t go h = rw h tt

module _ (n : Place) (xs : List Item) where
  abbrev K : List Item
  K = kept_behind (Some (Node n)) xs

  abbrev chosen : Bool → List Item
  chosen b = if b then Node n ∷ K else K

  node_is : (c : Built) (x : Tree) → subtree_of n ≡ Some x →
      in_query c (Node n ∷ K) ≡ made_then (with_opened Refuse Element (behind_node c) x)
      (λ d. in_query d K)
  node_is c x is =
      ap (λ o. made_then (made_then (with_node Refuse Element c o)
      (λ d. with_items Refuse Element d K)) (finished Refuse)) is
      ∙ made_then-chain (with_opened Refuse Element (behind_node c) x)
      (λ d. with_items Refuse Element d K) (finished Refuse)

  plain_fails : (x : Tree) → subtree_of n ≡ Some x → HasPlainKids x → is_attribute x ≡ false →
      (c : Built) → c.begun ≡ true → ((d : Built) → d.begun ≡ true → IsFailed (in_query d K)) →
      IsFailed (in_query c (Node n ∷ K))
  plain_fails x is plain h c g go =
      rw (node_is c x is, is_opened Refuse (behind_node c) x h plain)
      (go (opened_on (behind_node c) x) (opened_begun (behind_node c) x g))

  node_fails : (x : Tree) → subtree_of n ≡ Some x → HasPlainKids x → (c : Built) → c.begun ≡ true →
      IsSome (put_attribute (attribute_below (Some x)) (attributes_in xs)) →
      (IsSome (attributes_in xs) → (d : Built) → d.begun ≡ true → IsFailed (in_query d K)) →
      IsFailed (in_query c (chosen (attribute_stays (attribute_below (Some x)) xs)))
  node_fails (Doc kids) is plain c g some go = plain_fails (Doc kids) is plain refl c g (go some)
  node_fails (Elem m us kids) is plain c g some go =
      plain_fails (Elem m us kids) is plain refl c g (go some)
  node_fails (Text t) is plain c g some go = plain_fails (Text t) is plain refl c g (go some)
  node_fails (Comment t) is plain c g some go = plain_fails (Comment t) is plain refl c g (go some)
  node_fails (Pi target t) is plain c g some go =
      plain_fails (Pi target t) is plain refl c g (go some)
  node_fails (Attr m t) is plain c g some go = by (is_named_in (attributes_in xs) (attr_named m t)) refl
    where
      by : (v : Bool) → is_named_in (attributes_in xs) (attr_named m t) ≡ v →
          IsFailed (in_query c (chosen (not v)))
      by true e = go (some_named (attributes_in xs) (attr_named m t) e) c g
      by false e = rw (node_is c (Attr m t) is)
          (attribute_fails (behind_node c) m t (λ d. in_query d K) g)

fails_later : (xs : List Item) → Every IsPlaced xs → (before : Option Item) (c : Built) →
    c.begun ≡ true → IsSome (attributes_in xs) → IsFailed (in_query c (kept_behind before xs))
fails_later [] p before c g some = absurd some
fails_later (Atom a ∷ xs) p before c g some =
    by (is_lost before (text_of a) xs) (fails_later xs p.1 (Some (Atom a)) c g some)
    (fails_later xs p.1 (Some (Atom a)) (with_atom c (text_of a)) (atom_begun c (text_of a) g) some)
  where
    by : (v : Bool) → IsFailed (in_query c (kept_behind (Some (Atom a)) xs)) →
        IsFailed (in_query (with_atom c (text_of a)) (kept_behind (Some (Atom a)) xs)) →
        IsFailed (in_query c (if not v then Atom a ∷ kept_behind (Some (Atom a)) xs
        else kept_behind (Some (Atom a)) xs))
    by true g h = g
    by false g h = h
fails_later (Node n ∷ xs) p before c g some =
    subst (λ o. IsFailed (in_query c (chosen n xs (attribute_stays (attribute_below o) xs))))
    (sym p.0.1)
    (node_fails n xs p.0.0 p.0.1 p.0.2 c g
    (subst (λ o. IsSome (put_attribute (attribute_below o) (attributes_in xs))) p.0.1 some)
    (λ s d e. fails_later xs p.1 (Some (Node n)) d e s))

-- the attributes of both after one more
more_left : (b : Built) (us : List Attribute) (later : List Attribute) (a : Attribute) (v : Bool) →
    is_named_in later a ≡ v →
    left (us ++ a ∷ []) later ≡ left us (a ∷ later) ++ alone_unless v a
more_left b us later a v h = left_push us a later ∙ ap (λ x. left us (a ∷ later) ++ alone_unless x a) h

and_both : (p r : Bool) → (p && r) ≡ true → (p ≡ true) × (r ≡ true)
and_both true r h = (refl, h)
and_both false r h = absurd cc

not_true : (b : Bool) → not b ≡ true → b ≡ false
not_true true h = absurd cc
not_true false h = refl

-- what an atom that is kept leaves to be known
kept_word : (e w n : Bool) → w ≡ false → (e && (not w && not n)) ≡ false →
    (n ≡ true) ⊎ (e ≡ false)
kept_word true false true h g = inl refl
kept_word true false false h g = absurd cc
kept_word false w n h g = inr refl
kept_word true true n h g = absurd cc

-- an atom that is left out
lost_stage : (before : Option Item) (a : _) (xs : List Item) (b c : Built) →
    is_lost before (text_of a) xs ≡ true → Stage before (attributes_in xs) true b c →
    Stage (Some (Atom a)) (attributes_in xs) (begins_with_word xs) (with_atom b (text_of a)) c
lost_stage before a xs b c h (fresh w f e) =
    let l = and_both (is_empty_text (text_of a)) (not (is_word_before before) && not (begins_with_word xs)) h in
    let n = and_both (not (is_word_before before)) (not (begins_with_word xs)) l.1 in
    lost refl (not_true (begins_with_word xs) n.1)
    (e ∙ ap (λ us. with_attributes (left us (attributes_in xs)) b) (sym (gap_keeps b))
    ∙ ap (with_attributes (left (with_gap b).attributes (attributes_in xs))) (sym (lost_atom b (text_of a) f l.0)))
lost_stage before a xs b c h (spoken w f n e) =
    let l = and_both (is_empty_text (text_of a)) (not (is_word_before before) && not (begins_with_word xs)) h in
    let n = and_both (not (is_word_before before)) (not (begins_with_word xs)) l.1 in
    let g : is_word_before before ≡ false = not_true (is_word_before before) n.0 in
    absurd cc
lost_stage before a xs b c h (lost w n e) = absurd cc

-- an atom that is kept
kept_same : (b c : Built) (later : List Attribute) (t : List ℕ) →
    c ≡ with_attributes (left b.attributes later) b →
    with_atom c t ≡ with_attributes (left (with_atom b t).attributes later) (with_atom b t)
kept_same b c later t e =
    ap (λ d. with_atom d t) e ∙ atom_with (left b.attributes later) b t
    ∙ ap (λ us. with_attributes (left us later) (with_atom b t)) (sym (gap_keeps b))

kept_stage : (before : Option Item) (a : _) (xs : List Item) (b c : Built) →
    is_lost before (text_of a) xs ≡ false → Stage before (attributes_in xs) true b c →
    Stage (Some (Atom a)) (attributes_in xs) (begins_with_word xs) (with_atom b (text_of a))
    (with_atom c (text_of a))
kept_stage before a xs b c h (fresh w f e) =
    spoken refl refl
    (by (kept_word (is_empty_text (text_of a)) (is_word_before before) (begins_with_word xs) w h))
    (kept_same b c (attributes_in xs) (text_of a) e)
  where
    by : (begins_with_word xs ≡ true) ⊎ (is_empty_text (text_of a) ≡ false) →
        (begins_with_word xs ≡ true) ⊎ ((with_atom b (text_of a)).begun ≡ true)
    by (inl n) = inl n
    by (inr n) = inr (text_begun b (text_of a) n)
kept_stage before a xs b c h (spoken w f n e) =
    spoken refl refl (inr (gap_begun b (text_of a) f)) (kept_same b c (attributes_in xs) (text_of a) e)
kept_stage before a xs b c h (lost w n e) = absurd cc

-- a node that is no attribute
plain_stage : (n : Place) (xs : List Item) (before : Option Item) (b c : Built) (x : Tree) →
    Stage before (attributes_in xs) false b c →
    Stage (Some (Node n)) (attributes_in xs) (begins_with_word xs) (opened_on (behind_node b) x)
    (opened_on (behind_node c) x)
plain_stage n xs before b c x s =
    fresh refl (opened_after (behind_node b) x)
    (ap (λ d. opened_on d x) (node_stage before (attributes_in xs) false b c s)
    ∙ opened_with (left b.attributes (attributes_in xs)) (behind_node b) x
    ∙ ap (λ us. with_attributes (left us (attributes_in xs)) (opened_on (behind_node b) x))
    (sym (opened_keeps (behind_node b) x)))

-- an attribute that is kept
more_stage : (n : Place) (xs : List Item) (before : Option Item) (b c : Built) (a : Attribute) →
    is_named_in (attributes_in xs) a ≡ false → Stage before (a ∷ attributes_in xs) false b c →
    Stage (Some (Node n)) (attributes_in xs) (begins_with_word xs)
    (with_attributes (b.attributes ++ a ∷ []) (behind_node b))
    (with_attributes (c.attributes ++ a ∷ []) (behind_node c))
more_stage n xs before b c a h s =
    fresh refl refl
    (ap (λ d. with_attributes (d.attributes ++ a ∷ []) d)
    (node_stage before (a ∷ attributes_in xs) false b c s)
    ∙ ap (λ us. with_attributes us (behind_node b))
    (sym (more_left b b.attributes (attributes_in xs) a false h)))

-- an attribute that comes again, before any child
dropped_stage : (n : Place) (xs : List Item) (before : Option Item) (b c : Built) (a : Attribute) →
    is_named_in (attributes_in xs) a ≡ true → b.begun ≡ false →
    Stage before (a ∷ attributes_in xs) false b c →
    Stage (Some (Node n)) (attributes_in xs) (begins_with_word xs)
    (with_attributes (b.attributes ++ a ∷ []) (behind_node b)) c
dropped_stage n xs before b c a h g (fresh w f e) =
    fresh refl refl (e
    ∙ ap (λ after. record b { attributes = left b.attributes (a ∷ attributes_in xs); after_atom = after }) f
    ∙ ap (λ us. with_attributes us (behind_node b))
    (sym (append-nil (left b.attributes (a ∷ attributes_in xs)))
    ∙ sym (more_left b b.attributes (attributes_in xs) a true h)))
dropped_stage n xs before b c a h g (spoken w f (inl m) e) = absurd cc
dropped_stage n xs before b c a h g (spoken w f (inr m) e) = absurd cc
dropped_stage n xs before b c a h g (lost w m e) =
    fresh refl refl (e ∙ ap (λ us. with_attributes us (behind_node b))
    (sym (append-nil (left b.attributes (a ∷ attributes_in xs)))
    ∙ sym (more_left b b.attributes (attributes_in xs) a true h)))

attribute_taken : (side : Duplicates) (b : Built) (m : Name) (t : List ℕ) → b.begun ≡ false →
    with_attribute side Element (behind_node b) m t
    ≡ Gives (with_attributes (b.attributes ++ attr_named m t ∷ []) (behind_node b))
unfolding with_attribute
attribute_taken side b m t h =
    ap (λ g. if not g
    then Gives (with_attributes (b.attributes ++ attr_named m t ∷ []) (behind_node b))
    else Fails (misplaced side Element)) h

module _ (n : Place) (xs : List Item) (placed : Every IsPlaced xs)
    (go : (b c : Built) → Stage (Some (Node n)) (attributes_in xs) (begins_with_word xs) b c →
    SameMade (in_sheet b xs) (in_query c (kept_behind (Some (Node n)) xs))) where
  abbrev after_node : Built → Option Tree → Made Content
  after_node b o = made_then (made_then (with_node KeepLast Element b o)
      (λ d. with_items KeepLast Element d xs)) (finished KeepLast)

  plain_goes : (x : Tree) → subtree_of n ≡ Some x → HasPlainKids x → is_attribute x ≡ false →
      (before : Option Item) (b c : Built) → Stage before (attributes_in xs) false b c →
      SameMade (after_node b (Some x)) (in_query c (Node n ∷ K n xs))
  plain_goes x is plain h before b c s =
      rw (
        node_is n xs c x is,
        is_opened KeepLast (behind_node b) x h plain,
        is_opened Refuse (behind_node c) x h plain,
      )
      (go (opened_on (behind_node b) x) (opened_on (behind_node c) x) (plain_stage n xs before b c x s))

  attribute_goes : (m : Name) (t : List ℕ) → subtree_of n ≡ Some (Attr m t) →
      (before : Option Item) (b c : Built) → (v g : Bool) →
      is_named_in (attributes_in xs) (attr_named m t) ≡ v → b.begun ≡ g →
      Stage before (attr_named m t ∷ attributes_in xs) false b c →
      SameMade (after_node b (Some (Attr m t))) (in_query c (chosen n xs (not v)))
  unfolding with_attribute
  attribute_goes m t is before b c true true h f s =
      rw f (both_failed (misplaced KeepLast Element) _
      (fails_later xs placed (Some (Node n)) c
      (begun_stage before (attr_named m t ∷ attributes_in xs) false b c s ∙ f)
      (some_named (attributes_in xs) (attr_named m t) h)))
  attribute_goes m t is before b c true false h f s =
      rw (attribute_taken KeepLast b m t f)
      (go (with_attributes (b.attributes ++ attr_named m t ∷ []) (behind_node b)) c
      (dropped_stage n xs before b c (attr_named m t) h f s))
  attribute_goes m t is before b c false true h f s =
      let k = begun_stage before (attr_named m t ∷ attributes_in xs) false b c s ∙ f in
      rw (node_is n xs c (Attr m t) is, f, k) tt
  attribute_goes m t is before b c false false h f s =
      let k : c.begun ≡ false =
      begun_stage before (attr_named m t ∷ attributes_in xs) false b c s ∙ f in
      rw (
        node_is n xs c (Attr m t) is,
        attribute_taken KeepLast b m t f,
        attribute_taken Refuse c m t k,
      )
      (go (with_attributes (b.attributes ++ attr_named m t ∷ []) (behind_node b))
      (with_attributes (c.attributes ++ attr_named m t ∷ []) (behind_node c))
      (more_stage n xs before b c (attr_named m t) h s))

  node_goes : (x : Tree) → subtree_of n ≡ Some x → HasPlainKids x →
      (before : Option Item) (b c : Built) →
      Stage before (put_attribute (attribute_below (Some x)) (attributes_in xs)) false b c →
      SameMade (after_node b (Some x))
      (in_query c (chosen n xs (attribute_stays (attribute_below (Some x)) xs)))
  node_goes (Doc kids) is plain before b c s = plain_goes (Doc kids) is plain refl before b c s
  node_goes (Elem m us kids) is plain before b c s =
      plain_goes (Elem m us kids) is plain refl before b c s
  node_goes (Text t) is plain before b c s = plain_goes (Text t) is plain refl before b c s
  node_goes (Comment t) is plain before b c s = plain_goes (Comment t) is plain refl before b c s
  node_goes (Pi target t) is plain before b c s =
      plain_goes (Pi target t) is plain refl before b c s
  node_goes (Attr m t) is plain before b c s =
      attribute_goes m t is before b c (is_named_in (attributes_in xs) (attr_named m t)) b.begun refl
      refl s

goes : (xs : List Item) → Every IsPlaced xs → (before : Option Item) (b c : Built) →
    Stage before (attributes_in xs) (begins_with_word xs) b c →
    SameMade (in_sheet b xs) (in_query c (kept_behind before xs))
goes [] p before b c (fresh w f e) = rw e (at_end b b refl)
goes [] p before b c (spoken w f n e) = rw e (at_end b b refl)
goes [] p before b c (lost w n e) = rw e (at_end b (behind_node b) refl)
goes (Atom a ∷ xs) p before b c s =
    by (is_lost before (text_of a) xs) refl
    (goes xs p.1 (Some (Atom a)) (with_atom b (text_of a)))
  where
    by : (v : Bool) → is_lost before (text_of a) xs ≡ v → ((d : Built) →
        Stage (Some (Atom a)) (attributes_in xs) (begins_with_word xs) (with_atom b (text_of a)) d →
        SameMade (in_sheet (with_atom b (text_of a)) xs)
        (in_query d (kept_behind (Some (Atom a)) xs))) →
        SameMade (in_sheet (with_atom b (text_of a)) xs)
        (in_query c (if not v then Atom a ∷ kept_behind (Some (Atom a)) xs
        else kept_behind (Some (Atom a)) xs))
    by true h go = go c (lost_stage before a xs b c h s)
    by false h go = go (with_atom c (text_of a)) (kept_stage before a xs b c h s)
goes (Node n ∷ xs) p before b c s =
    subst (λ o. SameMade (after_node n xs p.1 (goes xs p.1 (Some (Node n))) b o)
    (in_query c (chosen n xs (attribute_stays (attribute_below o) xs))))
    (sym p.0.1)
    (node_goes n xs p.1 (goes xs p.1 (Some (Node n))) p.0.0 p.0.1 p.0.2 before b c
    (subst (λ o. Stage before (put_attribute (attribute_below o) (attributes_in xs)) false b c) p.0.1 s))

-- where all names differ, so do those of the attributes that are taken
same_end : (b : Built) → names_differ b.attributes ≡ true →
    SameMade (finished KeepLast b) (finished Refuse b)
same_end b h =
    rw (all_kept b.attributes h, h) refl

module _ (n : Place) (xs : List Item)
    (go : (b : Built) → names_differ (b.attributes ++ attributes_in xs) ≡ true →
    SameMade (in_sheet b xs) (in_query b xs)) where
  abbrev next_of : Duplicates → Built → Option Tree → Made Content
  next_of side b o = made_then (made_then (with_node side Element b o)
      (λ d. with_items side Element d xs)) (finished side)

  plain_same : (x : Tree) → HasPlainKids x → is_attribute x ≡ false → (b : Built) →
      names_differ (b.attributes ++ attributes_in xs) ≡ true →
      SameMade (next_of KeepLast b (Some x)) (next_of Refuse b (Some x))
  plain_same x plain h b d =
      rw (is_opened KeepLast (behind_node b) x h plain, is_opened Refuse (behind_node b) x h plain)
      (go (opened_on (behind_node b) x)
      (ap (λ us. names_differ (us ++ attributes_in xs)) (opened_keeps (behind_node b) x) ∙ d))

  attribute_same : (m : Name) (t : List ℕ) (b : Built) (g : Bool) → b.begun ≡ g →
      names_differ (b.attributes ++ attr_named m t ∷ attributes_in xs) ≡ true →
      SameMade (next_of KeepLast b (Some (Attr m t))) (next_of Refuse b (Some (Attr m t)))
  unfolding with_attribute
  attribute_same m t b true f d = rw f tt
  attribute_same m t b false f d =
      rw (attribute_taken KeepLast b m t f, attribute_taken Refuse b m t f)
      (go (with_attributes (b.attributes ++ attr_named m t ∷ []) (behind_node b))
      (ap names_differ (append_assoc b.attributes (attr_named m t ∷ []) (attributes_in xs)) ∙ d))

  node_same : (x : Tree) → HasPlainKids x → (b : Built) →
      names_differ (b.attributes ++ put_attribute (attribute_below (Some x)) (attributes_in xs)) ≡ true →
      SameMade (next_of KeepLast b (Some x)) (next_of Refuse b (Some x))
  node_same (Doc kids) plain b d = plain_same (Doc kids) plain refl b d
  node_same (Elem m us kids) plain b d = plain_same (Elem m us kids) plain refl b d
  node_same (Text t) plain b d = plain_same (Text t) plain refl b d
  node_same (Comment t) plain b d = plain_same (Comment t) plain refl b d
  node_same (Pi target t) plain b d = plain_same (Pi target t) plain refl b d
  node_same (Attr m t) plain b d = attribute_same m t b b.begun refl d

same_taken : (xs : List Item) → Every IsPlaced xs → (b : Built) →
    names_differ (b.attributes ++ attributes_in xs) ≡ true →
    SameMade (in_sheet b xs) (in_query b xs)
same_taken [] p b h = same_end b (ap names_differ (sym (append-nil b.attributes)) ∙ h)
same_taken (Atom a ∷ xs) p b h =
    same_taken xs p.1 (with_atom b (text_of a))
    (ap (λ us. names_differ (us ++ attributes_in xs)) (gap_keeps b) ∙ h)
same_taken (Node n ∷ xs) p b h =
    subst (λ o. SameMade (next_of n xs (same_taken xs p.1) KeepLast b o)
    (next_of n xs (same_taken xs p.1) Refuse b o)) (sym p.0.1)
    (node_same n xs (same_taken xs p.1) p.0.0 p.0.2 b
    (subst (λ o. names_differ (b.attributes ++ put_attribute (attribute_below o) (attributes_in xs))
    ≡ true) p.0.1 h))

-- the content of the items in a stylesheet, and of what is kept of them in a query
pub last_content : (xs : List Item) → Every IsPlaced xs →
    SameMade (complex_content KeepLast Element xs) (complex_content Refuse Element (last_of xs))
last_content xs p =
    rw (one_pass KeepLast Element xs, one_pass Refuse Element (last_of xs))
    (by (names_differ (attributes_in xs)) refl)
  where
    by : (b : Bool) → names_differ (attributes_in xs) ≡ b →
        SameMade (in_sheet empty xs) (in_query empty (if b then xs else kept_behind None xs))
    by true h = same_taken xs p empty h
    by false h = goes xs p None empty empty (fresh refl refl refl)
