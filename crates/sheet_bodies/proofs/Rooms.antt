-- Content that may have so many levels, node by node.
use Rattle.std.proofs.Common.{◌≡◌, ◌∙◌, ◌+◌, ◌<◌, ◌≤◌, ◌++◌, ap, sym, refl, arith, ℕ, zero, suc, List, [], ◌∷◌, Bool, true, false, if◌then◌else◌, length, drop, drop-cons, get_or, add-one, append_assoc}
use Rattle.std.proofs.lemmas.List.{drop_all, append-nil}
use Rattle.xt_names.specs.declared.codes.Code.{Code}
use Rattle.xt_names.specs.declared.codes.Code.TheVariants.{SheetStatic}
use Rattle.xt_names.specs.declared.codes.SheetStaticCode.TheVariants.{XTLM0004}
use Rattle.xt_sheets.specs.declared.instrs.Instr.{Instr}
use Rattle.sheet_table.specs.SheetNodes.Parts.{is_variable}
use Rattle.sheet_table.specs.declared.sheet_nodes.nodes.Node.{Node}
use Rattle.sheet_heads.specs.SheetValues.declared.sheet_texts.places.StaticContext.{StaticContext}
use Rattle.sheet_heads.specs.SheetValues.SheetTexts.Readings.{Reading}
use Rattle.sheet_bodies.specs.Bodies.{body_faults, body_value, node_faults, node_value, walk_faults, walk_value}

module _ {E P : Type 0} (r : Reading E P) (p : StaticContext) where
  faults_nil : (room : ℕ) → body_faults r room p [] ≡ []
  unfolding body_faults
  faults_nil zero = refl
  faults_nil (suc room) = refl

  value_nil : (room : ℕ) → body_value r room p [] ≡ []
  unfolding body_value
  value_nil zero = refl
  value_nil (suc room) = refl

  closed : (room : ℕ) (n : Node) (ns : List Node) → room ≡ 0
      → body_faults r room p (n ∷ ns) ≡ SheetStatic XTLM0004 ∷ []
  unfolding body_faults
  closed zero n ns h = refl
  closed (suc room) n ns h = absurd (omega (arith, h))

  faults_open : (room : ℕ) (n : Node) (ns : List Node) → body_faults r (suc room) p (n ∷ ns)
      ≡ node_faults r (body_faults r room) (body_value r room) p n
      ++ body_faults r (if is_variable n then room else suc room) p ns
  unfolding body_faults
  faults_open room n ns =
      elim (is_variable n) as (λ b. (node_faults r (body_faults r room) (body_value r room) p n
      ++ (if b then body_faults r room p ns else walk_faults r (body_faults r room) (body_value r room) p ns))
      ≡ (node_faults r (body_faults r room) (body_value r room) p n
      ++ body_faults r (if b then room else suc room) p ns))
      [ true ↦ refl | false ↦ refl ]

  value_open : (room : ℕ) (n : Node) (ns : List Node) → body_value r (suc room) p (n ∷ ns)
      ≡ node_value r (body_value r room) p n ∷ body_value r (if is_variable n then room else suc room) p ns
  unfolding body_value
  value_open room n ns =
      elim (is_variable n) as (λ b. (node_value r (body_value r room) p n
      ∷ (if b then body_value r room p ns else walk_value r (body_value r room) p ns))
      ≡ (node_value r (body_value r room) p n ∷ body_value r (if b then room else suc room) p ns))
      [ true ↦ refl | false ↦ refl ]

  faults_cons : (room below left : ℕ) (n : Node) (ns : List Node) → room ≡ suc below
      → left ≡ (if is_variable n then below else suc below)
      → body_faults r room p (n ∷ ns)
      ≡ node_faults r (body_faults r below) (body_value r below) p n ++ body_faults r left p ns
  faults_cons room below left n ns h k = rw (h, k) (faults_open below n ns)

  value_cons : (room below left : ℕ) (n : Node) (ns : List Node) → room ≡ suc below
      → left ≡ (if is_variable n then below else suc below)
      → body_value r room p (n ∷ ns) ≡ node_value r (body_value r below) p n ∷ body_value r left p ns
  value_cons room below left n ns h k = rw (h, k) (value_open below n ns)

-- the node at a turn stands first among those that are left
left_now : (all : List Node) (i : ℕ) (n : Node) → i < length all → n ≡ get_or all i n
    → drop i all ≡ n ∷ drop (i + 1) all
left_now all i n less is = let d = drop-cons all i n less in let p = add-one i in cc

module _ {E P : Type 0} (r : Reading E P) (p : StaticContext) where
  pub turn_closed : (room left i : ℕ) (all : List Node) (n : Node)
      → body_faults r room p all ≡ body_faults r left p (drop i all) → i < length all
      → n ≡ get_or all i n → left ≡ 0 → body_faults r room p all ≡ SheetStatic XTLM0004 ∷ []
  turn_closed room left i all n same less is none =
      same ∙ (ap (body_faults r left p) (left_now all i n less is) ∙ closed r p left n (drop (i + 1) all) none)

  pub turn_faults : (room left below after i : ℕ) (all : List Node) (n : Node)
      → body_faults r room p all ≡ body_faults r left p (drop i all) → i < length all
      → n ≡ get_or all i n → left ≡ suc below → after ≡ (if is_variable n then below else suc below)
      → body_faults r room p all
      ≡ node_faults r (body_faults r below) (body_value r below) p n ++ body_faults r after p (drop (i + 1) all)
  turn_faults room left below after i all n same less is opened behind =
      same ∙ (ap (body_faults r left p) (left_now all i n less is)
      ∙ faults_cons r p left below after n (drop (i + 1) all) opened behind)

  pub turn_none : (room left below after i : ℕ) (all : List Node) (n : Node)
      → body_faults r room p all ≡ body_faults r left p (drop i all) → i < length all
      → n ≡ get_or all i n → left ≡ suc below → after ≡ (if is_variable n then below else suc below)
      → node_faults r (body_faults r below) (body_value r below) p n ≡ []
      → body_faults r room p all ≡ body_faults r after p (drop (i + 1) all)
  turn_none room left below after i all n same less is opened behind none =
      turn_faults room left below after i all n same less is opened behind
      ∙ ap (λ fs. fs ++ body_faults r after p (drop (i + 1) all)) none

  pub turn_value : (room left below after i : ℕ) (all : List Node) (n : Node) (out new : List (Instr E P))
      → body_value r room p all ≡ out ++ body_value r left p (drop i all) → i < length all
      → n ≡ get_or all i n → left ≡ suc below → after ≡ (if is_variable n then below else suc below)
      → new ≡ out ++ node_value r (body_value r below) p n ∷ []
      → body_value r room p all ≡ new ++ body_value r after p (drop (i + 1) all)
  turn_value room left below after i all n out new same less is opened behind pushed =
      let v = node_value r (body_value r below) p n in
      let e = ap (body_value r left p) (left_now all i n less is)
      ∙ value_cons r p left below after n (drop (i + 1) all) opened behind in
      same ∙ (ap (λ ns. out ++ ns) e ∙ (sym (append_assoc out (v ∷ []) (body_value r after p (drop (i + 1) all)))
      ∙ ap (λ ns. ns ++ body_value r after p (drop (i + 1) all)) (sym pushed)))

  pub end_faults : (room left i : ℕ) (all : List Node)
      → body_faults r room p all ≡ body_faults r left p (drop i all) → length all ≤ i
      → body_faults r room p all ≡ []
  end_faults room left i all same over =
      same ∙ (ap (body_faults r left p) (drop_all i all over) ∙ faults_nil r p left)

  pub end_value : (room left i : ℕ) (all : List Node) (out : List (Instr E P))
      → body_value r room p all ≡ out ++ body_value r left p (drop i all) → length all ≤ i
      → out ≡ body_value r room p all
  end_value room left i all out same over =
      sym (same ∙ (ap (λ ns. out ++ body_value r left p ns) (drop_all i all over)
      ∙ (ap (λ is. out ++ is) (value_nil r p left) ∙ append-nil out)))

pub left_less : (b : Bool) (below after room : ℕ) → after ≡ (if b then below else suc below)
    → suc below ≤ room → after ≤ room
left_less true below after room h k = omega (arith, h, k)
left_less false below after room h k = omega (arith, h, k)
