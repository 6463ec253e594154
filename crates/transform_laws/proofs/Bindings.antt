-- Bindings, sequence constructors and templates are carried where their parts are.
use Rattle.std.proofs.Common.{◌≡◌, List, [], ◌∷◌, subst}
use Rattle.std.specs.Prelude.{Bool, true, false, if◌then◌else◌, Option, Some, None}
use Rattle.xt_names.specs.declared.codes.Code.{Code}
use Rattle.xt_names.specs.declared.codes.Code.TheVariants.{SheetDynamic}
use Rattle.xt_names.specs.declared.codes.SheetDynamicCode.TheVariants.{XTDE0700}
use Rattle.xt_names.specs.declared.names.ExprName.{ExprName}
use Rattle.xt_types.specs.declared.types.SeqType.{SeqType}
use Rattle.xdm_items.specs.declared.items.Item.{Item}
use Rattle.expr_meaning.specs.Outcomes.Outcome.{Every}
use Rattle.expr_meaning.proofs.OutcomesLemmas.Relations.{every_append}
use Rattle.expr_meaning.specs.Env.{Binding, Env, Meaning, bind, look_up}
use Rattle.expr_meaning.specs.Queries.{converted_to}
use Rattle.expr_laws.specs.Carrier.{AreAlike, AreGood, Carrier, IsMade}
use Rattle.expr_laws.proofs.Steps.{same_step}
use Rattle.expr_laws.proofs.Values.{just_meets}
use Rattle.transform_meaning.specs.Bindings.{BoundMeaning, Doing, Binds, Makes, TemplateMeaning}
use Rattle.transform_meaning.specs.Bindings.{body_of, bound_then, content_value, converted_value}
use Rattle.transform_meaning.specs.Bindings.{default_value, empty_text, given_or_default, one_then}
use Rattle.transform_meaning.specs.Bindings.{nothing, own_value, param_value, params_then}
use Rattle.transform_meaning.specs.Bindings.{passed_value, template_of, then_rest}
use Rattle.transform_laws.specs.Meets.{AreSheetPlaces, AtPlaces, IfGood, MeaningsMeet, SheetsMake}
use Rattle.transform_laws.proofs.Lists.{IfBoth, Pairs}
use Rattle.transform_laws.proofs.Making.{document_meets}
use Rattle.transform_laws.proofs.Texts.{no_text}
use Rattle.xt_names.specs.ExprNames.{same_name}

-- variables and parameters with the same name and type, whose values are related
pub record BoundMeets (c : Carrier) (a b : BoundMeaning) : Type 0 where
  pub name : a.name ≡ b.name
  pub kind : a.kind ≡ b.kind
  pub value : IfBoth (MeaningsMeet c) a.value b.value
  pub tunnel : a.tunnel ≡ b.tunnel

abbrev pub DoingMeets : Carrier → Doing → Doing → Type 0
DoingMeets c (Binds x m) (Binds y n) = (x ≡ y) × MeaningsMeet c m n
DoingMeets c (Binds x m) (Makes n) = ⊥
DoingMeets c (Makes m) (Binds y n) = ⊥
DoingMeets c (Makes m) (Makes n) = MeaningsMeet c m n

pub record TemplateMeets (c : Carrier) (a b : TemplateMeaning) : Type 0 where
  pub params : Pairs (BoundMeets c) a.params b.params
  pub kind : a.kind ≡ b.kind
  pub body : MeaningsMeet c a.body b.body

pub found_known : (good : Item → Type 0) (bs : List Binding) (name : ExprName) → AreGood good bs →
    IfGood good (look_up bs name)
unfolding look_up
found_known good [] name h = tt
found_known good (b ∷ bs) name h = by (same_name b.0 name) (found_known good bs name h.1)
  where
    by : (d : Bool) → IfGood good (look_up bs name) →
        IfGood good (if d then Some b.1 else look_up bs name)
    by true g = h.0
    by false g = g

module _ (c : Carrier) where
  pub nothing_meets : MeaningsMeet c nothing nothing
  nothing_meets = just_meets c c.inner [] tt

  rest_meets : (m n : Meaning) → MeaningsMeet c m n → (r q : Meaning) → MeaningsMeet c r q →
      MeaningsMeet c (then_rest m r) (then_rest n q)
  rest_meets m n h r q g e f s k =
      c.carries.next _ _ (Every c.good) (Every c.good) (m e k) (n f k) _ _ (h e f s k) (λ xs j d.
      c.carries.next _ _ (Every c.good) (Every c.good) (r e j) (q f j) _ _ (g e f s j)
      (λ ys i z. c.carries.ends _ _ _ _ (every_append c.good xs ys d z)))

  pub own_meets : (a b : Option Meaning) → IfBoth (MeaningsMeet c) a b →
      MeaningsMeet c (own_value a) (own_value b)
  own_meets None None h = nothing_meets
  own_meets None (Some n) h = absurd h
  own_meets (Some m) None h = absurd h
  own_meets (Some m) (Some n) h = h

  pub default_meets : (missing : Code) (a b : Option Meaning) → IfBoth (MeaningsMeet c) a b →
      MeaningsMeet c (default_value missing a) (default_value missing b)
  default_meets missing None None h e f s k = c.carries.fails _ _ missing
  default_meets missing None (Some n) h e f s k = absurd h
  default_meets missing (Some m) None h e f s k = absurd h
  default_meets missing (Some m) (Some n) h e f s k = h e f s k

module _ (c : Carrier) (alike : AreAlike c) where
  pub bound_then_meets : (x y : ExprName) → x ≡ y → (m n : Meaning) → MeaningsMeet c m n →
      (r q : Meaning) → MeaningsMeet c r q → MeaningsMeet c (bound_then x m r) (bound_then y n q)
  bound_then_meets x y w m n h r q g e f s k =
      rw (← w)
      (c.carries.next _ _ (Every c.good) (Every c.good) (m e k) (n f k) _ _ (h e f s k) (λ xs j d.
      g (bind x xs e) (bind x xs f)
      (c.bound c.inner e f s ((x, xs) ∷ []) ((alike.variables x, d), tt)) j))

  one_meets : (a b : Doing) → DoingMeets c a b → (r q : Meaning) → MeaningsMeet c r q →
      MeaningsMeet c (one_then a r) (one_then b q)
  one_meets (Binds x m) (Binds y n) h r q g = bound_then_meets x y h.0 m n h.1 r q g
  one_meets (Binds x m) (Makes n) h r q g = absurd h
  one_meets (Makes m) (Binds y n) h r q g = absurd h
  one_meets (Makes m) (Makes n) h r q g = rest_meets c m n h r q g

  pub body_meets : (xs ys : List Doing) → Pairs (DoingMeets c) xs ys →
      MeaningsMeet c (body_of xs) (body_of ys)
  body_meets [] [] h = nothing_meets c
  body_meets [] (y ∷ ys) h = absurd h
  body_meets (x ∷ xs) [] h = absurd h
  body_meets (x ∷ xs) (y ∷ ys) h =
      one_meets x y h.0 (body_of xs) (body_of ys) (body_meets xs ys h.1)

module _ (c : Carrier) (makes : IsMade c) (sheets : SheetsMake c) where
  pub empty_text_meets : MeaningsMeet c empty_text empty_text
  empty_text_meets = just_meets c c.inner _ (makes.string [] (no_text c), tt)

  pub converted_meets : (kind : Option SeqType) (m n : Meaning) → MeaningsMeet c m n →
      MeaningsMeet c (converted_value kind m) (converted_value kind n)
  converted_meets kind m n h e f s k =
      c.carries.next _ _ (Every c.good) (Every c.good) (m e k) (n f k) _ _ (h e f s k)
      (λ xs j g. same_step c (Every c.good) (converted_to kind xs) (sheets.converted kind xs g) j)

  pub content_meets : (kind : Option SeqType) (m n : Meaning) → MeaningsMeet c m n →
      MeaningsMeet c (content_value kind m) (content_value kind n)
  content_meets None m n h = document_meets c makes sheets m n h
  content_meets (Some type) m n h = converted_meets (Some type) m n h

  pub given_meets : (missing : Code) (a b : BoundMeaning) → BoundMeets c a b →
      (o : Option (List Item)) → IfGood c.good o →
      MeaningsMeet c (given_or_default missing a o) (given_or_default missing b o)
  given_meets missing a b h None g = default_meets c missing a.value b.value h.value
  given_meets missing a b h (Some xs) g = λ e f s k.
      rw (← h.kind)
      (same_step c (Every c.good) (converted_to a.kind xs) (sheets.converted a.kind xs g) k)

  module _ (places : AreSheetPlaces c) where
    passed_known : (passed : List Binding) → AreGood c.good passed → (p : BoundMeaning)
        (e f : Env) → AtPlaces c e f → IfGood c.good (passed_value passed p e)
    passed_known passed g p e f s = by p.tunnel
      where
        by : (t : Bool) → IfGood c.good (look_up (if t then e.state.tunnel else passed) p.name)
        by true = found_known c.good e.state.tunnel p.name (places.tunnel e f s)
        by false = found_known c.good passed p.name g

    passed_same : (passed : List Binding) (a b : BoundMeaning) → BoundMeets c a b → (e f : Env) →
        AtPlaces c e f → passed_value passed a e ≡ passed_value passed b f
    passed_same passed a b h e f s = λ i.
        look_up (if h.tunnel i then (places.alike.state c.inner e f s i).tunnel else passed)
        (h.name i)

    pub param_meets : (passed : List Binding) → AreGood c.good passed → (a b : BoundMeaning) →
        BoundMeets c a b → MeaningsMeet c (param_value passed a) (param_value passed b)
    param_meets passed g a b h e f s k =
        subst (λ o. c.rel (List Item) (Every c.good) (param_value passed a e k)
        (given_or_default (SheetDynamic XTDE0700) b o f k)) (passed_same passed a b h e f s)
        (given_meets (SheetDynamic XTDE0700) a b h (passed_value passed a e)
        (passed_known passed g a e f s) e f s k)

    params_meet : (passed : List Binding) → AreGood c.good passed → (ps qs : List BoundMeaning) →
        Pairs (BoundMeets c) ps qs → (m n : Meaning) → MeaningsMeet c m n →
        MeaningsMeet c (params_then passed ps m) (params_then passed qs n)
    params_meet passed g [] [] h m n i = i
    params_meet passed g [] (q ∷ qs) h m n i = absurd h
    params_meet passed g (p ∷ ps) [] h m n i = absurd h
    params_meet passed g (p ∷ ps) (q ∷ qs) h m n i =
        bound_then_meets c places.alike p.name q.name h.0.name (param_value passed p)
        (param_value passed q)
        (param_meets passed g p q h.0) (params_then passed ps m) (params_then passed qs n)
        (params_meet passed g ps qs h.1 m n i)

    pub template_meets : (a b : TemplateMeaning) → TemplateMeets c a b → (passed : List Binding) →
        AreGood c.good passed → MeaningsMeet c (template_of a passed) (template_of b passed)
    template_meets a b h passed g e f s k =
        rw (← h.kind)
        (converted_meets a.kind (params_then passed a.params a.body)
        (params_then passed b.params b.body)
        (params_meet passed g a.params b.params h.params a.body b.body h.body) e f s k)
