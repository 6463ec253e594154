-- What has been made of the parts so far.
use Rattle.std.proofs.Common.{◌≡◌, ℕ, ◌+◌, ◌<◌, ◌≤◌, Bool, false, ◌||◌, List, [], ◌∷◌, ◌++◌}
use Rattle.std.proofs.Common.{length, drop, get_or, append_assoc, refl, sym}
use Rattle.std.proofs.Common.{subst, ap, ◌∙◌}
use Rattle.std.proofs.lemmas.List.{drop_all, append-nil}
use Rattle.xt_names.specs.declared.codes.Code.{Code}
use Rattle.xt_syntax.specs.declared.patterns.Pattern.{Pattern}
use Rattle.xt_syntax.specs.declared.patterns.PatternStep.{PatternStep}
use Rattle.expr_terms.specs.declared.raws.Raw.{Raw}
use Rattle.expr_names.specs.declared.fault.ResolveFault.{ResolveFault}
use Rattle.expr_names.specs.Answers.{IsFaultOf}
use Rattle.expr_resolve.specs.declared.setting.Setting.{Setting}
use Rattle.expr_resolve.specs.Folds.{broken_of}
use Rattle.expr_resolve.proofs.Follow.{fault_first}
use Rattle.pattern_forms.specs.PatternShapes.Shapes.{is_behind_slashes, inner_step}
use Rattle.pattern_syntax.specs.Parts.{barless}
use Rattle.pattern_syntax.specs.Meant.{step_of, steps_from, alternative_of, alternatives_from}
use Rattle.pattern_syntax.specs.Meant.{steps_broken, alternative_broken, alternatives_broken}
use Rattle.xt_names.proofs.ListLemmas.{drop_at}

-- none of the parts so far breaks a rule, and `made` is what they mean
pub record Made {A : Type 0} (left all : List Code) (made rest whole : List A) : Type 0 where
  pub unbroken : left ≡ all
  pub meant : made ++ rest ≡ whole

made_next : {A : Type 0} (codes left next all : List Code) (made more rest after whole : List A)
    (a : A) → Made left all made rest whole → left ≡ codes ++ next → rest ≡ a ∷ after
    → codes ≡ [] → more ≡ made ++ a ∷ [] → Made next all more after whole
made_next codes left next all made more rest after whole a m l r none e =
    record {
      unbroken = ap (λ xs. xs ++ next) (sym none) ∙ sym l ∙ m.unbroken;
      meant = ap (λ xs. xs ++ after) e ∙ append_assoc made (a ∷ []) after
          ∙ ap (λ xs. made ++ xs) (sym r) ∙ m.meant;
    }

made_fault : {A : Type 0} (codes left next all : List Code) (made rest whole : List A) (f :
    ResolveFault) → Made left all made rest whole → left ≡ codes ++ next → IsFaultOf f codes
    → IsFaultOf f all
made_fault codes left next all made rest whole f m l h = subst (λ xs. IsFaultOf f xs) (sym l
    ∙ m.unbroken) (fault_first f codes next h)

-- the steps
abbrev pub Stepped : Setting → Bool → Bool → List Raw → List PatternStep → ℕ → Type 0
Stepped s first deep xs made i = Made (steps_broken s (drop i xs)) (steps_broken s xs) made
    (steps_from s deep (drop i xs)) (steps_from s first xs)

pub stepped_first : (s : Setting) (deep : Bool) (xs : List Raw) (made : List PatternStep)
    → made ≡ [] → Stepped s deep deep xs made 0
stepped_first s deep xs made e = record {
  unbroken = refl;
  meant = ap (λ ys. ys ++ steps_from s
      deep xs) e;
}

pub stepped_next : (s : Setting) (first deep : Bool) (xs : List Raw) (made more : List
    PatternStep) (i : ℕ) (x : Raw) → Stepped s first deep xs made i → i < length xs
    → x ≡ get_or xs i x → broken_of s (inner_step x) ≡ []
    → more ≡ made ++ step_of s (deep || is_behind_slashes x) (inner_step x) ∷ []
    → Stepped s first false xs more (i + 1)
stepped_next s first deep xs made more i x m lt is none e =
    let p = drop_at xs i x lt is in
    made_next (broken_of s (inner_step x)) _ _ _ made more _ (steps_from s false (drop (i + 1)
    xs)) _ _ m (ap (steps_broken s) p) (ap (steps_from s deep) p) none e

pub stepped_fault : (s : Setting) (first deep : Bool) (xs : List Raw) (made : List PatternStep) (i
    : ℕ) (x : Raw) (f : ResolveFault) → Stepped s first deep xs made i → i < length xs
    → x ≡ get_or xs i x → IsFaultOf f (broken_of s (inner_step x))
    → IsFaultOf f (steps_broken s xs)
stepped_fault s first deep xs made i x f m lt is h = made_fault (broken_of s (inner_step x)) _
    (steps_broken s (drop (i + 1) xs)) _ made _ _ f m (ap (steps_broken s) (drop_at xs i x lt is))
    h

pub stepped_none : (s : Setting) (first deep : Bool) (xs : List Raw) (made : List PatternStep) (i
    : ℕ) → Stepped s first deep xs made i → length xs ≤ i → steps_broken s xs ≡ []
stepped_none s first deep xs made i m le = sym m.unbroken ∙ ap (steps_broken s) (drop_all i xs le)

pub stepped_all : (s : Setting) (first deep : Bool) (xs : List Raw) (made : List PatternStep) (i :
    ℕ) → Stepped s first deep xs made i → length xs ≤ i → made ≡ steps_from s first xs
stepped_all s first deep xs made i m le = sym (append-nil made)
    ∙ ap (λ ys. made ++ steps_from s deep ys) (sym (drop_all i xs le)) ∙ m.meant

-- the alternatives
abbrev pub Joined : Setting → List Raw → List Pattern → ℕ → Type 0
Joined s xs made i = Made (alternatives_broken s (drop i xs)) (alternatives_broken s xs) made
    (alternatives_from s (drop i xs)) (alternatives_from s xs)

pub joined_first : (s : Setting) (xs : List Raw) (made : List Pattern) → made ≡ []
    → Joined s xs made 0
joined_first s xs made e = record {
  unbroken = refl;
  meant = ap (λ ys. ys ++ alternatives_from s
      xs) e;
}

pub joined_next : (s : Setting) (xs : List Raw) (made more : List Pattern) (i : ℕ) (x : Raw)
    → Joined s xs made i → i < length xs → x ≡ get_or xs i x
    → alternative_broken s (barless x) ≡ [] → more ≡ made ++ alternative_of s (barless x) ∷ []
    → Joined s xs more (i + 1)
joined_next s xs made more i x m lt is none e =
    let p = drop_at xs i x lt is in
    made_next (alternative_broken s (barless x)) _ _ _ made more _ (alternatives_from s (drop (i +
    1) xs)) _ _ m (ap (alternatives_broken s) p) (ap (alternatives_from s) p) none e

pub joined_fault : (s : Setting) (xs : List Raw) (made : List Pattern) (i : ℕ) (x : Raw) (f :
    ResolveFault) → Joined s xs made i → i < length xs → x ≡ get_or xs i x
    → IsFaultOf f (alternative_broken s (barless x)) → IsFaultOf f (alternatives_broken s xs)
joined_fault s xs made i x f m lt is h = made_fault (alternative_broken s (barless x)) _
    (alternatives_broken s (drop (i + 1) xs)) _ made _ _ f m (ap (alternatives_broken s) (drop_at
    xs i x lt is)) h

pub joined_none : (s : Setting) (xs : List Raw) (made : List Pattern) (i : ℕ)
    → Joined s xs made i → length xs ≤ i → alternatives_broken s xs ≡ []
joined_none s xs made i m le = sym m.unbroken ∙ ap (alternatives_broken s) (drop_all i xs le)

pub joined_all : (s : Setting) (xs : List Raw) (made : List Pattern) (i : ℕ)
    → Joined s xs made i → length xs ≤ i → made ≡ alternatives_from s xs
joined_all s xs made i m le = sym (append-nil made)
    ∙ ap (λ ys. made ++ alternatives_from s ys) (sym (drop_all i xs le)) ∙ m.meant

pub ruleset loops = (
  stepped_first,
  stepped_none,
  stepped_all,
  joined_first,
  joined_none,
  joined_all,
  fault_first,
)
