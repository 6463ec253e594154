-- The open elements of the code, as the machine sees them.
use Rattle.std.proofs.Common.{◌≡◌, ℕ, suc, List, [], ◌∷◌, ◌++◌, length, reverse, true, false, Some, slice_get, ◌==◌, nat_lt, refl, sym, ap, ◌∙◌}
use Rattle.std.proofs.lemmas.Bool.{ne_eqb}
use Rattle.std.proofs.lemmas.List.{length-reverse}
use Rattle.xt_names.specs.declared.names.Binding.{Binding}
use Rattle.xt_tree.specs.declared.trees.Tree.{Tree}
use Rattle.doc_grammar.specs.Document.{Level, limit}
use Rattle.doc_grammar.specs.Machine.{Stack, ground, element, depth, may_open, scope_of, with_declared, with_text, stop_before_name, deep}
use Rattle.doc_reader.specs.declared.readers.Frame as code
use Rattle.doc_reader.specs.Frames.{with_frame, outside, stack_in, stack_of, stop_before}
use Rattle.doc_reader.proofs.ContentLemmas.{stack_of-push}
use Rattle.xt_names.specs.Characters.{starts_name}

-- the innermost element, and those around it
pub popped : (old front : List code.Frame) (f : code.Frame) (scope : List Binding) (base : Stack) → old ≡ front ++ f ∷ [] → stack_of old scope base ≡ with_frame f scope (stack_of front (outside f scope) base)
popped old front f scope base e = ap (λ (x : List code.Frame). stack_of x scope base) e ∙ stack_of-push front f scope base

pub no_frames : (fs : List code.Frame) → true ≡ (length fs == 0) → fs ≡ []
no_frames [] e = refl
no_frames (f ∷ fs) e = absurd (let no : (suc (length fs) == 0) ≡ false = ne_eqb (suc (length fs)) 0 (λ x. cc) in cc)

pub no_items : (fs : List code.Frame) → length fs ≡ 0 → fs ≡ []
no_items [] e = refl
no_items (f ∷ fs) e = absurd (cc)

-- some element is open
pub some_frame : (fs : List code.Frame) → false ≡ (length fs == 0) → (f : code.Frame) × (gs : List code.Frame) × (reverse fs ≡ f ∷ gs)
some_frame fs e = go (reverse fs) refl where
  go : (gs : List code.Frame) → reverse fs ≡ gs → (f : code.Frame) × (hs : List code.Frame) × (reverse fs ≡ f ∷ hs)
  go [] d = absurd (let none : length fs ≡ 0 = sym (length-reverse fs) ∙ ap length d in let same : (length fs == 0) ≡ true = rw none refl in cc)
  go (g ∷ gs) d = (g, gs, d)

pub inner_scope : (fs : List code.Frame) (scope : List Binding) (base : Stack) → false ≡ (length fs == 0) → scope ≡ scope_of (stack_of fs scope base)
inner_scope fs scope base e = let some = some_frame fs e in sym (ap (λ (x : List code.Frame). scope_of (stack_in x scope base)) some.2)

depth_in : (fs : List code.Frame) (scope : List Binding) (l : Level) (kids : List Tree) (ds : List (List Binding)) → depth (stack_in fs scope (ground l kids ds)) ≡ length fs
depth_in [] scope l kids ds = refl
depth_in (f ∷ fs) scope l kids ds = ap suc (depth_in fs (outside f scope) l kids ds)

pub depth_of : (fs : List code.Frame) (scope : List Binding) (l : Level) (kids : List Tree) (ds : List (List Binding)) → depth (stack_of fs scope (ground l kids ds)) ≡ length fs
depth_of fs scope l kids ds = depth_in (reverse fs) scope l kids ds ∙ length-reverse fs

declared_in : (fs : List code.Frame) (scope d : List Binding) (l : Level) (kids : List Tree) (ds : List (List Binding))
    → stack_in fs scope (ground l kids (ds ++ d ∷ [])) ≡ with_declared d (stack_in fs scope (ground l kids ds))
declared_in [] scope d l kids ds = refl
declared_in (f ∷ fs) scope d l kids ds = ap (λ (st : Stack). with_frame f scope st) (declared_in fs (outside f scope) d l kids ds)

-- the declarations of an element more
pub declared_of : (fs : List code.Frame) (scope d : List Binding) (l : Level) (kids : List Tree) (ds : List (List Binding))
    → stack_of fs scope (ground l kids (ds ++ d ∷ [])) ≡ with_declared d (stack_of fs scope (ground l kids ds))
declared_of fs scope d l kids ds = declared_in (reverse fs) scope d l kids ds

-- whether an element may begin

few_by_depth : (f : code.Frame) (fs : List code.Frame) (scope : List Binding) (base : Stack) → may_open (stack_in (f ∷ fs) scope base) ≡ nat_lt (depth (stack_in (f ∷ fs) scope base)) limit
few_by_depth f fs scope base = refl

pub inner_may_open : (fs : List code.Frame) (scope : List Binding) (l : Level) (kids : List Tree) (ds : List (List Binding)) → false ≡ (length fs == 0)
    → may_open (stack_of fs scope (ground l kids ds)) ≡ nat_lt (length fs) limit
inner_may_open fs scope l kids ds e =
    let some = some_frame fs e in
    let base = ground l kids ds in
    ap (λ (x : List code.Frame). may_open (stack_in x scope base)) some.2 ∙ few_by_depth some.0 some.1 scope base
    ∙ ap (λ (x : List code.Frame). nat_lt (depth (stack_in x scope base)) limit) (sym some.2) ∙ ap (λ (n : ℕ). nat_lt n limit) (depth_of fs scope l kids ds)

-- a text before it changes nothing

pub text_may_open : (text : List ℕ) (st : Stack) → may_open (with_text text st) ≡ may_open st
text_may_open text (ground l kids ds) = refl
text_may_open text (element name o kids st) = refl

pub text_stop : (text : List ℕ) (st : Stack) → stop_before_name (with_text text st) ≡ stop_before_name st
text_stop text (ground l kids ds) = refl
text_stop text (element name o kids st) = refl

-- elements are open, and a name begins
pub deep_stop : (source : List ℕ) (c : ℕ) (fs : List code.Frame) (scope : List Binding) (base : Stack) → Some c ≡ slice_get source 0 → starts_name c ≡ true → false ≡ (length fs == 0) → deep ≡ stop_before source (stack_of fs scope base)
deep_stop [] c fs scope base e s f = absurd (cc)
deep_stop (d ∷ ds) c fs scope base e s f =
    let same : c ≡ d = cc in
    let some = some_frame fs f in
    let starts : starts_name d ≡ true = rw same at s in
    sym (rw starts (ap (λ (x : List code.Frame). stop_before_name (stack_in x scope base)) some.2))
