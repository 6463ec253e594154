-- The functions that quiet predicates call are in the library.
use Rattle.std.proofs.Common.{◌≡◌, ℕ, List, [], ◌∷◌, refl, Bool, true, false}
use Rattle.std.proofs.Common.{◌⊎◌, inl, inr, codes}
use Rattle.std.proofs.lemmas.Slice.Eq.{bytes_eq-Decides}
use Rattle.std.specs.Prelude.{◌||◌, if◌then◌else◌}
use Rattle.std.specs.Str.{bytes_eq}
use Rattle.xt_names.specs.declared.names.ExprName.{ExprName}
use Rattle.function_table.specs.Find.{found, found_in, is_in_fn, is_known}
use Rattle.function_table.specs.Table.{joined}
use Rattle.xt_forms.specs.NamedTexts.{is_one_of}
use Rattle.xt_forms.specs.Quiet.{local_call, quiet_call}
use Rattle.xt_forms.specs.declared.quiet_calls.QuietCall.{QuietCall}
use Rattle.xt_forms.specs.declared.quiet_calls.QuietCall.TheVariants as call
use Rattle.walk_laws.proofs.QuietValues.Calls.{Named}

-- the names of functions

same : (a b : List ℕ) → bytes_eq a b ≡ true → a ≡ b
same a b h = (bytes_eq-Decides a b).0 h

one_of : (a b c : List ℕ) → is_one_of a (b ∷ c ∷ []) ≡ true → (a ≡ b) ⊎ (a ≡ c)
one_of a b c h = by (bytes_eq a b) refl (bytes_eq a c) refl h
  where
    by : (s : Bool) → bytes_eq a b ≡ s → (t : Bool) → bytes_eq a c ≡ t → (s || (t || false))
        ≡ true →
        (a ≡ b) ⊎ (a ≡ c)
    by true e t f h = inl (same a b e)
    by false e true f h = inr (same a c f)
    by false e false f h = absurd cc

local_named : (local : List ℕ) → Named (local_call local) local
unfolding local_call
local_named local =
    by (is_one_of local (codes "true" ∷ codes "false" ∷ [])) refl
    (bytes_eq local (codes "not")) refl (bytes_eq local (codes "position")) refl
    (bytes_eq local (codes "last")) refl (is_one_of local (codes "exists" ∷ codes "empty" ∷ []))
    refl
    (bytes_eq local (codes "count")) refl
    (is_one_of local (codes "name" ∷ codes "local-name" ∷ [])) refl
  where
    by : (a : Bool) → is_one_of local (codes "true" ∷ codes "false" ∷ []) ≡ a →
        (b : Bool) → bytes_eq local (codes "not") ≡ b →
        (c : Bool) → bytes_eq local (codes "position") ≡ c →
        (d : Bool) → bytes_eq local (codes "last") ≡ d →
        (e : Bool) → is_one_of local (codes "exists" ∷ codes "empty" ∷ []) ≡ e →
        (f : Bool) → bytes_eq local (codes "count") ≡ f →
        (g : Bool) → is_one_of local (codes "name" ∷ codes "local-name" ∷ []) ≡ g →
        Named (if a then call.Constant else if b then call.Not else if c then call.Position
        else if d then call.Last else if e then call.Exists else if f then call.Count
        else if g then call.NameOf else call.Other) local
    by true h b i c j d l e m f n g o = one_of local _ _ h
    by false h true i c j d l e m f n g o = same local _ i
    by false h false i true j d l e m f n g o = same local _ j
    by false h false i false j true l e m f n g o = same local _ l
    by false h false i false j false l true m f n g o = one_of local _ _ m
    by false h false i false j false l false m true n g o = same local _ n
    by false h false i false j false l false m false n true o = one_of local _ _ o
    by false h false i false j false l false m false n false o = tt

abbrev pub IsCall : QuietCall → ExprName → Type 0
IsCall call.Other name = Unit {0}
IsCall c name = (is_in_fn name ≡ true) × Named c name.local

with_namespace : (c : QuietCall) (name : ExprName) → is_in_fn name ≡ true → Named c name.local →
    IsCall c name
with_namespace call.Constant name h n = (h, n)
with_namespace call.Not name h n = (h, n)
with_namespace call.Position name h n = (h, n)
with_namespace call.Last name h n = (h, n)
with_namespace call.Exists name h n = (h, n)
with_namespace call.Count name h n = (h, n)
with_namespace call.NameOf name h n = (h, n)
with_namespace call.Other name h n = tt

pub is_call : (name : ExprName) → IsCall (quiet_call name) name
unfolding quiet_call
is_call name = by (is_in_fn name) refl
  where
    by : (b : Bool) → is_in_fn name ≡ b →
        IsCall (if b then local_call name.local else call.Other) name
    by true h = with_namespace (local_call name.local) name h (local_named name.local)
    by false h = tt

pub true_known : (name : ExprName) → is_in_fn name ≡ true → name.local ≡ codes "true" →
    is_known name 0 ≡ true
unfolding is_known found found_in joined
true_known name h e = rw (h, e) refl

pub false_known : (name : ExprName) → is_in_fn name ≡ true → name.local ≡ codes "false" →
    is_known name 0 ≡ true
unfolding is_known found found_in joined
false_known name h e = rw (h, e) refl

pub position_known : (name : ExprName) → is_in_fn name ≡ true → name.local ≡ codes "position" →
    is_known name 0 ≡ true
unfolding is_known found found_in joined
position_known name h e = rw (h, e) refl

pub last_known : (name : ExprName) → is_in_fn name ≡ true → name.local ≡ codes "last" →
    is_known name 0 ≡ true
unfolding is_known found found_in joined
last_known name h e = rw (h, e) refl

pub name_known : (name : ExprName) → is_in_fn name ≡ true → name.local ≡ codes "name" →
    is_known name 0 ≡ true
unfolding is_known found found_in joined
name_known name h e = rw (h, e) refl

pub local_name_known : (name : ExprName) → is_in_fn name ≡ true → name.local ≡ codes "local-name" →
    is_known name 0 ≡ true
unfolding is_known found found_in joined
local_name_known name h e = rw (h, e) refl

pub not_known : (name : ExprName) → is_in_fn name ≡ true → name.local ≡ codes "not" →
    is_known name 1 ≡ true
unfolding is_known found found_in joined
not_known name h e = rw (h, e) refl

pub exists_known : (name : ExprName) → is_in_fn name ≡ true → name.local ≡ codes "exists" →
    is_known name 1 ≡ true
unfolding is_known found found_in joined
exists_known name h e = rw (h, e) refl

pub empty_known : (name : ExprName) → is_in_fn name ≡ true → name.local ≡ codes "empty" →
    is_known name 1 ≡ true
unfolding is_known found found_in joined
empty_known name h e = rw (h, e) refl

pub count_known : (name : ExprName) → is_in_fn name ≡ true → name.local ≡ codes "count" →
    is_known name 1 ≡ true
unfolding is_known found found_in joined
count_known name h e = rw (h, e) refl
