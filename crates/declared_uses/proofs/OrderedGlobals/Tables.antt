-- Globals with different names, in their table and in order.
use Rattle.std.proofs.Common.{◌≡◌, ◌<◌, ℕ, zero, suc, ◌+◌, List, [], ◌∷◌, ◌++◌, map, length}
use Rattle.std.proofs.Common.{Bool, true, false, not, ◌&&◌, ◌||◌, cond, Option, Some, None}
use Rattle.std.proofs.Common.{slice_get, nat_lt, refl, sym, ap, subst, ◌∙◌, arith}
use Rattle.std.proofs.lemmas.Bool.{and_parts, or_parts, not-true, lt-ltb, ltb-true}
use Rattle.std.proofs.lemmas.Option.{same_Some, none-some}
use Rattle.std.specs.List.{position, position_or_len}
use Rattle.xt_names.specs.declared.names.ExprName.{ExprName}
use Rattle.xt_sheets.specs.declared.sheets.Global.{Global}
use Rattle.name_rules.specs.declared.functions.Signature.{Signature}
use Rattle.name_rules.specs.Scopes.{has_name, with_name, are_new, names_differ}
use Rattle.name_rules.specs.Scopes.{same_signature, signature, has_function, with_function}
use Rattle.global_needs.specs.Shapes.{with_all, variable_signature, variables_of}
use Rattle.sheet_assembly.specs.Named.{at, ordered}
use Rattle.assembly_laws.specs.SheetClosure.Declared.{global_name}
use Rattle.declared_uses.proofs.Names.{name_more}
use Rattle.declared_uses.proofs.OrderedGlobals.Places.{at_place}
use Rattle.std.proofs.Math.Bool.{and-true}
use Rattle.xt_names.specs.ExprNames.{same_name}
use Rattle.xt_names.proofs.NameLemmas.{same_names}

-- names as signatures of no parameters
abbrev signatures : List ExprName → List Signature
signatures names = map (λ n. signature n 0) names

known_same : (known : List ExprName) (n : ExprName)
    → has_function (signatures known) n 0 ≡ has_name known n
known_same [] n = refl
known_same (m ∷ known) n =
    ap (λ (b : Bool). b || has_function (signatures known) n 0) (and-true (same_name n m))
    ∙ ap (λ (b : Bool). same_name n m || b) (known_same known n)

one_more : (known : List ExprName) (n : ExprName)
    → signatures known ++ signature n 0 ∷ [] ≡ signatures (known ++ n ∷ [])
one_more [] n = refl
one_more (m ∷ known) n = ap (λ (l : List Signature). signature m 0 ∷ l) (one_more known n)

joined : (xs : List Signature) (y : Signature) (ys : List Signature)
    → (xs ++ y ∷ []) ++ ys ≡ xs ++ y ∷ ys
joined [] y ys = refl
joined (x ∷ xs) y ys = ap (λ (l : List Signature). x ∷ l) (joined xs y ys)

with_new : (known : List ExprName) (n : ExprName) → has_name known n ≡ false
    → with_function (signatures known) n 0 ≡ signatures (known ++ n ∷ [])
with_new known n h =
    ap (λ (b : Bool). cond b (signatures known) (signatures known ++ signature n 0 ∷ []))
    (known_same known n ∙ h)
    ∙ one_more known n

name_new : (known : List ExprName) (n : ExprName) → has_name known n ≡ false
    → with_name known n ≡ known ++ n ∷ []
name_new known n h = ap (λ (b : Bool). cond b known (known ++ n ∷ [])) h

table_from : (known : List ExprName) (gs : List Global) → are_new known (map global_name gs) ≡ true
    → with_all (signatures known) (map variable_signature gs)
    ≡ signatures known ++ map variable_signature gs
table_from known [] h = ends (signatures known)
  where
    ends : (xs : List Signature) → xs ≡ xs ++ []
    ends [] = refl
    ends (x ∷ xs) = ap (λ (l : List Signature). x ∷ l) (ends xs)
table_from known (g ∷ gs) h =
    let n = global_name g in
    let k = and_parts (not (has_name known n)) _ h in
    let new = not-true (has_name known n) k.0 in
    let more : are_new (known ++ n ∷ []) (map global_name gs) ≡ true =
    subst (λ (l : List ExprName). are_new l (map global_name gs) ≡ true) (name_new known n new) k.1 in
    ap (λ (t : List Signature). with_all t (map variable_signature gs)) (with_new known n new)
    ∙ table_from (known ++ n ∷ []) gs more
    ∙ ap (λ (l : List Signature). l ++ map variable_signature gs) (sym (one_more known n))
    ∙ joined (signatures known) (signature n 0) (map variable_signature gs)

-- where names differ, the table has each global once
pub table_whole : (gs : List Global) → names_differ (map global_name gs) ≡ true
    → variables_of gs ≡ map variable_signature gs
table_whole gs h = table_from [] gs h

-- a global after others has none of their names
later_new : (known : List ExprName) (gs : List Global) (i : ℕ) (g : Global)
    → are_new known (map global_name gs) ≡ true → slice_get gs i ≡ Some g
    → has_name known (global_name g) ≡ false
later_new known [] i g h e = absurd (none-some _ e)
later_new known (f ∷ gs) zero g h e =
    subst (λ (x : Global). has_name known (global_name x) ≡ false) (same_Some _ _ e)
    (not-true (has_name known (global_name f))
    (and_parts (not (has_name known (global_name f))) _ h).0)
later_new known (f ∷ gs) (suc i) g h e =
    let k = and_parts (not (has_name known (global_name f))) _ h in
    let more = later_new (with_name known (global_name f)) gs i g k.1 e in
    (or_parts (has_name known (global_name g)) (same_name (global_name g) (global_name f))
    (sym (name_more known (global_name f) (global_name g)) ∙ more)).0

abbrev wanted : ExprName → Signature → Bool
wanted n s = same_signature (signature n 0) s

place_is : (known : List ExprName) (gs : List Global) (n : ExprName) (i : ℕ) (g : Global)
    → are_new known (map global_name gs) ≡ true → slice_get gs i ≡ Some g
    → same_name n (global_name g) ≡ true
    → position_or_len (wanted n) (map variable_signature gs) ≡ i
place_is known [] n i g h e s = absurd (none-some _ e)
place_is known (f ∷ gs) n zero g h e s =
    let here : same_name n (global_name f) ≡ true =
    subst (λ (x : Global). same_name n (global_name x) ≡ true) (sym (same_Some _ _ e)) s in
    ap (λ (b : Bool). cond (not b) (1 + position_or_len (wanted n) (map variable_signature gs)) 0)
    (and-true (same_name n (global_name f)) ∙ here)
place_is known (f ∷ gs) n (suc i) g h e s =
    let k = and_parts (not (has_name known (global_name f))) _ h in
    let more = later_new (with_name known (global_name f)) gs i g k.1 e in
    let other = (or_parts (has_name known (global_name g)) (same_name (global_name g) (global_name f))
    (sym (name_more known (global_name f) (global_name g)) ∙ more)).1 in
    let not_here : same_name n (global_name f) ≡ false =
    subst (λ (x : ExprName). same_name x (global_name f) ≡ false)
    (sym (same_names n (global_name g) s)) other in
    let rest = place_is (with_name known (global_name f)) gs n i g k.1 e s in
    ap (λ (b : Bool). cond (not b) (1 + position_or_len (wanted n) (map variable_signature gs)) 0)
    (and-true (same_name n (global_name f)) ∙ not_here)
    ∙ (omega (arith, rest))

there_less : (gs : List Global) (i : ℕ) (g : Global) → slice_get gs i ≡ Some g → i < length gs
there_less [] i g e = absurd (none-some _ e)
there_less (f ∷ gs) zero g e = omega arith
there_less (f ∷ gs) (suc i) g e = let less = there_less gs i g e in omega (arith, less)

mapped_length : (gs : List Global) → length (map variable_signature gs) ≡ length gs
mapped_length [] = refl
mapped_length (g ∷ gs) = ap suc (mapped_length gs)

-- the place of a name is that of its global
pub position_of : (gs : List Global) (n : ExprName) (i : ℕ) (g : Global)
    → names_differ (map global_name gs) ≡ true → slice_get gs i ≡ Some g
    → same_name n (global_name g) ≡ true
    → position (wanted n) (map variable_signature gs) ≡ Some i
position_of gs n i g h e s =
    let at = place_is [] gs n i g h e s in
    let less = there_less gs i g e in
    let many = mapped_length gs in
    ap (λ (k : ℕ). cond (nat_lt k (length (map variable_signature gs))) (Some k) None) at
    ∙ ap (λ (b : Bool). cond b (Some i) None)
    (lt-ltb i (length (map variable_signature gs)) (omega (arith, less, many)))

-- .. and the other way round
pub record Global_at (gs : List Global) (n : ExprName) (i : ℕ) : Type 0 where
  pub global : Global
  pub there : slice_get gs i ≡ Some global
  pub named : same_name n (global_name global) ≡ true

some_at : (gs : List Global) (n : ExprName)
    → position_or_len (wanted n) (map variable_signature gs) < length gs
    → Global_at gs n (position_or_len (wanted n) (map variable_signature gs))
some_at [] n less = absurd (omega (arith, less))
some_at (g ∷ gs) n less =
    go (same_name n (global_name g)) refl less (λ l. some_at gs n l)
  where
    go : (b : Bool) → same_name n (global_name g) ≡ b
        → cond (not (b && true)) (1 + position_or_len (wanted n) (map variable_signature gs)) 0
        < suc (length gs)
        → (position_or_len (wanted n) (map variable_signature gs) < length gs
        → Global_at gs n (position_or_len (wanted n) (map variable_signature gs)))
        → Global_at (g ∷ gs) n
        (cond (not (b && true)) (1 + position_or_len (wanted n) (map variable_signature gs)) 0)
    go true e l f = record { global = g; there = refl; named = e }
    go false e l f =
        let more = f (omega (arith, l)) in
        let next : suc (position_or_len (wanted n) (map variable_signature gs))
        ≡ 1 + position_or_len (wanted n) (map variable_signature gs) = omega arith in
        record {
          global = more.global;
          there = subst (λ (k : ℕ). slice_get (g ∷ gs) k ≡ Some more.global) next more.there;
          named = more.named;
        }

pub found_at_place : (gs : List Global) (n : ExprName) (i : ℕ)
    → position (wanted n) (map variable_signature gs) ≡ Some i → Global_at gs n i
found_at_place gs n i e =
    go (position_or_len (wanted n) (map variable_signature gs)) (some_at gs n)
    (nat_lt (position_or_len (wanted n) (map variable_signature gs))
    (length (map variable_signature gs))) refl e
  where
    go : (at : ℕ) → (at < length gs → Global_at gs n at) → (b : Bool)
        → nat_lt at (length (map variable_signature gs)) ≡ b
        → cond b (Some at) None ≡ Some i → Global_at gs n i
    go at f true less e =
        let low = ltb-true at (length (map variable_signature gs)) less in
        let many = mapped_length gs in
        subst (Global_at gs n) (same_Some _ _ e) (f (omega (arith, low, many)))
    go at f false less e = absurd (none-some _ e)

-- globals in order
pub record Some_at (gs : List Global) (i : ℕ) : Type 0 where
  pub global : Global
  pub there : slice_get gs i ≡ Some global

pub some_there : (gs : List Global) (i : ℕ) → i < length gs → Some_at gs i
some_there [] i less = absurd (omega (arith, less))
some_there (g ∷ gs) zero less = record { global = g; there = refl }
some_there (g ∷ gs) (suc i) less =
    let s = some_there gs i (omega (arith, less)) in record { global = s.global; there = s.there }

abbrev AllWithin : List Global → List ℕ → Type 0
AllWithin gs js = (k : ℕ) → k < length js → at_place js k < length gs

pub ordered_length : (gs : List Global) (js : List ℕ) → AllWithin gs js
    → length (ordered gs js) ≡ length js
ordered_length gs [] w = refl
ordered_length gs (j ∷ js) w =
    let s = some_there gs j (w 0 (omega arith)) in
    let rest = ordered_length gs js (λ k less. w (suc k) (omega (arith, less))) in
    ap (λ (o : Option Global). length (at o ++ ordered gs js)) s.there ∙ ap suc rest

pub ordered_at : (gs : List Global) (js : List ℕ) → AllWithin gs js → (k : ℕ) → k < length js
    → slice_get (ordered gs js) k ≡ slice_get gs (at_place js k)
ordered_at gs [] w k less = absurd (omega (arith, less))
ordered_at gs (j ∷ js) w zero less =
    let s = some_there gs j (w 0 (omega arith)) in
    ap (λ (o : Option Global). slice_get (at o ++ ordered gs js) 0) s.there ∙ sym s.there
ordered_at gs (j ∷ js) w (suc k) less =
    let s = some_there gs j (w 0 (omega arith)) in
    ap (λ (o : Option Global). slice_get (at o ++ ordered gs js) (suc k)) s.there
    ∙ ordered_at gs js (λ i l. w (suc i) (omega (arith, l))) k (omega (arith, less))
