-- The rows of the graph of a stylesheet with its globals in order.
use Rattle.std.proofs.Common.{◌≡◌, ◌≤◌, ◌<◌, ℕ, zero, suc, ◌+◌, ◌-◌, List, [], ◌∷◌, ◌++◌, map, length}
use Rattle.std.proofs.Common.{Bool, true, false, ◌||◌, cond, Option, Some, None, get_or, set}
use Rattle.std.proofs.Common.{nat_eq, nat_lt, refl, sym, ap, subst, ◌∙◌, arith, inl, inr}
use Rattle.std.proofs.lemmas.Bool.{and_parts, or_cases, or_left, or_right, eqb-true, eq-eqb}
use Rattle.std.proofs.lemmas.Bool.{lt-ltb, ltb-true, le-ltb, cases_lt, cases_eq}
use Rattle.std.proofs.lemmas.List.{get_or_append_left, get_or-append-add, get_or-set_same}
use Rattle.std.proofs.lemmas.List.{get_or-set_other, get_or_past, length-set}
use Rattle.std.proofs.lemmas.List.Folds.{list_any-append}
use Rattle.std.specs.List.{list_all, position}
use Rattle.xt_names.specs.declared.names.ExprName.{ExprName}
use Rattle.xt_sheets.specs.declared.values.ModeUse.{ModeUse}
use Rattle.xt_sheets.specs.declared.values.ModeUse.TheVariants.{Number, Current}
use Rattle.xt_sheets.specs.declared.sheets.Rule.{Rule}
use Rattle.xt_sheets.specs.declared.sheets.Sheet.{Sheet}
use Rattle.name_rules.specs.declared.functions.Signature.{Signature}
use Rattle.name_rules.specs.Scopes.{same_signature, signature}
use Rattle.sheet_uses.specs.declared.uses.Use.{Use}
use Rattle.sheet_uses.specs.declared.uses.Use.TheVariants as use_of
use Rattle.global_order.specs.ReachedPlaces.Walks.{led_to, has}
use Rattle.global_needs.specs.Shapes.{shape_of}
use Rattle.global_needs.specs.Rows.{bounded, found_at, mode_leads, use_leads, leads, no_row, with_place}
use Rattle.global_needs.specs.Rows.{with_mode, with_modes, with_rules}
use Rattle.declared_uses.proofs.OrderedGlobals.Places.{at_place}

-- what a row has
has_front : (xs ys : List ℕ) (y : ℕ) → has xs y ≡ true → has (xs ++ ys) y ≡ true
has_front xs ys y h = list_any-append (nat_eq y) xs ys ∙ or_left (has xs y) _ h

has_back : (xs ys : List ℕ) (y : ℕ) → has ys y ≡ true → has (xs ++ ys) y ≡ true
has_back xs ys y h = list_any-append (nat_eq y) xs ys ∙ or_right (has xs y) _ h

has_one : (x : ℕ) → has (x ∷ []) x ≡ true
has_one x = or_left (nat_eq x x) false (eq-eqb x x refl)

is_one : (x y : ℕ) → has (x ∷ []) y ≡ true → y ≡ x
is_one x y h = elim (or_cases (nat_eq y x) false h) [ inl e ↦ eqb-true y x e | inr k ↦ absurd cc ]

in_bounded : (count at number y : ℕ) → has (bounded count at number) y ≡ true
    → (number < count) × (y ≡ at + number)
in_bounded count at number y h = go (nat_lt number count) refl h
  where
    go : (b : Bool) → nat_lt number count ≡ b → has (cond b ((at + number) ∷ []) []) y ≡ true
        → (number < count) × (y ≡ at + number)
    go true e h = (ltb-true number count e, is_one (at + number) y h)
    go false e h = absurd cc

bounded_has : (count at number : ℕ) → number < count
    → has (bounded count at number) (at + number) ≡ true
bounded_has count at number less =
    ap (λ (b : Bool). has (cond b ((at + number) ∷ []) []) (at + number)) (lt-ltb number count less)
    ∙ has_one (at + number)

-- Another table of variables beside those of the stylesheet, and an order of its globals that tells where
-- each of the one is in the other. The kinds of places stand one after the other.
pub record Reordered (sheet : Sheet) (variables : List Signature) (js : List ℕ) : Type 0 where
  pub first : (shape_of sheet).functions_at ≡ (shape_of sheet).globals
  pub second : (shape_of sheet).templates_at ≡ (shape_of sheet).functions_at + (shape_of sheet).functions
  pub third : (shape_of sheet).rules_at ≡ (shape_of sheet).templates_at + (shape_of sheet).templates
  pub fourth : (shape_of sheet).modes_at ≡ (shape_of sheet).rules_at + (shape_of sheet).templates
  pub fifth : (shape_of sheet).globals_at ≡ (shape_of sheet).modes_at + (shape_of sheet).modes
  pub places : (k : ℕ) → k < (shape_of sheet).globals → at_place js k < (shape_of sheet).globals
  pub same : (n : ExprName) (k : ℕ) → k < (shape_of sheet).globals
      → position (same_signature (signature n 0)) variables ≡ Some k
      → position (same_signature (signature n 0)) (shape_of sheet).variables ≡ Some (at_place js k)

module _ (sheet : Sheet) (variables : List Signature) (js : List ℕ)
    (r : Reordered sheet variables js) where
  -- where a place of the one graph is in the other
  abbrev pub moved : ℕ → ℕ
  moved x = cond (nat_lt x (shape_of sheet).globals) (at_place js x)
      (cond (nat_lt x (shape_of sheet).globals_at) x ((shape_of sheet).globals_at + at_place js (x - (shape_of sheet).globals_at)))

  pub moved_global : (x : ℕ) → x < (shape_of sheet).globals → moved x ≡ at_place js x
  moved_global x less =
      ap (λ (b : Bool). cond b (at_place js x)
      (cond (nat_lt x (shape_of sheet).globals_at) x ((shape_of sheet).globals_at + at_place js (x - (shape_of sheet).globals_at))))
      (lt-ltb x (shape_of sheet).globals less)

  pub stays : (x : ℕ) → (shape_of sheet).globals ≤ x → x < (shape_of sheet).globals_at → moved x ≡ x
  stays x from to =
      ap (λ (b : Bool). cond b (at_place js x)
      (cond (nat_lt x (shape_of sheet).globals_at) x ((shape_of sheet).globals_at + at_place js (x - (shape_of sheet).globals_at))))
      (le-ltb x (shape_of sheet).globals from)
      ∙ ap (λ (b : Bool). cond b x ((shape_of sheet).globals_at + at_place js (x - (shape_of sheet).globals_at)))
      (lt-ltb x (shape_of sheet).globals_at to)

  pub moved_named : (k : ℕ) → moved ((shape_of sheet).globals_at + k) ≡ (shape_of sheet).globals_at + at_place js k
  moved_named k =
      let a = r.first in
      let b = r.second in
      let c = r.third in
      let d = r.fourth in
      let e = r.fifth in
      let from : (shape_of sheet).globals ≤ (shape_of sheet).globals_at + k = omega (arith, a, b, c, d, e) in
      let past : (shape_of sheet).globals_at ≤ (shape_of sheet).globals_at + k = omega arith in
      let back : (shape_of sheet).globals_at + k - (shape_of sheet).globals_at ≡ k = omega arith in
      ap (λ (t : Bool). cond t (at_place js ((shape_of sheet).globals_at + k))
      (cond (nat_lt ((shape_of sheet).globals_at + k) (shape_of sheet).globals_at) ((shape_of sheet).globals_at + k)
      ((shape_of sheet).globals_at + at_place js ((shape_of sheet).globals_at + k - (shape_of sheet).globals_at))))
      (le-ltb ((shape_of sheet).globals_at + k) (shape_of sheet).globals from)
      ∙ ap (λ (t : Bool). cond t ((shape_of sheet).globals_at + k)
      ((shape_of sheet).globals_at + at_place js ((shape_of sheet).globals_at + k - (shape_of sheet).globals_at)))
      (le-ltb ((shape_of sheet).globals_at + k) (shape_of sheet).globals_at past)
      ∙ ap (λ (i : ℕ). (shape_of sheet).globals_at + at_place js i) back

  -- a row leads where another does
  abbrev pub Follows : List ℕ → List ℕ → Type 0
  Follows row other = (y : ℕ) → has row y ≡ true → has other (moved y) ≡ true

  kind_follows : (count at number : ℕ) → (shape_of sheet).globals ≤ at → at + count ≤ (shape_of sheet).globals_at
      → Follows (bounded count at number) (bounded count at number)
  kind_follows count at number from to y h =
      let k = in_bounded count at number y h in
      let less = k.0 in
      let is = k.1 in
      subst (λ (z : ℕ). has (bounded count at number) z ≡ true)
      (sym (stays y (omega (arith, is, from)) (omega (arith, is, less, to)))) h

  mode_follows : (in_rule : Bool) (mode : ModeUse)
      → Follows (mode_leads (record (shape_of sheet) { variables = variables }) in_rule mode) (mode_leads (shape_of sheet) in_rule mode)
  unfolding mode_leads
  mode_follows in_rule (Number mode) =
      let a = r.first in
      let b = r.second in
      let c = r.third in
      let d = r.fourth in
      let e = r.fifth in
      kind_follows (shape_of sheet).modes (shape_of sheet).modes_at mode (omega (arith, a, b, c, d)) (omega (arith, e))
  mode_follows true Current = λ y h. absurd cc
  mode_follows false Current =
      let a = r.first in
      let b = r.second in
      let c = r.third in
      let d = r.fourth in
      let e = r.fifth in
      kind_follows (shape_of sheet).modes (shape_of sheet).modes_at 0 (omega (arith, a, b, c, d)) (omega (arith, e))

  function_follows : (o : Option ℕ)
      → Follows (found_at (shape_of sheet).functions (shape_of sheet).functions_at o)
      (found_at (shape_of sheet).functions (shape_of sheet).functions_at o)
  function_follows None = λ y h. absurd cc
  function_follows (Some i) =
      let a = r.first in
      let b = r.second in
      let c = r.third in
      let d = r.fourth in
      let e = r.fifth in
      kind_follows (shape_of sheet).functions (shape_of sheet).functions_at i (omega (arith, a)) (omega (arith, b, c, d, e))

  variable_follows : (n : ExprName) (o : Option ℕ)
      → position (same_signature (signature n 0)) variables ≡ o
      → Follows (found_at (shape_of sheet).globals (shape_of sheet).globals_at o)
      (found_at (shape_of sheet).globals (shape_of sheet).globals_at (position (same_signature (signature n 0)) (shape_of sheet).variables))
  variable_follows n None e = λ y h. absurd cc
  variable_follows n (Some i) e = λ y h.
      let k = in_bounded (shape_of sheet).globals (shape_of sheet).globals_at i y h in
      let there = r.same n i k.0 e in
      let here : moved y ≡ (shape_of sheet).globals_at + at_place js i = ap moved k.1 ∙ moved_named i in
      subst (λ (z : ℕ). has (found_at (shape_of sheet).globals (shape_of sheet).globals_at
      (position (same_signature (signature n 0)) (shape_of sheet).variables)) z ≡ true) (sym here)
      (subst (λ (o : Option ℕ). has (found_at (shape_of sheet).globals (shape_of sheet).globals_at o)
      ((shape_of sheet).globals_at + at_place js i) ≡ true) (sym there)
      (bounded_has (shape_of sheet).globals (shape_of sheet).globals_at (at_place js i) (r.places i k.0)))

  use_follows : (in_rule : Bool) (u : Use)
      → Follows (use_leads (record (shape_of sheet) { variables = variables }) in_rule u) (use_leads (shape_of sheet) in_rule u)
  unfolding use_leads
  use_follows in_rule (use_of.Variable n) =
      variable_follows n (position (same_signature (signature n 0)) variables) refl
  use_follows in_rule (use_of.Call n arity literal) =
      function_follows (position (same_signature (signature n arity)) (shape_of sheet).called)
  use_follows true (use_of.Template number passed) =
      let a = r.first in
      let b = r.second in
      let c = r.third in
      let d = r.fourth in
      let e = r.fifth in
      kind_follows (shape_of sheet).templates (shape_of sheet).rules_at number (omega (arith, a, b, c)) (omega (arith, d, e))
  use_follows false (use_of.Template number passed) =
      let a = r.first in
      let b = r.second in
      let c = r.third in
      let d = r.fourth in
      let e = r.fifth in
      kind_follows (shape_of sheet).templates (shape_of sheet).templates_at number (omega (arith, a, b)) (omega (arith, c, d, e))
  use_follows in_rule (use_of.Apply mode) = mode_follows in_rule mode

  pub leads_follow : (in_rule : Bool) (us : List Use)
      → Follows (leads (record (shape_of sheet) { variables = variables }) in_rule us) (leads (shape_of sheet) in_rule us)
  leads_follow in_rule [] y h = absurd cc
  leads_follow in_rule (u ∷ us) y h =
      elim (or_cases (has (use_leads (record (shape_of sheet) { variables = variables }) in_rule u) y) _
      (sym (list_any-append (nat_eq y) (use_leads (record (shape_of sheet) { variables = variables }) in_rule u) _) ∙ h)) [
        | inl e ↦ has_front (use_leads (shape_of sheet) in_rule u) (leads (shape_of sheet) in_rule us) (moved y)
            (use_follows in_rule u y e)
        | inr k ↦ has_back (use_leads (shape_of sheet) in_rule u) (leads (shape_of sheet) in_rule us) (moved y)
            (leads_follow in_rule us y k)
      ]

  -- each row leads where the one of the place where it is in the other graph does
  abbrev pub AllFollow : List (List ℕ) → List (List ℕ) → Type 0
  AllFollow rows others = (x : ℕ) → Follows (led_to rows x) (led_to others (moved x))

  -- rows after others
  grown : (rows more : List (List ℕ)) (x y : ℕ) → has (led_to rows x) y ≡ true
      → has (led_to (rows ++ more) x) y ≡ true
  grown rows more x y h = elim (cases_lt x (length rows)) [
    | inl less ↦ ap (λ (row : List ℕ). has row y) (get_or_append_left rows more [] x less) ∙ h
    | inr past ↦ absurd (let no : has [] y ≡ true =
        sym (ap (λ (row : List ℕ). has row y) (get_or_past rows x [] past)) ∙ h in cc)
  ]

  pub more_follow : (rows others more also : List (List ℕ)) (size : ℕ) → length rows ≡ size
      → AllFollow rows others
      → ((k : ℕ) → Follows (led_to more k) (led_to (others ++ also) (moved (size + k))))
      → AllFollow (rows ++ more) (others ++ also)
  more_follow rows others more also size e f g x y h = elim (cases_lt x (length rows)) [
    | inl less ↦ grown others also (moved x) (moved y)
        (f x y (sym (ap (λ (row : List ℕ). has row y) (get_or_append_left rows more [] x less)) ∙ h))
    | inr past ↦
        let k = x - length rows in
        let split : x ≡ length rows + k = omega (arith, past) in
        let sized : x ≡ size + k = omega (arith, past, e) in
        let here : led_to (rows ++ more) x ≡ led_to more k =
        ap (led_to (rows ++ more)) split ∙ get_or-append-add rows more k [] in
        subst (λ (z : ℕ). has (led_to (others ++ also) (moved z)) (moved y) ≡ true) (sym sized)
        (g k y (sym (ap (λ (row : List ℕ). has row y) here) ∙ h))
  ]

  -- rows of one kind, which stand at the same places
  pub kind_rows : {A : Type 0} (row other : A → List ℕ) → ((a : A) → Follows (row a) (other a))
      → (xs : List A) (k y : ℕ) → has (led_to (map row xs) k) y ≡ true
      → (k < length xs) × (has (led_to (map other xs) k) (moved y) ≡ true)
  kind_rows row other f [] k y h = absurd cc
  kind_rows row other f (x ∷ xs) zero y h = (omega arith, f x y h)
  kind_rows row other f (x ∷ xs) (suc k) y h =
      let more = kind_rows row other f xs k y h in
      let less = more.0 in
      (omega (arith, less), more.1)

  pub kind_behind : {A : Type 0} (row other : A → List ℕ) → ((a : A) → Follows (row a) (other a))
      → (xs : List A) (others : List (List ℕ)) (size : ℕ) → length others ≡ size → (shape_of sheet).globals ≤ size
      → size + length xs ≤ (shape_of sheet).globals_at
      → (k : ℕ) → Follows (led_to (map row xs) k) (led_to (others ++ map other xs) (moved (size + k)))
  kind_behind row other f xs others size e from to k y h =
      let there = kind_rows row other f xs k y h in
      let less = there.0 in
      let same : moved (size + k) ≡ length others + k =
      stays (size + k) (omega (arith, from)) (omega (arith, to, less))
      ∙ (let add : size + k ≡ length others + k = omega (arith, e) in add) in
      ap (λ (z : ℕ). has (led_to (others ++ map other xs) z) (moved y)) same
      ∙ ap (λ (row : List ℕ). has row (moved y)) (get_or-append-add others (map other xs) k [])
      ∙ there.1

  pub nothing_follows : {A : Type 0} (xs : List A) (others : List (List ℕ)) (size : ℕ)
      → (k : ℕ) → Follows (led_to (map no_row xs) k) (led_to others (moved (size + k)))
  nothing_follows [] others size k y h = absurd cc
  nothing_follows (x ∷ xs) others size zero y h = absurd cc
  nothing_follows (x ∷ xs) others size (suc k) y h = absurd (none xs k h)
    where
      none : {A : Type 0} (xs : List A) (k : ℕ) → has (led_to (map no_row xs) k) y ≡ true → ⊥
      none [] k h = cc
      none (x ∷ xs) zero h = cc
      none (x ∷ xs) (suc k) h = none xs k h

  -- one more in the row of a place that stays
  put_row : (rows : List (List ℕ)) (at place : ℕ) → at < length rows
      → led_to (with_place at place rows) at ≡ led_to rows at ++ place ∷ []
  put_row rows at place less =
      ap (λ (b : Bool). led_to (cond b (set rows at (get_or rows at [] ++ place ∷ [])) rows) at)
      (lt-ltb at (length rows) less)
      ∙ get_or-set_same rows at (get_or rows at [] ++ place ∷ []) [] less

  put_other : (rows : List (List ℕ)) (at place x : ℕ) → (x ≡ at → ⊥)
      → led_to (with_place at place rows) x ≡ led_to rows x
  put_other rows at place x other = go (nat_lt at (length rows))
    where
      go : (b : Bool) → led_to (cond b (set rows at (get_or rows at [] ++ place ∷ [])) rows) x
          ≡ led_to rows x
      go true = get_or-set_other rows at x (get_or rows at [] ++ place ∷ []) [] other
      go false = refl

  put_grows : (rows : List (List ℕ)) (at place x y : ℕ) → at < length rows
      → has (led_to rows x) y ≡ true → has (led_to (with_place at place rows) x) y ≡ true
  put_grows rows at place x y less h = elim (cases_eq x at) [
    | inl e ↦ subst (λ (z : ℕ). has (led_to (with_place at place rows) z) y ≡ true) (sym e)
        (ap (λ (row : List ℕ). has row y) (put_row rows at place less)
        ∙ has_front (led_to rows at) (place ∷ []) y
        (subst (λ (z : ℕ). has (led_to rows z) y ≡ true) e h))
    | inr other ↦ ap (λ (row : List ℕ). has row y) (put_other rows at place x other) ∙ h
  ]

  put_length : (rows : List (List ℕ)) (at place : ℕ)
      → length (with_place at place rows) ≡ length rows
  put_length rows at place = go (nat_lt at (length rows))
    where
      go : (b : Bool) → length (cond b (set rows at (get_or rows at [] ++ place ∷ [])) rows)
          ≡ length rows
      go true = length-set rows at (get_or rows at [] ++ place ∷ [])
      go false = refl

  -- two graphs of so many places, of which the one follows the other
  pub record Alike (rows others : List (List ℕ)) : Type 0 where
    pub size : length rows ≡ (shape_of sheet).globals_at + (shape_of sheet).globals
    pub other_size : length others ≡ (shape_of sheet).globals_at + (shape_of sheet).globals
    pub follow : AllFollow rows others

  put_alike : (rows others : List (List ℕ)) (at place : ℕ) → Alike rows others → (shape_of sheet).globals ≤ at
      → at < (shape_of sheet).globals_at → (shape_of sheet).globals ≤ place → place < (shape_of sheet).globals_at
      → Alike (with_place at place rows) (with_place at place others)
  put_alike rows others at place a from to pfrom pto =
      let size = a.size in
      let other_size = a.other_size in
      let inside : at < length rows = omega (arith, size, to) in
      let other_inside : at < length others = omega (arith, other_size, to) in
      record {
        size = put_length rows at place ∙ a.size;
        other_size = put_length others at place ∙ a.other_size;
        follow = λ x y h. elim (cases_eq x at) [
          | inl e ↦
              let own : (has (led_to rows at) y || has (place ∷ []) y) ≡ true =
              sym (list_any-append (nat_eq y) (led_to rows at) (place ∷ []))
              ∙ ap (λ (row : List ℕ). has row y) (sym (put_row rows at place inside))
              ∙ subst (λ (z : ℕ). has (led_to (with_place at place rows) z) y ≡ true) e h in
              let here : moved x ≡ at = ap moved e ∙ stays at from to in
              subst (λ (z : ℕ). has (led_to (with_place at place others) z) (moved y) ≡ true)
              (sym here)
              (ap (λ (row : List ℕ). has row (moved y)) (put_row others at place other_inside)
              ∙ elim (or_cases (has (led_to rows at) y) (has (place ∷ []) y) own) [
                | inl k ↦ has_front (led_to others at) (place ∷ []) (moved y)
                    (subst (λ (z : ℕ). has (led_to others z) (moved y) ≡ true) (stays at from to)
                    (a.follow at y k))
                | inr k ↦ has_back (led_to others at) (place ∷ []) (moved y)
                    (let there : moved y ≡ place =
                    ap moved (is_one place y k) ∙ stays place pfrom pto in
                    subst (λ (z : ℕ). has (place ∷ []) z ≡ true) (sym there) (has_one place))
              ])
          | inr other ↦ put_grows others at place (moved x) (moved y) other_inside
              (a.follow x y (ap (λ (row : List ℕ). has row y)
              (sym (put_other rows at place x other)) ∙ h))
        ];
      }

  mode_alike : (rows others : List (List ℕ)) (place mode : ℕ) → Alike rows others
      → (shape_of sheet).globals ≤ place → place < (shape_of sheet).globals_at
      → Alike (with_mode (record (shape_of sheet) { variables = variables }) place rows mode)
      (with_mode (shape_of sheet) place others mode)
  mode_alike rows others place mode a from to = go (nat_lt mode (shape_of sheet).modes) refl
    where
      go : (b : Bool) → nat_lt mode (shape_of sheet).modes ≡ b
          → Alike (cond b (with_place ((shape_of sheet).modes_at + mode) place rows) rows)
          (cond b (with_place ((shape_of sheet).modes_at + mode) place others) others)
      go true e =
          let less = ltb-true mode (shape_of sheet).modes e in
          let b = r.first in
          let c = r.second in
          let d = r.third in
          let f = r.fourth in
          let g = r.fifth in
          put_alike rows others ((shape_of sheet).modes_at + mode) place a (omega (arith, b, c, d, f))
          (omega (arith, g, less)) from to
      go false e = a

  modes_alike : (rows others : List (List ℕ)) (place : ℕ) (modes : List ℕ) → Alike rows others
      → (shape_of sheet).globals ≤ place → place < (shape_of sheet).globals_at
      → Alike (with_modes (record (shape_of sheet) { variables = variables }) place rows modes)
      (with_modes (shape_of sheet) place others modes)
  modes_alike rows others place [] a from to = a
  modes_alike rows others place (m ∷ modes) a from to =
      modes_alike (with_mode (record (shape_of sheet) { variables = variables }) place rows m)
      (with_mode (shape_of sheet) place others m) place modes
      (mode_alike rows others place m a from to) from to

  -- the rules of templates that are there
  pub rules_alike : (rows others : List (List ℕ)) (rules : List Rule)
      → list_all (λ t. nat_lt t.template (shape_of sheet).templates) rules ≡ true → Alike rows others
      → Alike (with_rules (record (shape_of sheet) { variables = variables }) rows rules) (with_rules (shape_of sheet) others rules)
  rules_alike rows others [] h a = a
  rules_alike rows others (t ∷ rules) h a =
      let k = and_parts (nat_lt t.template (shape_of sheet).templates) _ h in
      let less = ltb-true t.template (shape_of sheet).templates k.0 in
      let b = r.first in
      let c = r.second in
      let d = r.third in
      let f = r.fourth in
      let g = r.fifth in
      rules_alike (with_modes (record (shape_of sheet) { variables = variables }) ((shape_of sheet).rules_at + t.template) rows t.modes)
      (with_modes (shape_of sheet) ((shape_of sheet).rules_at + t.template) others t.modes) rules k.1
      (modes_alike rows others ((shape_of sheet).rules_at + t.template) t.modes a (omega (arith, b, c, d))
      (omega (arith, f, g, less)))
