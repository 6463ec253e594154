-- What is declared later, as a set of names with precedences.
use Rattle.std.proofs.Common.{◌≡◌, ℕ, List, [], ◌∷◌, ◌++◌, Bool, true, false, ◌||◌, ◌&&◌, refl, sym}
use Rattle.std.proofs.Common.{ap, ◌∙◌, nat_eq, if◌then◌else◌, drop, length, ◌+◌, ◌<◌, get_or}
use Rattle.std.proofs.lemmas.Bool.{and_parts}
use Rattle.std.proofs.lemmas.Bool.Decides.{Decides-eqb}
use Rattle.std.proofs.lemmas.List.Folds.{list_any-append}
use Rattle.xt_names.proofs.ListLemmas.{drop_at}
use Rattle.name_rules.specs.declared.functions.Signature.{Signature}
use Rattle.name_rules.specs.Scopes.{same_signature}
use Rattle.sheet_rules.specs.declared.sheet_declarations.lists.Declaration.{Declaration}
use Rattle.sheet_rules.specs.SheetDeclarations.Counts.{Declared, a_global, a_function, a_template, nothing, declared_by, replaces}
use Rattle.sheet_rules.proofs.SheetDeclarations.Sames.{same_signature_is, swap_or, absorbed}
use Rattle.sheet_rules.specs.declared.wide_rules.placed.Placed.{Placed}
use Rattle.sheet_rules.specs.declared.wide_rules.doubles.Seen.{Seen}
use Rattle.sheet_rules.specs.declared.wide_rules.doubles.Doubles.{Doubles}
use Rattle.sheet_rules.specs.WideRules.Doubles.{placed, same_placed, has_placed, with_placed, has_declared, with_declared}
use Rattle.sheet_rules.specs.WideRules.Doubles.{with_double, stands_again, doubles_of, seen_of}

same_placed_is : (a b : Placed) → same_placed a b ≡ true → a ≡ b
same_placed_is a b h =
    let t = and_parts (same_signature a.signature b.signature) (nat_eq a.level b.level) h in
    let s : a.signature ≡ b.signature = same_signature_is a.signature b.signature t.0 in
    let l : a.level ≡ b.level = (Decides-eqb a.level b.level).0 t.1 in
    ap (λ (x : Signature). placed x a.level) s ∙ ap (λ (level : ℕ). placed b.signature level) l

-- one more name
has-with : (known : List Placed) (s t : Placed)
    → has_placed (with_placed known t) s ≡ (same_placed s t || has_placed known s)
has-with known s t =
    elim (has_placed known t) as (λ (b : Bool). has_placed known t ≡ b
    → has_placed (if b then known else known ++ t ∷ []) s ≡ (same_placed s t || has_placed known s)) [
      | true ↦ λ known_so. absorbed (has_placed known s) (same_placed s t)
          (λ same. ap (λ (x : Placed). has_placed known x) (same_placed_is s t same) ∙ known_so)
      | false ↦ λ new. list_any-append (same_placed s) known (t ∷ [])
          ∙ swap_or (has_placed known s) (same_placed s t)
    ] refl

-- what is declared also is there
has_declared-with : (seen : Seen) (d e : Declared) (level at : ℕ)
    → has_declared (with_declared seen e at) d level
    ≡ ((replaces d e && nat_eq level at) || has_declared seen d level)
has_declared-with seen (a_global s) (a_global t) level at = has-with seen.globals (placed s level) (placed t at)
has_declared-with seen (a_global s) (a_function t) level at = refl
has_declared-with seen (a_global s) (a_template t) level at = refl
has_declared-with seen (a_global s) nothing level at = refl
has_declared-with seen (a_function s) (a_global t) level at = refl
has_declared-with seen (a_function s) (a_function t) level at = has-with seen.functions (placed s level) (placed t at)
has_declared-with seen (a_function s) (a_template t) level at = refl
has_declared-with seen (a_function s) nothing level at = refl
has_declared-with seen (a_template s) (a_global t) level at = refl
has_declared-with seen (a_template s) (a_function t) level at = refl
has_declared-with seen (a_template s) (a_template t) level at = has-with seen.templates (placed s level) (placed t at)
has_declared-with seen (a_template s) nothing level at = refl
has_declared-with seen nothing (a_global t) level at = refl
has_declared-with seen nothing (a_function t) level at = refl
has_declared-with seen nothing (a_template t) level at = refl
has_declared-with seen nothing nothing level at = refl

none_declared : (d : Declared) (level : ℕ)
    → has_declared (record { globals = []; functions = []; templates = [] }) d level ≡ false
none_declared (a_global s) level = refl
none_declared (a_function s) level = refl
none_declared (a_template s) level = refl
none_declared nothing level = refl

module _ {E P : Type 0} where
  has_seen : (d : Declared) (level : ℕ) (ds : List (Declaration E P))
      → has_declared (seen_of ds) d level ≡ stands_again d level ds
  has_seen d level [] = none_declared d level
  has_seen d level (e ∷ ds) =
      has_declared-with (seen_of ds) d (declared_by e.part) level e.level
      ∙ ap (λ (b : Bool). (replaces d (declared_by e.part) && nat_eq level e.level) || b) (has_seen d level ds)

  -- one more declaration, from the last to the first
  double_turn : (all : List (Declaration E P)) (i : ℕ) (d : Declaration E P) (seen next : Seen)
      (twice more : Doubles) → i < length all → d ≡ get_or all i d
      → seen ≡ seen_of (drop (i + 1) all) → twice ≡ doubles_of (drop (i + 1) all)
      → more ≡ with_double twice (declared_by d.part) (has_declared seen (declared_by d.part) d.level)
      → next ≡ with_declared seen (declared_by d.part) d.level
      → (next ≡ seen_of (drop i all)) × (more ≡ doubles_of (drop i all))
  double_turn all i d seen next twice more h e s t m x =
      let here : drop i all ≡ d ∷ drop (i + 1) all = drop_at all i d h e in (
        x ∙ ap (λ (y : Seen). with_declared y (declared_by d.part) d.level) s ∙ sym (ap seen_of here),
        m ∙ ap (λ (y : Seen). with_double twice (declared_by d.part) (has_declared y (declared_by d.part) d.level)) s
            ∙ ap (λ (b : Bool). with_double twice (declared_by d.part) b)
            (has_seen (declared_by d.part) d.level (drop (i + 1) all))
            ∙ ap (λ (y : Doubles). with_double y (declared_by d.part)
            (stands_again (declared_by d.part) d.level (drop (i + 1) all))) t
            ∙ sym (ap doubles_of here),
      )

  -- the same, where the declaration is read at its place
  pub double_turn_at : (all : List (Declaration E P)) (i : ℕ) (d e : Declaration E P) (seen next : Seen)
      (twice more : Doubles) → i < length all → d ≡ get_or all i d → e ≡ get_or all i d
      → seen ≡ seen_of (drop (i + 1) all) → twice ≡ doubles_of (drop (i + 1) all)
      → more ≡ with_double twice (declared_by e.part) (has_declared seen (declared_by e.part) e.level)
      → next ≡ with_declared seen (declared_by e.part) e.level
      → (next ≡ seen_of (drop i all)) × (more ≡ doubles_of (drop i all))
  double_turn_at all i d e seen next twice more h a b s t m x =
      let same : e ≡ d = b ∙ sym a in
      double_turn all i d seen next twice more h a s t
      (m ∙ ap (λ (y : Declaration E P). with_double twice (declared_by y.part)
      (has_declared seen (declared_by y.part) y.level)) same)
      (x ∙ ap (λ (y : Declaration E P). with_declared seen (declared_by y.part) y.level) same)
