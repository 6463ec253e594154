-- What is declared later, as a set of names.
use Rattle.std.proofs.Common.{◌≡◌, ℕ, List, [], ◌∷◌, ◌++◌, Bool, true, false, ◌||◌, not, reverse, refl, sym, ap, ◌∙◌}
use Rattle.std.proofs.Common.{if◌then◌else◌, drop, length, ◌+◌, ◌<◌, get_or}
use Rattle.std.proofs.lemmas.List.{reverse-append}
use Rattle.std.proofs.lemmas.List.Folds.{list_any-append}
use Rattle.xt_names.proofs.ListLemmas.{drop_at}
use Rattle.std.specs.List.{list_any}
use Rattle.name_rules.specs.declared.functions.Signature.{Signature}
use Rattle.name_rules.specs.Scopes.{has_function, with_function, same_signature}
use Rattle.sheet_rules.specs.declared.sheet_declarations.lists.Declaration.{Declaration}
use Rattle.sheet_rules.specs.declared.sheet_declarations.counts.Seen.{Seen}
use Rattle.sheet_rules.specs.SheetDeclarations.Counts.{Declared, a_global, a_function, a_template, nothing, declared_by, replaces}
use Rattle.sheet_rules.specs.SheetDeclarations.Counts.{is_replaced, counted_of, has_declared, with_declared, seen_of}
use Rattle.sheet_rules.proofs.SheetDeclarations.Sames.{same_signature_is, swap_or, absorbed}

-- one more name
has-with : (known : List Signature) (s t : Signature)
    → has_function (with_function known t.name t.arity) s.name s.arity
    ≡ (same_signature s t || has_function known s.name s.arity)
has-with known s t =
    elim (has_function known t.name t.arity) as (λ (b : Bool). has_function known t.name t.arity ≡ b
    → has_function (if b then known else known ++ t ∷ []) s.name s.arity
    ≡ (same_signature s t || has_function known s.name s.arity)) [
      | true ↦ λ known_so. absorbed (has_function known s.name s.arity) (same_signature s t)
          (λ same. ap (λ (x : Signature). has_function known x.name x.arity) (same_signature_is s t same) ∙ known_so)
      | false ↦ λ new. list_any-append (same_signature s) known (t ∷ [])
          ∙ swap_or (has_function known s.name s.arity) (same_signature s t)
    ] refl

-- what is declared also replaces
has_declared-with : (seen : Seen) (d e : Declared)
    → has_declared (with_declared seen e) d ≡ (replaces d e || has_declared seen d)
has_declared-with seen (a_global s) (a_global t) = has-with seen.globals s t
has_declared-with seen (a_global s) (a_function t) = refl
has_declared-with seen (a_global s) (a_template t) = refl
has_declared-with seen (a_global s) nothing = refl
has_declared-with seen (a_function s) (a_global t) = refl
has_declared-with seen (a_function s) (a_function t) = has-with seen.functions s t
has_declared-with seen (a_function s) (a_template t) = refl
has_declared-with seen (a_function s) nothing = refl
has_declared-with seen (a_template s) (a_global t) = refl
has_declared-with seen (a_template s) (a_function t) = refl
has_declared-with seen (a_template s) (a_template t) = has-with seen.templates s t
has_declared-with seen (a_template s) nothing = refl
has_declared-with seen nothing (a_global t) = refl
has_declared-with seen nothing (a_function t) = refl
has_declared-with seen nothing (a_template t) = refl
has_declared-with seen nothing nothing = refl

none_declared : (d : Declared)
    → has_declared (record { globals = []; functions = []; templates = [] }) d ≡ false
none_declared (a_global s) = refl
none_declared (a_function s) = refl
none_declared (a_template s) = refl
none_declared nothing = refl

module _ {E P : Type 0} where
  pub has_seen : (d : Declared) (ds : List (Declaration E P))
      → has_declared (seen_of ds) d ≡ list_any (λ later. replaces d (declared_by later.part)) ds
  has_seen d [] = none_declared d
  has_seen d (e ∷ ds) =
      has_declared-with (seen_of ds) d (declared_by e.part)
      ∙ ap (λ (b : Bool). replaces d (declared_by e.part) || b) (has_seen d ds)

  -- one more declaration, from the last to the first
  pub seen_turn : (all : List (Declaration E P)) (i : ℕ) (d : Declaration E P) (seen next : Seen)
      (new : Bool) (marks more : List Bool) → i < length all → d ≡ get_or all i d
      → seen ≡ seen_of (drop (i + 1) all) → reverse marks ≡ counted_of (drop (i + 1) all)
      → new ≡ not (has_declared seen (declared_by d.part))
      → next ≡ with_declared seen (declared_by d.part) → more ≡ marks ++ new ∷ []
      → (next ≡ seen_of (drop i all)) × (reverse more ≡ counted_of (drop i all))
  seen_turn all i d seen next new marks more h e s m n x k =
      let here : drop i all ≡ d ∷ drop (i + 1) all = drop_at all i d h e in (
        x ∙ ap (λ (t : Seen). with_declared t (declared_by d.part)) s ∙ sym (ap seen_of here),
        ap reverse k ∙ reverse-append marks (new ∷ []) ∙ ap (λ (b : Bool). b ∷ reverse marks) n
            ∙ ap (λ (t : Seen). not (has_declared t (declared_by d.part)) ∷ reverse marks) s
            ∙ ap (λ (b : Bool). not b ∷ reverse marks) (has_seen (declared_by d.part) (drop (i + 1) all))
            ∙ ap (λ (l : List Bool). not (is_replaced d (drop (i + 1) all)) ∷ l) m
            ∙ sym (ap counted_of here),
      )

  -- the same, where the declaration is read at its place
  pub seen_turn_at : (all : List (Declaration E P)) (i : ℕ) (d e : Declaration E P) (seen next : Seen)
      (new : Bool) (marks more : List Bool) → i < length all → d ≡ get_or all i d → e ≡ get_or all i d
      → seen ≡ seen_of (drop (i + 1) all) → reverse marks ≡ counted_of (drop (i + 1) all)
      → new ≡ not (has_declared seen (declared_by e.part))
      → next ≡ with_declared seen (declared_by e.part) → more ≡ marks ++ new ∷ []
      → (next ≡ seen_of (drop i all)) × (reverse more ≡ counted_of (drop i all))
  seen_turn_at all i d e seen next new marks more h a b s m n x k =
      let same : e ≡ d = b ∙ sym a in
      seen_turn all i d seen next new marks more h a s m
      (n ∙ ap (λ (y : Declaration E P). not (has_declared seen (declared_by y.part))) same)
      (x ∙ ap (λ (y : Declaration E P). with_declared seen (declared_by y.part)) same) k
