-- Types do not nest.
use Rattle.std.proofs.Common.{◌≡◌, ℕ, max, map, Bool, true, false, cond, ◌&&◌, nat_le}
use Rattle.std.proofs.Common.{List, [], ◌∷◌, refl, sym, ◌∙◌, ap, arith, Option, Some, None}
use Rattle.std.proofs.lemmas.Bool.{and_parts, le-leb}
use Rattle.expr_keys.specs.declared.tokens.Token.{Token}
use Rattle.expr_keys.specs.declared.productions.Class.{Class}
use Rattle.expr_keys.specs.declared.productions.Language.{Language}
use Rattle.expr_keys.specs.declared.productions.Level.TheVariants.{Or as or_level}
use Rattle.expr_keys.specs.declared.productions.Nonterminal.{Nonterminal}
use Rattle.expr_keys.specs.declared.productions.Nonterminal.TheVariants as n
use Rattle.expr_keys.specs.declared.productions.Symbol.{Symbol}
use Rattle.expr_keys.specs.declared.productions.Symbol.TheVariants as s
use Rattle.expr_keys.specs.declared.productions.Production.{Production}
use Rattle.expr_keys.specs.declared.productions.Production.TheVariants as p
use Rattle.expr_terms.specs.declared.raws.Raw.{Raw}
use Rattle.expr_terms.specs.declared.raws.Raw.TheFolds.{map-Raw}
use Rattle.expr_terms.specs.declared.raws.Raw.TheVariants.{Leaf as leaf, outs-Leaf}
use Rattle.expr_terms.specs.Productions.{body, head, keeps}
use Rattle.expr_terms.specs.Raws.{keep}
use Rattle.expr_terms.specs.Nest.{Levels, levels_step, levels_of, raw_nest_of, with_part}
use Rattle.expr_terms.specs.Nest.{with_parts}
use Rattle.expr_terms.specs.Nest.{before_parts}
use Rattle.expr_grammar.specs.Grammar.{Derives, by, Seq, end, taken, next, without, with, stop}
use Rattle.expr_grammar.specs.Grammar.{again, bare, given}
use Rattle.expr_grammar.specs.Machine.{read_type}
use Rattle.expr_grammar.proofs.Run.{runs_spells_type}
use Rattle.expr_grammar.specs.ExprNest.Held.{held, built_nest}
use Rattle.expr_grammar.proofs.ExprNest.Built.{nest_of_build}
use Rattle.expr_grammar.proofs.ExprNest.Levels.{levels-out}
use Rattle.expr_reader.specs.Answers.{within}
use Rattle.expr_reader.specs.declared.readings.Reading.TheVariants.{Value, Nothing, TooDeep}
use Rattle.xt_names.proofs.BoolLemmas.{never}
use Rattle.query_grammar.proofs.Neat.{of_types}

abbrev Flat : List Raw → Type 0
Flat [] = Unit {0}
Flat (v ∷ vs) = (raw_nest_of v ≡ 0) × Flat vs

leaf_flat : (t : Token) → raw_nest_of (leaf t) ≡ 0
leaf_flat t = ap (λ x. x.nest)
    (levels-out (leaf t) ∙ ap (λ f. levels_step (map-Raw Raw Levels levels_of f)) (outs-Leaf t))

abbrev typed : List Symbol → Bool
typed [] = true
typed (s.Tok c ∷ ss) = typed ss
typed (s.One m ∷ ss) = of_types m && typed ss
typed (s.Maybe m ∷ ss) = of_types m && typed ss
typed (s.Many m ∷ ss) = of_types m && typed ss
typed (s.Longest m ∷ ss) = of_types m && typed ss

typed_body : (q : Production) → cond (of_types (head q)) (typed (body q)) true ≡ true
typed_body (p.OperatorChain or_level) = refl
typed_body (p.OperatorTail or_level) = refl
typed_body _ = refl

same_cond : (b : Bool) (a : ℕ) → cond b a a ≡ a
same_cond true a = refl
same_cond false a = refl

built_flat : (q : Production) (vs : List Raw) (a : ℕ) → of_types (head q) ≡ true
    → built_nest q a vs ≡ a
built_flat p.WholeSequenceType vs a e = same_cond _ a
built_flat p.PlainKind vs a e = same_cond _ a
built_flat p.PiKind vs a e = same_cond _ a
built_flat p.PiNamed vs a e = same_cond _ a
built_flat p.NamedKind vs a e = same_cond _ a
built_flat p.KindNamed vs a e = same_cond _ a
built_flat p.EmptyType vs a e = same_cond _ a
built_flat p.ItemsType vs a e = same_cond _ a
built_flat p.OccurrenceMark vs a e = same_cond _ a
built_flat p.AnyItem vs a e = same_cond _ a
built_flat p.KindItem vs a e = same_cond _ a
built_flat p.AtomicItem vs a e = same_cond _ a
built_flat _ vs a e = never e

part_flat : (q : Production) (v : Levels) → of_types (head q) ≡ true
    → with_part q 0 v ≡ max 0 v.nest
part_flat p.WholeSequenceType v e = refl
part_flat p.PlainKind v e = refl
part_flat p.PiKind v e = refl
part_flat p.PiNamed v e = refl
part_flat p.NamedKind v e = refl
part_flat p.KindNamed v e = refl
part_flat p.EmptyType v e = refl
part_flat p.ItemsType v e = refl
part_flat p.OccurrenceMark v e = refl
part_flat p.AnyItem v e = refl
part_flat p.KindItem v e = refl
part_flat p.AtomicItem v e = refl
part_flat _ v e = never e

before_flat : (q : Production) → of_types (head q) ≡ true → before_parts q ≡ 0
before_flat p.RootSteps e = never e
before_flat p.RootedDeep e = never e
before_flat _ e = refl

parts_flat : (q : Production) (vs : List Raw) → of_types (head q) ≡ true → Flat vs
    → with_parts q 0 (map levels_of vs) ≡ 0
parts_flat q [] e f = refl
parts_flat q (v ∷ vs) e f =
    let one : with_part q 0 (levels_of v) ≡ 0 =
    part_flat q (levels_of v) e ∙ ap (λ x. max 0 x) f.0 in
    ap (λ x. with_parts q x (map levels_of vs)) one ∙ parts_flat q vs e f.1

held_flat : (q : Production) (vs : List Raw) → of_types (head q) ≡ true → Flat vs
    → held q vs ≡ 0
held_flat q vs e f =
    ap (λ x. with_parts q x (map levels_of vs)) (before_flat q e) ∙ parts_flat q vs e f

keep_flat : (c : Class) (t : Token) (vs : List Raw) → Flat vs → Flat (keep c t vs)
keep_flat c t vs f = go (keeps c)
  where
    go : (b : Bool) → Flat (cond b (leaf t ∷ vs) vs)
    go true = (leaf_flat t, f)
    go false = f

mutual
  flat : {l : Language} {m : Nonterminal} {ts mid : List Token} {v : Raw} → of_types m ≡ true
      → Derives l m ts v mid → raw_nest_of v ≡ 0
  flat h (by q {vs = vs} a e x) =
      let kind : of_types (head q) ≡ true = ap of_types e ∙ h in
      let all : typed (body q) ≡ true = rw kind at (typed_body q) in
      nest_of_build q vs ∙ (built_flat q vs (held q vs) kind ∙ held_flat q vs kind (flats all x))

  flats : {l : Language} {ss : List Symbol} {ts mid : List Token} {vs : List Raw}
      → typed ss ≡ true → Seq l ss ts vs mid → Flat vs
  flats h end = tt
  flats h (taken {c = c} {t = t} {vs = vs} f x) = keep_flat c t vs (flats h x)
  flats h (next {n = m} {ss = ss} d x) =
      let parts = and_parts (of_types m) (typed ss) h in (flat parts.0 d, flats parts.1 x)
  flats h (without {n = m} {ss = ss} x) = flats (and_parts (of_types m) (typed ss) h).1 x
  flats h (with {n = m} {ss = ss} d x) =
      let parts = and_parts (of_types m) (typed ss) h in (flat parts.0 d, flats parts.1 x)
  flats h (stop {n = m} {ss = ss} x) = flats (and_parts (of_types m) (typed ss) h).1 x
  flats h (again {n = m} {ss = ss} d x) =
      let parts = and_parts (of_types m) (typed ss) h in (flat parts.0 d, flats h x)
  flats h (bare {n = m} {ss = ss} e x) = flats (and_parts (of_types m) (typed ss) h).1 x
  flats h (given {n = m} {ss = ss} e d x) =
      let parts = and_parts (of_types m) (typed ss) h in (flat parts.0 d, flats parts.1 x)

-- .. so no limit comes near them
within_type : (l : Language) (ts : List Token) (o : Option Raw) → read_type l ts ≡ o
    → (k : ℕ) → within k o ≡ TooDeep → ⊥
within_type l ts None e k f = absurd cc
within_type l ts (Some v) e k f =
    let z : raw_nest_of v ≡ 0 = flat refl (runs_spells_type e) in
    let h : nat_le (raw_nest_of v) k ≡ true = le-leb _ _ (omega arith) in
    let g : within k (Some v) ≡ Value v = rw h refl in
    absurd (differ v (sym g ∙ f))
  where
    differ : (v : Raw) → Value v ≡ TooDeep → ⊥
    differ v e = absurd cc

pub deep_type : (l : Language) (ts : List Token) (k : ℕ) → TooDeep ≡ within k (read_type l ts) → ⊥
deep_type l ts k e = within_type l ts (read_type l ts) refl k (sym e)

value_of : (k : ℕ) (o : Option Raw) (v : Raw) → Value v ≡ within k o → Some v ≡ o
value_of k None v e = absurd cc
value_of k (Some w) v e = go (nat_le (raw_nest_of w) k) e
  where
    same : {v w : Raw} → Value v ≡ Value w → v ≡ w
    same e = cc

    go : (b : Bool) → Value v ≡ cond b (Value w) TooDeep → Some v ≡ Some w
    go true e = ap Some (same e)
    go false e = absurd cc

nothing_of : (k : ℕ) (o : Option Raw) → Nothing ≡ within k o → None ≡ o
nothing_of k None e = refl
nothing_of k (Some w) e = go (nat_le (raw_nest_of w) k) e
  where
    go : (b : Bool) → Nothing ≡ cond b (Value w) TooDeep → None ≡ Some w
    go true e = absurd cc
    go false e = absurd cc

pub type_value : (l : Language) (ts : List Token) (k : ℕ) (v : Raw)
    → Value v ≡ within k (read_type l ts) → Some v ≡ read_type l ts
type_value l ts k v e = value_of k (read_type l ts) v e

pub type_nothing : (l : Language) (ts : List Token) (k : ℕ)
    → Nothing ≡ within k (read_type l ts) → None ≡ read_type l ts
type_nothing l ts k e = nothing_of k (read_type l ts) e

pub ruleset types = (deep_type, type_value, type_nothing)
