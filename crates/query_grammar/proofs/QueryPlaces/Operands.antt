-- Which nonterminals and parts take the front of a direct element, and which take `<`.
use Rattle.std.proofs.Common.{◌≡◌, ℕ, Bool, true, false, cond, ◌||◌, List, [], ◌∷◌, refl, ap}
use Rattle.std.proofs.Common.{Option, Some, None, is_some, ◌∙◌}
use Rattle.expr_terms.specs.declared.choices.Second.{Second}
use Rattle.expr_keys.specs.Classes.{fits, begins, is_after_root}
use Rattle.query_grammar.specs.QueryPlaces.TokenNames as token
use Rattle.query_grammar.specs.QueryPlaces.TokenNames.{Key}
use Rattle.query_grammar.specs.QueryPlaces.Terms.{xquery, Level, or_level, Nonterminal, level, tail}
use Rattle.query_grammar.specs.QueryPlaces.Terms.{after_root, Class, key, operator, start_tag_open, Symbol, tok, one}
use Rattle.query_grammar.specs.QueryPlaces.Terms.{maybe, many, longest, Production}
use Rattle.expr_terms.specs.declared.raws.Raw.{Raw}
use Rattle.expr_grammar.specs.Machine.{Frame, doing, descend, deep, Way, stuck, moved}
use Rattle.expr_grammar.specs.Machine.{or_else, along, outcome, climb, advance}
use Rattle.query_grammar.specs.QueryPlaces.Places.{begins_operand, is_outer, wanted, wants_operand}
use Rattle.std.proofs.Math.Bool.{or-false}

fits_operator : (l : Level) (p n : List ℕ) → fits (operator l) (token.start_tag_open p n) ≡ false
fits_operator or_level p n = refl
fits_operator _ p n = refl

fits_outer : (c : Class) (p n : List ℕ) → fits c (token.start_tag_open p n) ≡ is_outer c
fits_outer (key k) p n = refl
fits_outer (operator l) p n = fits_operator l p n
fits_outer start_tag_open p n = refl
fits_outer _ p n = refl

begun : (n : Nonterminal) (p m : List ℕ) (s : Second) (fs : List Frame)
    → is_some (descend xquery deep n (token.start_tag_open p m) s fs) ≡ begins_operand n
unfolding deep
begun (level or_level) p m s fs = refl
begun (tail or_level) p m s fs = refl
begun _ p m s fs = refl

-- two alternatives of a way
or_some : (o : Option (List Frame)) (w : Way) (rest : Option (List Frame))
    → is_some (outcome (or_else o w) rest) ≡ (is_some o || is_some (outcome w rest))
or_some None w rest = refl
or_some (Some fs) w rest = refl

token_taken : (b : Bool) (fs : List Frame) (rest : Option (List Frame))
    → is_some (outcome (cond b (moved fs) stuck) rest) ≡ b
token_taken true fs rest = refl
token_taken false fs rest = refl

cond_taken : (b : Bool) (w v : Way) (rest : Option (List Frame)) (below : Bool)
    → is_some (outcome w rest) ≡ true → is_some (outcome v rest) ≡ below
    → is_some (outcome (cond b w v) rest) ≡ cond b true below
cond_taken true w v rest below e f = e
cond_taken false w v rest below e f = f

-- after a `/` that may stand alone the front of an element begins a step
step_begun : (n : Nonterminal) (p m : List ℕ) (s : Second) (fs : List Frame) (w v : Way)
    (rest : Option (List Frame)) (below : Bool)
    → is_some (outcome (or_else (descend xquery deep n (token.start_tag_open p m) s fs) w) rest)
    ≡ (begins_operand n || false)
    → is_some (outcome v rest) ≡ below
    → is_some (outcome (cond (begins n (token.start_tag_open p m)) (or_else (descend xquery deep n
    (token.start_tag_open p m) s fs) w) v) rest) ≡ cond (is_after_root n) true below
step_begun after_root p m s fs w v rest below e f = e
step_begun _ p m s fs w v rest below e f = f

both : {a b c d : Bool} → a ≡ b → c ≡ d → (a || c) ≡ (b || d)
both {b = b} {c = c} e f = ap (λ x. x || c) e ∙ ap (λ y. b || y) f

module _ (p m : List ℕ) (s : Second) where
  parts : (q : Production) (vs : List Raw) (fs : List Frame) (ss : List Symbol)
      (rest : Option (List Frame))
      → is_some (outcome (along xquery (token.start_tag_open p m) s q vs fs ss) rest)
      ≡ wanted ss (is_some rest)
  parts q vs fs [] rest = refl
  parts q vs fs (tok c ∷ ss) rest = token_taken _ _ rest ∙ fits_outer c p m
  parts q vs fs (one n ∷ ss) rest = or_some _ stuck rest ∙ or-false _ ∙ begun n p m s _
  parts q vs fs (maybe n ∷ ss) rest =
      or_some _ (along xquery (token.start_tag_open p m) s q vs fs ss) rest
      ∙ both (begun n p m s _) (parts q vs fs ss rest)
  parts q vs fs (many n ∷ ss) rest =
      or_some _ (along xquery (token.start_tag_open p m) s q vs fs ss) rest
      ∙ both (begun n p m s _) (parts q vs fs ss rest)
  parts q vs fs (longest n ∷ ss) rest =
      step_begun n p m s (doing q vs ss ∷ fs) stuck _ rest (wanted ss (is_some rest))
      (or_some _ stuck rest ∙ both (begun n p m s _) refl) (parts q vs fs ss rest)

  climbs : (fs : List Frame) (q : Production) (vs : List Raw) (ss : List Symbol)
      → is_some (climb xquery (token.start_tag_open p m) s fs q vs ss) ≡ wanted ss (wants_operand fs)
  climbs [] q vs ss = parts q vs [] ss None
  climbs (doing r us rs ∷ fs) q vs ss =
      parts q vs (doing r us rs ∷ fs) ss (climb xquery (token.start_tag_open p m) s fs r _ rs)
      ∙ ap (wanted ss) (climbs fs r _ rs)

  pub taken : (fs : List Frame)
      → is_some (advance xquery (token.start_tag_open p m) s fs) ≡ wants_operand fs
  taken [] = refl
  taken (doing q vs ss ∷ fs) = climbs fs q vs ss
