-- What white space, `=` and a quote do to a reading.
use Rattle.std.proofs.Common.{◌≡◌, ℕ, List, [], ◌∷◌, Bool, true, false, Option, Some, None, MatchBool, MatchOption, ◌==◌, refl, sym, ap, subst, ◌∙◌}
use Rattle.std.proofs.lemmas.Bool.{ne_eqb, eqb-true}
use Rattle.doc_grammar.specs.RawNames.{RawName, RawTag}
use Rattle.doc_grammar.specs.Scopes.{opened}
use Rattle.doc_grammar.specs.Lexemes.{Spaces}
use Rattle.doc_grammar.specs.Lexemes as lexemes
use Rattle.doc_grammar.specs.Machine.{Stack, State, equals, assigned, valued, step}
use Rattle.doc_grammar.proofs.CharacterFacts.{equals_space}
use Rattle.xml_source.specs.Reading.{reads, Fails}
use Rattle.xml_source.proofs.ReadLemmas.{goes, stuck}
use Rattle.xt_names.specs.Characters.{is_space, is_quote, Ends, NotNext}
use Rattle.xt_names.proofs.CharacterLemmas.{is_other}
use Rattle.xt_names.proofs.BoolLemmas.{one_of}

-- white space

abbrev pub TakesSpaces : Bool → List ℕ → List ℕ → Type 0
TakesSpaces b old new = MatchBool b ((c : ℕ) × (ts : List ℕ) × (old ≡ c ∷ ts) × (is_space c ≡ true) × Spaces ts new) (new ≡ old)

-- a state in which white space changes nothing
pub spaces_in : (s : State) → ((c : ℕ) → is_space c ≡ true → step opened s c ≡ Some s) → {ts rest : List ℕ} → Spaces ts rest → reads ts s ≡ reads rest s
spaces_in s k lexemes.no_space = refl
spaces_in s k (lexemes.a_space {c = c} {ts = ts} p r) = goes s s c ts (k c p) ∙ spaces_in s k r

pub takes_in : (s : State) → ((c : ℕ) → is_space c ≡ true → step opened s c ≡ Some s) → (b : Bool) (old new : List ℕ) → TakesSpaces b old new → reads old s ≡ reads new s
takes_in s k true old new t = ap (λ (x : List ℕ). reads x s) t.2 ∙ goes s s t.0 t.1 (k t.0 t.3) ∙ spaces_in s k t.4
takes_in s k false old new t = ap (λ (x : List ℕ). reads x s) (sym t)

-- quotes

pub quote_cases : (P : ℕ → Type 0) (q : ℕ) → P 34 → P 39 → is_quote q ≡ true → P q
unfolding is_quote
quote_cases P q a b e = one_of (P q) (q == 34) (q == 39) (λ x. subst P (sym (eqb-true q 34 x)) a) (λ x. subst P (sym (eqb-true q 39 x)) b) e

-- `=` and the quote

space_no_equals : (c : ℕ) → is_space c ≡ true → (c == 61) ≡ false
space_no_equals c s = is_other is_space c 61 s equals_space

equals_space_step : (t : RawTag) (name : RawName) (st : Stack) (c : ℕ) → is_space c ≡ true → step opened (equals t name st) c ≡ Some (equals t name st)
unfolding step
equals_space_step t name st c s = rw (space_no_equals c s, s) refl

assigned_space_step : (t : RawTag) (name : RawName) (st : Stack) (c : ℕ) → is_space c ≡ true → step opened (assigned t name st) c ≡ Some (assigned t name st)
unfolding step
assigned_space_step t name st c s = rw s refl

equals_step : (t : RawTag) (name : RawName) (st : Stack) → step opened (equals t name st) 61 ≡ Some (assigned t name st)
unfolding step
equals_step t name st = refl

no_equals_step : (t : RawTag) (name : RawName) (st : Stack) (c : ℕ) → (c ≡ 61 → ⊥) → is_space c ≡ false → step opened (equals t name st) c ≡ None
unfolding step
no_equals_step t name st c n s = rw (ne_eqb c 61 n, s) refl

quote_no_space : (q : ℕ) → is_quote q ≡ true → is_space q ≡ false
unfolding is_space
quote_no_space q e = let P : ℕ → Type 0 = λ x. is_space x ≡ false in quote_cases P q refl refl e

quote_step : (t : RawTag) (name : RawName) (st : Stack) (q : ℕ) → is_quote q ≡ true → step opened (assigned t name st) q ≡ Some (valued t name q [] st)
unfolding step
quote_step t name st q e = rw (quote_no_space q e, e) refl

no_quote_step : (t : RawTag) (name : RawName) (st : Stack) (c : ℕ) → is_space c ≡ false → (c ≡ 34 → ⊥) → (c ≡ 39 → ⊥) → step opened (assigned t name st) c ≡ None
unfolding step is_quote
no_quote_step t name st c s x y = rw (s, ne_eqb c 34 x, ne_eqb c 39 y) refl

no_equals : (ts : List ℕ) (t : RawTag) (name : RawName) (st : Stack) → NotNext 61 ts → Ends is_space ts → Fails (reads ts (equals t name st)) ts
no_equals [] t name st n s = refl
no_equals (c ∷ cs) t name st n s = stuck _ c cs (no_equals_step t name st c (λ same. n (sym same)) s)

no_quote : (ts : List ℕ) (t : RawTag) (name : RawName) (st : Stack) → Ends is_space ts → NotNext 34 ts → NotNext 39 ts → Fails (reads ts (assigned t name st)) ts
no_quote [] t name st s x y = refl
no_quote (c ∷ cs) t name st s x y = stuck _ c cs (no_quote_step t name st c s (λ same. x (sym same)) (λ same. y (sym same)))

pub equals_stops : (b : Bool) (old mid new : List ℕ) (t : RawTag) (name : RawName) (st : Stack) → TakesSpaces b old mid → Ends is_space mid → (new ≡ mid) × NotNext 61 mid → Fails (reads old (equals t name st)) new
equals_stops b old mid new t name st k e n = rw n.0 (takes_in (equals t name st) (equals_space_step t name st) b old mid k ∙ no_equals mid t name st n.1 e)

pub assigns : (b d : Bool) (old mid inner last new : List ℕ) (o : Option ℕ) (t : RawTag) (name : RawName) (st : Stack) → TakesSpaces b old mid → mid ≡ 61 ∷ inner → TakesSpaces d inner last → Ends is_space last
    → MatchOption o ((new ≡ last) × NotNext 34 last × NotNext 39 last) (λ q. (last ≡ q ∷ new) × (is_quote q ≡ true))
    → MatchOption o (Fails (reads old (equals t name st)) new) (λ q. (is_quote q ≡ true) × (reads old (equals t name st) ≡ reads new (valued t name q [] st)))
assigns b d old mid inner last new o t name st k e l s m = go o m where
  before : reads old (equals t name st) ≡ reads last (assigned t name st)
  before =
      takes_in (equals t name st) (equals_space_step t name st) b old mid k ∙ ap (λ (x : List ℕ). reads x (equals t name st)) e ∙ goes _ _ 61 inner (equals_step t name st)
      ∙ takes_in (assigned t name st) (assigned_space_step t name st) d inner last l

  go : (o : Option ℕ) → MatchOption o ((new ≡ last) × NotNext 34 last × NotNext 39 last) (λ q. (last ≡ q ∷ new) × (is_quote q ≡ true))
      → MatchOption o (Fails (reads old (equals t name st)) new) (λ q. (is_quote q ≡ true) × (reads old (equals t name st) ≡ reads new (valued t name q [] st)))
  go None n = rw n.0 (before ∙ no_quote last t name st s n.1 n.2)
  go (Some q) n = (n.1, before ∙ ap (λ (x : List ℕ). reads x (assigned t name st)) n.0 ∙ goes _ _ q new (quote_step t name st q n.1))
