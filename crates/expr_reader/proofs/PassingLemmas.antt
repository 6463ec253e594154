-- Values that pass through open productions.
use Rattle.std.proofs.Common.{◌≡◌, ℕ, zero, suc, ◌<◌, ◌-◌, Bool, true, false, cond, if◌then◌else◌, List, [], ◌∷◌, ◌++◌, Option, Some, None, drop, take, length, get_or, ◌≤◌, refl, sym, ap, ◌∙◌, arith}
use Rattle.expr_reader.specs.TokenNames.{Token}
use Rattle.expr_reader.specs.Terms.{Language, Level, Nonterminal, comma_expr_single, predicate, step_more, tail, Class, key, Symbol, tok, maybe, many, Production, whole_expr, whole_sequence_type, expr_list, next_expr_single, operator_expr, following_clause, next_for_binding, next_let_binding, next_quantified_binding, next_order_spec, order_direction, operator_chain, unsigned, rooted, unrooted, steps, filter_step, predicated, name_tested, kind_tested, pi_named, kind_named, direct_constructor, items_type, occurrence_mark, kind_item, atomic_item, part_chars, item_chars, operator_tail, step_after, deep_after}
use Rattle.expr_reader.specs.RawNames.{Raw}
use Rattle.expr_keys.specs.declared.keys.Key.TheVariants.{Comma as comma, OpenBracket as open_bracket, Slash as slash, Slashes as slashes}
use Rattle.expr_terms.specs.declared.choices.Second.{Second}
use Rattle.expr_terms.specs.declared.choices.Starter.{Starter}
use Rattle.expr_terms.specs.declared.choices.Starter.TheVariants.{Conditional as starts_conditional, Looping as starts_looping, Letting as starts_letting, Quantifying as starts_quantifying, Signing as starts_signing, Slashing as starts_slashing, SlashingDeep as starts_slashing_deep, Axis as starts_axis, At as starts_at, Parent as starts_parent, PlainKind as starts_plain_kind, PiKind as starts_pi_kind, NamedKind as starts_named_kind, Named as starts_named, Wild as starts_wild, Digits as starts_digits, Quoted as starts_quoted, Variable as starts_variable, Paren as starts_paren, Context as starts_context, Call as starts_call, Computed as starts_computed, Constructed as starts_constructed, PiConstructed as starts_pi_constructed, Enclosing as starts_enclosing, ItemType as starts_item_type, EmptyType as starts_empty_type, StartTagOpen as starts_start_tag_open, ChildTagOpen as starts_child_tag_open, Chars as starts_chars, EnclosedOpen as starts_enclosed_open, FullTag as starts_full_tag, EmptyTag as starts_empty_tag, Nothing as starts_nothing}
use Rattle.expr_terms.specs.Choices.{choose, starter_of, in_more_steps}
use Rattle.expr_keys.specs.Classes.{fits}
use Rattle.expr_terms.specs.Productions.{body, repeats, speaks, passes}
use Rattle.expr_terms.specs.Raws.{build}
use Rattle.expr_grammar.specs.Machine.{Frame, doing, entered, picked, descend, deep, through, along, advance}
use Rattle.expr_reader.specs.View.{frame_of, frames_of, with_value}
use Rattle.std.proofs.Math.Seq.{take-suc, take-length}
use Rattle.expr_reader.specs.declared.frames.Frame.{Frame as Open}
use Rattle.expr_reader.proofs.ViewLemmas.{descend-more, frames_of-append}
use Rattle.expr_reader.proofs.ClimbLemmas.{advance_through}

wrong : {P : Type 0} → false ≡ true → P
wrong e = cc

some_depth : 0 < deep
unfolding deep
some_depth = omega arith

-- a production whose first part is a token that does not fit
never_picked : (go : Nonterminal → List Frame → Option (List Frame)) (l : Language) (t : Token) (fs : List Frame) (p : Production) (c : Class) (ss : List Symbol) → body p ≡ tok c ∷ ss → fits c t ≡ false → picked go l t fs (Some p) ≡ None
never_picked go l t fs p c ss e f = at (speaks l p)
  where
    entered_not : entered go t p (body p) fs ≡ None
    entered_not = rw (e, f) refl

    at : (b : Bool) → cond b (entered go t p (body p) fs) None ≡ None
    at true = entered_not
    at false = refl

refused : (l : Language) (n : Nonterminal) (t : Token) (s : Second) (fs : List Frame) (p : Production) (c : Class) (ss : List Symbol) → choose n t s ≡ Some p → body p ≡ tok c ∷ ss → fits c t ≡ false → descend l deep n t s fs ≡ None
refused l n t s fs p c ss h e f = descend-more deep l n t s fs some_depth ∙ ap (λ o. picked (λ m gs. descend l (deep - 1) m t s gs) l t fs o) h ∙ never_picked (λ m gs. descend l (deep - 1) m t s gs) l t fs p c ss e f

pub refuses-tail : (v : Level) (t : Token) (c : Class) (ss : List Symbol) → drop 0 (body (operator_tail v)) ≡ tok c ∷ ss → fits c t ≡ false → (l : Language) (s : Second) (fs : List Frame) → descend l deep (tail v) t s fs ≡ None
refuses-tail v t c ss e f = λ l s fs. refused l (tail v) t s fs (operator_tail v) c ss refl e f

pub refuses-comma : (t : Token) → fits (key comma) t ≡ false → (l : Language) (s : Second) (fs : List Frame) → descend l deep comma_expr_single t s fs ≡ None
refuses-comma t f = λ l s fs. refused l comma_expr_single t s fs next_expr_single (key comma) _ refl refl f

pub refuses-predicate : (t : Token) → fits (key open_bracket) t ≡ false → (l : Language) (s : Second) (fs : List Frame) → descend l deep predicate t s fs ≡ None
refuses-predicate t f = λ l s fs. refused l predicate t s fs predicated (key open_bracket) _ refl refl f

more_refused : (go : Nonterminal → List Frame → Option (List Frame)) (l : Language) (t : Token) (fs : List Frame) (x : Starter) → fits (key slash) t ≡ false → fits (key slashes) t ≡ false → picked go l t fs (in_more_steps x) ≡ None
more_refused go l t fs starts_conditional f g = never_picked go l t fs deep_after (key slashes) _ refl g
more_refused go l t fs starts_looping f g = never_picked go l t fs deep_after (key slashes) _ refl g
more_refused go l t fs starts_letting f g = never_picked go l t fs deep_after (key slashes) _ refl g
more_refused go l t fs starts_quantifying f g = never_picked go l t fs deep_after (key slashes) _ refl g
more_refused go l t fs starts_signing f g = never_picked go l t fs deep_after (key slashes) _ refl g
more_refused go l t fs starts_slashing f g = never_picked go l t fs step_after (key slash) _ refl f
more_refused go l t fs starts_slashing_deep f g = never_picked go l t fs deep_after (key slashes) _ refl g
more_refused go l t fs starts_axis f g = never_picked go l t fs deep_after (key slashes) _ refl g
more_refused go l t fs starts_at f g = never_picked go l t fs deep_after (key slashes) _ refl g
more_refused go l t fs starts_parent f g = never_picked go l t fs deep_after (key slashes) _ refl g
more_refused go l t fs starts_plain_kind f g = never_picked go l t fs deep_after (key slashes) _ refl g
more_refused go l t fs starts_pi_kind f g = never_picked go l t fs deep_after (key slashes) _ refl g
more_refused go l t fs starts_named_kind f g = never_picked go l t fs deep_after (key slashes) _ refl g
more_refused go l t fs starts_named f g = never_picked go l t fs deep_after (key slashes) _ refl g
more_refused go l t fs starts_wild f g = never_picked go l t fs deep_after (key slashes) _ refl g
more_refused go l t fs starts_digits f g = never_picked go l t fs deep_after (key slashes) _ refl g
more_refused go l t fs starts_quoted f g = never_picked go l t fs deep_after (key slashes) _ refl g
more_refused go l t fs starts_variable f g = never_picked go l t fs deep_after (key slashes) _ refl g
more_refused go l t fs starts_paren f g = never_picked go l t fs deep_after (key slashes) _ refl g
more_refused go l t fs starts_context f g = never_picked go l t fs deep_after (key slashes) _ refl g
more_refused go l t fs starts_call f g = never_picked go l t fs deep_after (key slashes) _ refl g
more_refused go l t fs starts_computed f g = never_picked go l t fs deep_after (key slashes) _ refl g
more_refused go l t fs starts_constructed f g = never_picked go l t fs deep_after (key slashes) _ refl g
more_refused go l t fs starts_pi_constructed f g = never_picked go l t fs deep_after (key slashes) _ refl g
more_refused go l t fs starts_enclosing f g = never_picked go l t fs deep_after (key slashes) _ refl g
more_refused go l t fs starts_item_type f g = never_picked go l t fs deep_after (key slashes) _ refl g
more_refused go l t fs starts_empty_type f g = never_picked go l t fs deep_after (key slashes) _ refl g
more_refused go l t fs starts_start_tag_open f g = never_picked go l t fs deep_after (key slashes) _ refl g
more_refused go l t fs starts_child_tag_open f g = never_picked go l t fs deep_after (key slashes) _ refl g
more_refused go l t fs starts_chars f g = never_picked go l t fs deep_after (key slashes) _ refl g
more_refused go l t fs starts_enclosed_open f g = never_picked go l t fs deep_after (key slashes) _ refl g
more_refused go l t fs starts_full_tag f g = never_picked go l t fs deep_after (key slashes) _ refl g
more_refused go l t fs starts_empty_tag f g = never_picked go l t fs deep_after (key slashes) _ refl g
more_refused go l t fs starts_nothing f g = never_picked go l t fs deep_after (key slashes) _ refl g

pub refuses-step : (t : Token) → fits (key slash) t ≡ false → fits (key slashes) t ≡ false → (l : Language) (s : Second) (fs : List Frame) → descend l deep step_more t s fs ≡ None
refuses-step t f g = λ l s fs. descend-more deep l step_more t s fs some_depth ∙ more_refused (λ m gs. descend l (deep - 1) m t s gs) l t fs (starter_of t s) f g

pub ruleset refusals = (refuses-tail, refuses-comma, refuses-predicate, refuses-step)

-- .. the parts that are left
pub stops-none : (l : Language) (t : Token) (s : Second) (p : Production) (vs : List Raw) (fs : List Frame) (ss : List Symbol) → ss ≡ [] → along l t s p vs fs ss ≡ through
stops-none l t s p vs fs ss e = rw e refl

pub stops-maybe : (l : Language) (t : Token) (s : Second) (p : Production) (vs : List Raw) (fs : List Frame) (ss rest : List Symbol) (n : Nonterminal) → ss ≡ maybe n ∷ rest → rest ≡ [] → ((l : Language) (s : Second) (fs : List Frame) → descend l deep n t s fs ≡ None) → along l t s p vs fs ss ≡ through
stops-maybe l t s p vs fs ss rest n e r h = rw (e, r, h l s (doing p vs [] ∷ fs)) refl

pub stops-many : (l : Language) (t : Token) (s : Second) (p : Production) (vs : List Raw) (fs : List Frame) (ss rest : List Symbol) (n : Nonterminal) → ss ≡ many n ∷ rest → rest ≡ [] → ((l : Language) (s : Second) (fs : List Frame) → descend l deep n t s fs ≡ None) → along l t s p vs fs ss ≡ through
stops-many l t s p vs fs ss rest n e r h = rw (e, r, h l s (doing p vs (many n ∷ []) ∷ fs)) refl

pub ruleset stops = (stops-none, stops-maybe, stops-many)

-- a production that adds nothing to its only part
build-passes : (p : Production) (v : Raw) → passes p ≡ true → build p (v ∷ []) ≡ v
build-passes whole_expr v e = refl
build-passes whole_sequence_type v e = refl
build-passes expr_list v e = refl
build-passes next_expr_single v e = refl
build-passes operator_expr v e = refl
build-passes following_clause v e = refl
build-passes next_for_binding v e = refl
build-passes next_let_binding v e = refl
build-passes next_quantified_binding v e = refl
build-passes next_order_spec v e = refl
build-passes order_direction v e = refl
build-passes (operator_chain l) v e = refl
build-passes unsigned v e = refl
build-passes rooted v e = refl
build-passes unrooted v e = refl
build-passes steps v e = refl
build-passes filter_step v e = refl
build-passes predicated v e = refl
build-passes name_tested v e = refl
build-passes kind_tested v e = refl
build-passes pi_named v e = refl
build-passes kind_named v e = refl
build-passes direct_constructor v e = refl
build-passes items_type v e = refl
build-passes occurrence_mark v e = refl
build-passes kind_item v e = refl
build-passes atomic_item v e = refl
build-passes part_chars v e = refl
build-passes item_chars v e = refl
build-passes _ v e = wrong e

pub passed : (l : Language) (t : Token) (s : Second) (v : Raw) (fs : List Frame) (p : Production) (vs : List Raw) (ss : List Symbol) → vs ≡ [] → passes p ≡ true → ((l : Language) (s : Second) (us : List Raw) (gs : List Frame) → along l t s p us gs ss ≡ through) → advance l t s (with_value v (doing p vs ss ∷ fs)) ≡ advance l t s (with_value v fs)
passed l t s v fs p vs ss n e h = rw n (advance_through l t s fs p (v ∷ []) ss (h l s (v ∷ []) fs) ∙ ap (λ x. advance l t s (with_value x fs)) (build-passes p v e))

through_tail : (b : Bool) (v : Level) (l : Language) (t : Token) (s : Second) (p : Production) (vs : List Raw) (fs : List Frame) → ((l : Language) (s : Second) (fs : List Frame) → descend l deep (tail v) t s fs ≡ None) → along l t s p vs fs ((if b then many (tail v) else maybe (tail v)) ∷ []) ≡ through
through_tail true v l t s p vs fs h = stops-many l t s p vs fs _ _ (tail v) refl refl h
through_tail false v l t s p vs fs h = stops-maybe l t s p vs fs _ _ (tail v) refl refl h

-- .. a level of operators whose operator the token is not
pub passed_level : (t : Token) (v : Level) (f : Open) → f.production ≡ operator_chain v → f.place ≡ 1 → f.kids.items ≡ [] → ((l : Language) (s : Second) (fs : List Frame) → descend l deep (tail v) t s fs ≡ None) → (l : Language) (s : Second) (u : Raw) (fs : List Frame) → advance l t s (with_value u (frame_of f ∷ fs)) ≡ advance l t s (with_value u fs)
passed_level t v f p n k h l s u fs = rw (p, n) (passed l t s u fs (operator_chain v) f.kids.items (drop 1 (body (operator_chain v))) k refl (λ i r us gs. through_tail (repeats v) v i t r (operator_chain v) us gs h))

pub ruleset passings = (passed)

-- .. and the one on top of those that are left
pub passed_at : (t : Token) (all : List Open) (n : ℕ) (f : Open) → 0 < n → n ≤ length all → f ≡ get_or all (n - 1) f
    → ((l : Language) (s : Second) (v : Raw) (fs : List Frame) → advance l t s (with_value v (frame_of f ∷ fs)) ≡ advance l t s (with_value v fs))
    → ((l : Language) (s : Second) (v : Raw) → advance l t s (with_value v (frames_of all)) ≡ advance l t s (with_value v (frames_of (take n all))))
    → (l : Language) (s : Second) (v : Raw) → advance l t s (with_value v (frames_of all)) ≡ advance l t s (with_value v (frames_of (take (n - 1) all)))
passed_at t all zero f h b e p i = absurd (omega arith)
passed_at t all (suc n) f h b e p i = λ l s v.
    let one_less : suc n - 1 ≡ n = omega arith in
    let whole_expr : take (suc n) all ≡ take n all ++ f ∷ [] = take-suc all n f (omega arith) ∙ ap (λ x. take n all ++ x ∷ []) (sym (rw one_less at e)) in
    rw one_less (i l s v ∙ ap (λ x. advance l t s (with_value v (frames_of x))) whole_expr ∙ ap (λ x. advance l t s (with_value v x)) (frames_of-append (take n all) f) ∙ p l s v (frames_of (take n all)))

pub all_left : (t : Token) (all : List Open) (l : Language) (s : Second) (v : Raw) → advance l t s (with_value v (frames_of all)) ≡ advance l t s (with_value v (frames_of (take (length all) all)))
all_left t all l s v = ap (λ x. advance l t s (with_value v (frames_of x))) (sym (take-length all))

pub ruleset counts = (all_left)
