-- Each step keeps the queries that the tokens can still complete.
use Rattle.std.proofs.Common.{◌≡◌, Bool, true, false, cond}
use Rattle.std.proofs.Common.{List, [], ◌∷◌, ◌++◌, append_assoc, append-nil, refl, sym, ◌∙◌, ap}
use Rattle.std.proofs.Common.{subst}
use Rattle.std.proofs.Common.{Option, Some, None, option_map, option_and_then}
use Rattle.std.proofs.lemmas.Bool.{and_parts}
use Rattle.std.proofs.lemmas.Option.{none-some, same_Some}
use Rattle.expr_keys.specs.declared.keys.Key.{Key}
use Rattle.expr_keys.specs.declared.keys.Key.TheVariants as key
use Rattle.expr_keys.specs.declared.tokens.Token.{Token}
use Rattle.expr_keys.specs.declared.tokens.Token.TheVariants as token
use Rattle.expr_terms.specs.declared.raws.Raw.{Raw}
use Rattle.expr_terms.specs.declared.choices.Second.{Second}
use Rattle.expr_keys.specs.declared.productions.Language.TheVariants.{Xquery as xquery}
use Rattle.expr_keys.specs.declared.productions.Production.TheVariants.{WholeExpr as whole_expr}
use Rattle.expr_keys.specs.declared.productions.Nonterminal.TheVariants.{ExprSingle as expr_single}
use Rattle.expr_keys.specs.Tokens.{fits_key}
use Rattle.expr_terms.specs.Choices.{second_of}
use Rattle.expr_grammar.specs.Grammar.{Derives, Spells}
use Rattle.expr_grammar.specs.Machine.{Frame, advance, finish, start}
use Rattle.expr_grammar.proofs.Residue as residue
use Rattle.expr_grammar.proofs.Run.{run_finds, run_found}
use Rattle.expr_grammar.proofs.Tables.{is_key}
use Rattle.query_grammar.specs.QueryPlaces.Places.{start_single}
use Rattle.query_grammar.proofs.QueryPlaces.Ends as ends
use Rattle.query_grammar.specs.declared.declared.Opening.{Opening}
use Rattle.query_grammar.specs.declared.declared.Opening.TheVariants as opening
use Rattle.query_grammar.specs.declared.declared.Typed.{Typed}
use Rattle.query_grammar.specs.declared.declared.Declared.{Declared}
use Rattle.query_grammar.specs.declared.declared.Declared.TheVariants as declared
use Rattle.query_grammar.specs.Words.{opening_of, may_open}
use Rattle.query_grammar.specs.Heads.{short_of}
use Rattle.query_grammar.specs.Prolog.{Cut, here, there, IsTyped, IsSignature, IsBehind, short}
use Rattle.query_grammar.specs.Prolog.{outside, valued, defined, IsDeclaration, opened, IsQuery}
use Rattle.query_grammar.specs.Prolog.{body, declares}
use Rattle.query_grammar.specs.Machine as machine
use Rattle.query_grammar.specs.declared.declared.Signature.{Signature}
use Rattle.query_grammar.specs.Machine.{Mode, Turn, function_of, is_head, step}
use Rattle.query_grammar.specs.Machine.{to_mode}
use Rattle.query_grammar.specs.Machine.{to_end, to_value, to_inner, to_closed, typed_of}
use Rattle.query_grammar.specs.Machine.{value_start}
use Rattle.query_grammar.specs.Machine.{inner_start, signature_of, whole_of, held_step, head_step}
use Rattle.query_grammar.specs.Machine.{inner_step, outside_of, signature}
use Rattle.query_grammar.proofs.Tokens.{heads}
use Rattle.query_grammar.proofs.Cuts.{cut_at, cut_is, same_cut, no_heads}
use Rattle.query_grammar.proofs.HeadLemmas.{typed_found, typed_is, typed_heads, signature_found}
use Rattle.query_grammar.proofs.HeadLemmas.{signature_is, signature_heads, outside_found}
use Rattle.query_grammar.proofs.HeadLemmas.{outside_is}
use Rattle.query_grammar.proofs.HeadLemmas.{outside_heads, short_heads}
use Rattle.query_grammar.proofs.Residue.{Ready, sound, ready_on, ready_top, ready_single, spelled}
use Rattle.query_grammar.proofs.Residue.{spells, alone_rest, rest_alone, stepped}
use Rattle.query_grammar.proofs.Residue.{second_semicolon}
use Rattle.query_grammar.proofs.Residue.{second_brace, Declares, Valued, Defined, Shut, Rest}
use Rattle.query_grammar.proofs.Residue.{Valid}
use Rattle.query_grammar.proofs.Residue.{unopened, no_names}
use Rattle.xt_names.proofs.BoolLemmas.{never, and_both}

-- a declaration, and a query after it
pub record Ended (d : Declared) (ts : List Token) (ds : List Declared) (v : Raw) : Type 0 where
  pub rest : List Declared
  pub are : ds ≡ d ∷ rest
  pub query : IsQuery ts rest v

abbrev pub Steps : Mode → Token → List Token → Turn → Type 0
Steps m t ts machine.refused = (ds : List Declared) (v : Raw) → Rest m (t ∷ ts) ds v → ⊥
Steps m t ts (machine.onto n) =
    ((ds : List Declared) (v : Raw) → Rest m (t ∷ ts) ds v → Rest n ts ds v)
    × ((ds : List Declared) (v : Raw) → Rest n ts ds v → Rest m (t ∷ ts) ds v) × Valid n ts
Steps m t ts (machine.ends d) =
    ((ds : List Declared) (v : Raw) → Rest m (t ∷ ts) ds v → Ended d ts ds v)
    × ((ds : List Declared) (v : Raw) → Ended d ts ds v → Rest m (t ∷ ts) ds v)

-- the same of a mode with the same rests
via : (m n : Mode) (t : Token) (ts : List Token) (u : Turn)
    → ((ds : List Declared) (v : Raw) → Rest m (t ∷ ts) ds v → Rest n (t ∷ ts) ds v)
    → ((ds : List Declared) (v : Raw) → Rest n (t ∷ ts) ds v → Rest m (t ∷ ts) ds v)
    → Steps n t ts u → Steps m t ts u
via m n t ts machine.refused f g s = λ ds v r. s ds v (f ds v r)
via m n t ts (machine.onto x) f g s =
    ((λ ds v r. s.0 ds v (f ds v r)), (λ ds v r. g ds v (s.1 ds v r)), s.2)
via m n t ts (machine.ends d) f g s =
    ((λ ds v r. s.0 ds v (f ds v r)), (λ ds v r. g ds v (s.1 ds v r)))

-- in the body
body_steps : (t : Token) (ts : List Token) (fs : List Frame) (o : Option (List Frame)) → Ready fs
    → advance xquery t (second_of ts) fs ≡ o → Steps (machine.body fs) t ts
    (to_mode machine.body o)
body_steps t ts fs None r e = λ ds v x. stepped v t ts None r e x.1
body_steps t ts fs (Some gs) r e = (
  (λ ds v x. (x.0, (stepped v t ts (Some gs) r e).0 x.1)),
  (λ ds v x. (x.0, (stepped v t ts (Some gs) r e).1 x.1)),
  ready_on t ts r e,
)

-- no declaration begins here
as_body : (all : List Token) (ds : List Declared) (v : Raw)
    → ((more us : List Token) (d : Declared) → Cut (token.Key key.Semicolon) more all us
    → IsDeclaration us d → ⊥)
    → IsQuery all ds v → Rest (machine.body (start whole_expr)) all ds v
as_body all ds v h (body s) = (refl, spelled s)
as_body all ds v h (declares {us = us} {more = more} {d = d} c i q) = absurd (h more us d c i)

from_body : (all : List Token) (ds : List Declared) (v : Raw)
    → Rest (machine.body (start whole_expr)) all ds v → IsQuery all ds v
from_body all ds v r = subst (λ x. IsQuery all x v) (sym r.0) (body (spells r.1))

unopened_at : (t : Token) (ts : List Token) → may_open t ≡ false → (more us : List Token)
    (d : Declared) → Cut (token.Key key.Semicolon) more (t ∷ ts) us → IsDeclaration us d → ⊥
unopened_at t ts e more us d here i = elim i [ ]
unopened_at t ts e more us d (there c) (opened {b = b} f i) =
    none-some _ (sym (unopened t b e) ∙ f)

unopened_by : (a t : Token) (ts : List Token) → opening_of a t ≡ None → (more us : List Token)
    (d : Declared) → Cut (token.Key key.Semicolon) more (a ∷ t ∷ ts) us → IsDeclaration us d → ⊥
unopened_by a t ts e more us d here i = elim i [ ]
unopened_by a t ts e more us d (there here) i = elim i [ ]
unopened_by a t ts e more us d (there (there c)) (opened f i) = none-some _ (sym e ∙ f)

front_steps : (t : Token) (ts : List Token) (b : Bool) → may_open t ≡ b
    → Steps machine.front t ts (cond b (machine.onto (machine.held t (second_of ts)))
    (to_mode machine.body (advance xquery t (second_of ts) (start whole_expr))))
front_steps t ts true e = ((λ ds v r. r), (λ ds v r. r), (refl, e))
front_steps t ts false e =
    via machine.front (machine.body (start whole_expr)) t ts _
    (λ ds v r. as_body (t ∷ ts) ds v (unopened_at t ts e) r)
    (λ ds v r. from_body (t ∷ ts) ds v r)
    (body_steps t ts (start whole_expr) (advance xquery t (second_of ts) (start whole_expr)) ready_top refl)

-- after a word that may open a declaration
opening_by : (a t : Token) (ts more us : List Token) (o : Opening) (d : Declared)
    (rest : List Declared) (v : Raw) → opening_of a t ≡ Some o → IsQuery more rest v
    → Cut (token.Key key.Semicolon) more (a ∷ t ∷ ts) us → IsDeclaration us d
    → Rest (machine.head o []) ts (d ∷ rest) v
opening_by a t ts more us o d rest v e q here i = elim i [ ]
opening_by a t ts more us o d rest v e q (there here) i = elim i [ ]
opening_by a t ts more us o d rest v e q (there (there {us = vs} c)) (opened {o = p} f i) =
    record {
      seg = vs;
      more = more;
      first = d;
      rest = rest;
      cut = c;
      are = refl;
      query = q;
      is =
          subst (λ x. IsBehind x vs d) (same_Some _ _ (sym f ∙ e)) i;
    }

opening_cut : (a t : Token) (ts : List Token) (o : Opening) → opening_of a t ≡ Some o
    → (ds : List Declared) (v : Raw) → IsQuery (a ∷ t ∷ ts) ds v
    → Rest (machine.head o []) ts ds v
opening_cut a t ts o e ds v (body s) = absurd (no_names a t ts o v e s)
opening_cut a t ts o e ds v (declares {us = us} {more = more} {d = d} {ds = rest} c i q) =
    opening_by a t ts more us o d rest v e q c i

opening_back : (a t : Token) (ts : List Token) (o : Opening) → opening_of a t ≡ Some o
    → (ds : List Declared) (v : Raw) → Rest (machine.head o []) ts ds v → IsQuery
    (a ∷ t ∷ ts) ds v
opening_back a t ts o e ds v r =
    subst (λ x. IsQuery (a ∷ t ∷ ts) x v) (sym r.are)
    (declares (there (there r.cut)) (opened e r.is) r.query)

held_body : (a t : Token) (ts : List Token) (r : Second) (o : Option (List Frame))
    → r ≡ second_of (t ∷ ts) → opening_of a t ≡ None → advance xquery a r (start whole_expr) ≡ o
    → Steps (machine.held a r) t ts
    (to_mode machine.body (option_and_then (advance xquery t (second_of ts)) o))
held_body a t ts r None e f g =
    let h = ap (λ x. advance xquery a x (start whole_expr)) (sym e) ∙ g in
    λ ds v q. let b = as_body (a ∷ t ∷ ts) ds v (unopened_by a t ts f) q in
    stepped v a (t ∷ ts) None ready_top h b.1
held_body a t ts r (Some gs) e f g =
    let h = ap (λ x. advance xquery a x (start whole_expr)) (sym e) ∙ g in
    via (machine.held a r) (machine.body gs) t ts _
    (λ ds v q. let b = as_body (a ∷ t ∷ ts) ds v (unopened_by a t ts f) q in
    (b.0, (stepped v a (t ∷ ts) (Some gs) ready_top h).0 b.1))
    (λ ds v q. from_body (a ∷ t ∷ ts) ds v
    (q.0, (stepped v a (t ∷ ts) (Some gs) ready_top h).1 q.1))
    (body_steps t ts gs (advance xquery t (second_of ts) gs)
    (ready_on a (t ∷ ts) ready_top h) refl)

held_steps : (a t : Token) (ts : List Token) (r : Second) (o : Option Opening)
    → r ≡ second_of (t ∷ ts) → opening_of a t ≡ o
    → Steps (machine.held a r) t ts (held_step a r t (second_of ts) o)
held_steps a t ts r None e f =
    held_body a t ts r (advance xquery a r (start whole_expr)) e f refl
held_steps a t ts r (Some o) e f =
    ((λ ds v q. opening_cut a t ts o f ds v q), (λ ds v q. opening_back a t ts o f ds v q), refl)

-- what may follow the tokens of a head
data Beyond : Opening → List Token → Token → List Token → Declared → Type 0 where
  a_value : {us seg : List Token} {n : Typed} {w : Raw} → IsTyped us n
      → Derives xquery expr_single seg w []
      → Beyond opening.Variable us (token.Key key.Assign) seg (declared.Variable n (Some w))
  a_body : {us seg ts : List Token} {q : Token} {ps : List Typed} {k : Option Raw} {w : Raw}
      → IsSignature us q ps k → Cut (token.Key key.CloseBrace) [] seg ts → Spells xquery ts w
      → Beyond opening.Function us (token.Key key.OpenBrace) seg (declared.Function q ps k w)

not_in : (us : List Token) (t : Token) (seg all : List Token) {P : Type 0} → all ≡ us ++ t ∷ seg
    → is_head t ≡ false → heads all ≡ true → P
not_in us t seg all e f h = absurd (no_heads us t seg f (subst (λ x. heads x ≡ true) e h))

beyond : (us : List Token) (t : Token) (seg : List Token) {o : Opening} {all : List Token}
    {d : Declared} → heads us ≡ true → is_head t ≡ false → all ≡ us ++ t ∷ seg → IsBehind o all d
    → Beyond o us t seg d
beyond us t seg h f e (short {o = o} {d = d} s) =
    not_in us t seg _ e f (short_heads o _ d s)
beyond us t seg h f e (outside c i x) = not_in us t seg _ e f (outside_heads c i x)
beyond us t seg h f e (valued {hd = hd} {ts = ts} {v = n} {w = w} c i d) =
    let cut : Cut (token.Key key.Assign) ts (us ++ t ∷ seg) hd =
    subst (λ x. Cut (token.Key key.Assign) ts x hd) e c in
    let s = same_cut us h (typed_heads i) f refl cut in
    let j = subst (λ x. IsTyped x n) s.heads_are i in
    let k = subst (λ x. Derives xquery expr_single x w []) s.rest_is d in
    subst (λ x. Beyond opening.Variable us x seg (declared.Variable n (Some w))) s.tokens_are
    (a_value j k)
beyond us t seg h f e (defined {hd = hd} {inside = all} {ts = ts} {q = q} {ps = ps} {k = k} {w =
    w} c i x y) =
    let cut : Cut (token.Key key.OpenBrace) all (us ++ t ∷ seg) hd =
    subst (λ z. Cut (token.Key key.OpenBrace) all z hd) e c in
    let s = same_cut us h (signature_heads i) f refl cut in
    let j = subst (λ z. IsSignature z q ps k) s.heads_are i in
    let l = subst (λ z. Cut (token.Key key.CloseBrace) [] z ts) s.rest_is x in
    subst (λ z. Beyond opening.Function us z seg (declared.Function q ps k w)) s.tokens_are
    (a_body j l y)

within : {o : Opening} {us : List Token} {t : Token} {seg : List Token} {d : Declared}
    → Beyond o us t seg d → IsBehind o (us ++ t ∷ seg) d
within (a_value {us = us} {seg = seg} i d) = valued (cut_at us (token.Key key.Assign) seg) i d
within (a_body {us = us} {seg = seg} i c s) =
    defined (cut_at us (token.Key key.OpenBrace) seg) i c s

-- a head that goes on
heads_with : (us : List Token) (t : Token) → heads us ≡ true → is_head t ≡ true
    → heads (us ++ t ∷ []) ≡ true
heads_with [] t h e = and_both _ _ e refl
heads_with (u ∷ us) t h e =
    let p = and_parts (is_head u) (heads us) h in and_both _ _ p.0 (heads_with us t p.1 e)

-- A token within a declaration: what it is after it is told by `f` and `g`.
shifted : (P Q : List Token → Declared → Type 0) (t : Token) (ts more seg : List Token)
    (d : Declared) (ds rest : List Declared) (v : Raw)
    → (t ≡ token.Key key.Semicolon → (d : Declared) → P [] d → ⊥)
    → ((more seg : List Token) (d : Declared) → Cut (token.Key key.Semicolon) more ts seg
    → P (t ∷ seg) d → Q seg d)
    → ds ≡ d ∷ rest → IsQuery more rest v → Cut (token.Key key.Semicolon) more (t ∷ ts) seg
    → P seg d → Declares Q ts ds v
shifted P Q t ts more seg d ds rest v h f e q here i = absurd (h refl d i)
shifted P Q t ts more seg d ds rest v h f e q (there {us = us} c) i =
    record {
      seg = us;
      more = more;
      first = d;
      rest = rest;
      cut = c;
      is = f more us d c i;
      are = e;
      query = q;
    }

shift : (P Q : List Token → Declared → Type 0) (t : Token) (ts : List Token) (ds : List Declared)
    (v : Raw) → (t ≡ token.Key key.Semicolon → (d : Declared) → P [] d → ⊥)
    → ((more seg : List Token) (d : Declared) → Cut (token.Key key.Semicolon) more ts seg
    → P (t ∷ seg) d → Q seg d)
    → Declares P (t ∷ ts) ds v → Declares Q ts ds v
shift P Q t ts ds v h f r =
    shifted P Q t ts r.more r.seg r.first ds r.rest v h f r.are r.query r.cut r.is

shift_back : (P Q : List Token → Declared → Type 0) (t : Token) (ts : List Token)
    (ds : List Declared) (v : Raw)
    → ((more seg : List Token) (d : Declared) → Cut (token.Key key.Semicolon) more ts seg
    → Q seg d → P (t ∷ seg) d)
    → Declares Q ts ds v → Declares P (t ∷ ts) ds v
shift_back P Q t ts ds v f r =
    record {
      seg = t ∷ r.seg;
      more = r.more;
      first = r.first;
      rest = r.rest;
      cut = there r.cut;
      is = f r.more r.seg r.first r.cut r.is;
      are = r.are;
      query = r.query;
    }

-- no declaration has the token there
blocked : (P : List Token → Declared → Type 0) (t : Token) (ts more seg : List Token)
    (d : Declared) → (t ≡ token.Key key.Semicolon → (d : Declared) → P [] d → ⊥)
    → ((more seg : List Token) (d : Declared) → Cut (token.Key key.Semicolon) more ts seg
    → P (t ∷ seg) d → ⊥)
    → Cut (token.Key key.Semicolon) more (t ∷ ts) seg → P seg d → ⊥
blocked P t ts more seg d h f here i = h refl d i
blocked P t ts more seg d h f (there {us = us} c) i = f more us d c i

block : (P : List Token → Declared → Type 0) (t : Token) (ts : List Token) (ds : List Declared)
    (v : Raw) → (t ≡ token.Key key.Semicolon → (d : Declared) → P [] d → ⊥)
    → ((more seg : List Token) (d : Declared) → Cut (token.Key key.Semicolon) more ts seg
    → P (t ∷ seg) d → ⊥)
    → Declares P (t ∷ ts) ds v → ⊥
block P t ts ds v h f r = blocked P t ts r.more r.seg r.first h f r.cut r.is

-- the semicolon after a declaration
ending : (P : List Token → Declared → Type 0) (ts more seg : List Token) (d e : Declared)
    (ds rest : List Declared) (v : Raw) → ((e : Declared) → P [] e → e ≡ d)
    → ((seg : List Token) (e : Declared) → P (token.Key key.Semicolon ∷ seg) e → ⊥)
    → ds ≡ e ∷ rest → IsQuery more rest v
    → Cut (token.Key key.Semicolon) more (token.Key key.Semicolon ∷ ts) seg → P seg e
    → Ended d ts ds v
ending P ts more seg d e ds rest v h f r q here i =
    record { rest = rest; are = subst (λ x. ds ≡ x ∷ rest) (h e i) r; query = q }
ending P ts more seg d e ds rest v h f r q (there {us = us} c) i = absurd (f us e i)

end_at : (P : List Token → Declared → Type 0) (ts : List Token) (d : Declared)
    (ds : List Declared) (v : Raw) → ((e : Declared) → P [] e → e ≡ d)
    → ((seg : List Token) (e : Declared) → P (token.Key key.Semicolon ∷ seg) e → ⊥)
    → Declares P (token.Key key.Semicolon ∷ ts) ds v → Ended d ts ds v
end_at P ts d ds v h f r =
    ending P ts r.more r.seg d r.first ds r.rest v h f r.are r.query r.cut r.is

end_back : (P : List Token → Declared → Type 0) (ts : List Token) (d : Declared)
    (ds : List Declared) (v : Raw) → P [] d → Ended d ts ds v
    → Declares P (token.Key key.Semicolon ∷ ts) ds v
end_back P ts d ds v i r =
    record {
      seg = [];
      more = ts;
      first = d;
      rest = r.rest;
      cut = here;
      is = i;
      are = r.are;
      query = r.query;
    }

unended : (P : List Token → Declared → Type 0) (ts more seg : List Token) (e : Declared)
    → ((e : Declared) → P [] e → ⊥)
    → ((seg : List Token) (e : Declared) → P (token.Key key.Semicolon ∷ seg) e → ⊥)
    → Cut (token.Key key.Semicolon) more (token.Key key.Semicolon ∷ ts) seg → P seg e → ⊥
unended P ts more seg e h f here i = h e i
unended P ts more seg e h f (there {us = us} c) i = f us e i

no_end : (P : List Token → Declared → Type 0) (ts : List Token) (ds : List Declared) (v : Raw)
    → ((e : Declared) → P [] e → ⊥)
    → ((seg : List Token) (e : Declared) → P (token.Key key.Semicolon ∷ seg) e → ⊥)
    → Declares P (token.Key key.Semicolon ∷ ts) ds v → ⊥
no_end P ts ds v h f r = unended P ts r.more r.seg r.first h f r.cut r.is

-- the tokens of a head
abbrev Head : Opening → List Token → List Token → Declared → Type 0
Head o us seg d = IsBehind o (us ++ seg) d

no_semicolon : (t : Token) {P : Type 0} → fits_key key.Semicolon t ≡ false
    → t ≡ token.Key key.Semicolon → P
no_semicolon t e f = never (sym e ∙ ap (fits_key key.Semicolon) f)

more_head : (o : Opening) (us : List Token) (t : Token) (ts : List Token) → heads us ≡ true
    → is_head t ≡ true
    → Steps (machine.head o us) t ts (machine.onto (machine.head o (us ++ t ∷ [])))
more_head o us t ts h e = (
  (λ ds v r. shift (Head o us) (Head o (us ++ t ∷ [])) t ts ds v
      (λ f d i. never (sym (ap is_head f) ∙ e))
      (λ more seg d c i. subst (λ x. IsBehind o x d) (sym (append_assoc us (t ∷ []) seg)) i) r),
  (λ ds v r. shift_back (Head o us) (Head o (us ++ t ∷ [])) t ts ds v
      (λ more seg d c i. subst (λ x. IsBehind o x d) (append_assoc us (t ∷ []) seg) i) r),
  heads_with us t h e,
)

-- a declaration without an expression
whole_is : (o : Opening) (us : List Token) (d : Declared) → whole_of o us ≡ Some d
    → IsBehind o us d
whole_is opening.Variable us d e = outside_is us d e
whole_is opening.Function us d e = absurd (none-some _ e)
whole_is o us d e = short e

cut_of_heads : {t : Token} {rest all us : List Token} → Cut t rest all us → is_head t ≡ false
    → heads all ≡ true → ⊥
cut_of_heads {t = t} {rest = rest} {all = all} {us = us} c f h =
    no_heads us t rest f (subst (λ x. heads x ≡ true) (cut_is c) h)

whole_short : (o : Opening) (us : List Token) (d : Declared) → short_of o us ≡ Some d
    → whole_of o us ≡ Some d
whole_short opening.Variable us d e = absurd (none-some _ e)
whole_short opening.Function us d e = e
whole_short o us d e = e

whole_found : {o : Opening} {us : List Token} {d : Declared} → heads us ≡ true → IsBehind o us d
    → whole_of o us ≡ Some d
whole_found h (short {o = o} {us = us} {d = d} e) = whole_short o us d e
whole_found h (outside c i x) = outside_found c i x
whole_found h (valued c i d) = absurd (cut_of_heads c refl h)
whole_found h (defined c i x y) = absurd (cut_of_heads c refl h)

nil_behind : (o : Opening) (us : List Token) (d : Declared) → IsBehind o (us ++ []) d
    → IsBehind o us d
nil_behind o us d i = subst (λ x. IsBehind o x d) (append-nil us) i

beyond_semicolon : {o : Opening} {us : List Token} {t : Token} {seg : List Token} {d : Declared}
    → Beyond o us t seg d → t ≡ token.Key key.Semicolon → ⊥
beyond_semicolon (a_value i d) e = never (ap (fits_key key.Semicolon) e)
beyond_semicolon (a_body i c s) e = never (ap (fits_key key.Semicolon) e)

no_semicolon_in : (o : Opening) (us seg : List Token) (d : Declared) → heads us ≡ true
    → IsBehind o (us ++ token.Key key.Semicolon ∷ seg) d → ⊥
no_semicolon_in o us seg d h i =
    beyond_semicolon (beyond us (token.Key key.Semicolon) seg h refl refl i) refl

head_ends : (o : Opening) (us ts : List Token) (x : Option Declared) → heads us ≡ true
    → whole_of o us ≡ x → Steps (machine.head o us) (token.Key key.Semicolon) ts (to_end x)
head_ends o us ts None h e = λ ds v r. no_end (Head o us) ts ds v
    (λ d i. none-some _ (sym e ∙ whole_found h (nil_behind o us d i)))
    (λ seg d i. no_semicolon_in o us seg d h i) r
head_ends o us ts (Some d) h e = (
  (λ ds v r. end_at (Head o us) ts d ds v
      (λ x i. same_Some _ _ (sym (whole_found h (nil_behind o us x i)) ∙ e))
      (λ seg x i. no_semicolon_in o us seg x h i) r),
  (λ ds v r. end_back (Head o us) ts d ds v
      (subst (λ x. IsBehind o x d) (sym (append-nil us)) (whole_is o us d e)) r),
)

-- the value of a variable begins
value_found : {o : Opening} {us seg : List Token} {d : Declared}
    → Beyond o us (token.Key key.Assign) seg d → (n : Typed) → value_start o us ≡ Some n
    → Valued n start_single seg d
value_found (a_value {us = us} {w = w} i x) n e =
    let same = same_Some _ _ (sym (typed_found i) ∙ e) in
    (w, (ap (λ z. declared.Variable z (Some w)) same, alone_rest x))

value_none : {o : Opening} {us seg : List Token} {d : Declared}
    → Beyond o us (token.Key key.Assign) seg d → value_start o us ≡ None → ⊥
value_none (a_value i x) e = none-some _ (sym e ∙ typed_found i)

value_back : (o : Opening) (us seg : List Token) (d : Declared) (n : Typed)
    → value_start o us ≡ Some n → Valued n start_single seg d
    → Beyond o us (token.Key key.Assign) seg d
value_back opening.Variable us seg d n e (w, (f, r)) =
    subst (λ z. Beyond opening.Variable us (token.Key key.Assign) seg z) (sym f)
    (a_value (typed_is us n e) (rest_alone r))
value_back _ us seg d n e x = absurd (none-some _ e)

head_value : (o : Opening) (us ts : List Token) (x : Option Typed) → heads us ≡ true
    → value_start o us ≡ x → Steps (machine.head o us) (token.Key key.Assign) ts (to_value x)
head_value o us ts None h e = λ ds v r. block (Head o us) (token.Key key.Assign) ts ds v
    (λ f d i. no_semicolon (token.Key key.Assign) refl f)
    (λ more seg d c i. value_none (beyond us (token.Key key.Assign) seg h refl refl i) e) r
head_value o us ts (Some n) h e = (
  (λ ds v r. shift (Head o us) (Valued n start_single) (token.Key key.Assign) ts ds v
      (λ f d i. no_semicolon (token.Key key.Assign) refl f)
      (λ more seg d c i. value_found (beyond us (token.Key key.Assign) seg h refl refl i) n e) r),
  (λ ds v r. shift_back (Head o us) (Valued n start_single) (token.Key key.Assign) ts ds v
      (λ more seg d c i. within (value_back o us seg d n e i)) r),
  ready_single,
)

-- the body of a function begins
inner_found : {o : Opening} {us seg : List Token} {d : Declared}
    → Beyond o us (token.Key key.OpenBrace) seg d → (g : Signature) → inner_start o us ≡ Some g
    → Defined g (start whole_expr) seg d
inner_found (a_body {ts = ts} {w = w} i c s) g e =
    let same = same_Some _ _ (sym (signature_found i) ∙ e) in
    record {
      value = w;
      tokens = ts;
      is = ap (λ z. function_of z w) same;
      cut = c;
      rest =
          spelled s;
    }

inner_none : {o : Opening} {us seg : List Token} {d : Declared}
    → Beyond o us (token.Key key.OpenBrace) seg d → inner_start o us ≡ None → ⊥
inner_none (a_body i c s) e = none-some _ (sym e ∙ signature_found i)

inner_back : (o : Opening) (us seg : List Token) (d : Declared) (g : Signature)
    → inner_start o us ≡ Some g → Defined g (start whole_expr) seg d
    → Beyond o us (token.Key key.OpenBrace) seg d
inner_back opening.Function us seg d g e x =
    subst (λ z. Beyond opening.Function us (token.Key key.OpenBrace) seg z) (sym x.is)
    (a_body (signature_is us g e) x.cut (spells x.rest))
inner_back _ us seg d g e x = absurd (none-some _ e)

head_inner : (o : Opening) (us ts : List Token) (x : Option Signature) → heads us ≡ true
    → inner_start o us ≡ x → Steps (machine.head o us) (token.Key key.OpenBrace) ts (to_inner x)
head_inner o us ts None h e = λ ds v r. block (Head o us) (token.Key key.OpenBrace) ts ds v
    (λ f d i. no_semicolon (token.Key key.OpenBrace) refl f)
    (λ more seg d c i. inner_none (beyond us (token.Key key.OpenBrace) seg h refl refl i) e) r
head_inner o us ts (Some g) h e = (
  (λ ds v r. shift (Head o us) (Defined g (start whole_expr)) (token.Key key.OpenBrace) ts ds v
      (λ f d i. no_semicolon (token.Key key.OpenBrace) refl f)
      (λ more seg d c i. inner_found (beyond us
      (token.Key key.OpenBrace) seg h refl refl i) g e) r),
  (λ ds v r. shift_back (Head o us) (Defined g (start whole_expr)) (token.Key key.OpenBrace) ts ds v
      (λ more seg d c i. within (inner_back o us seg d g e i)) r),
  ready_top,
)

-- a token of no declaration
nothing_beyond : {o : Opening} {us : List Token} {t : Token} {seg : List Token} {d : Declared}
    → Beyond o us t seg d → fits_key key.Assign t ≡ false → fits_key key.OpenBrace t ≡ false → ⊥
nothing_beyond (a_value i d) e f = never (sym e)
nothing_beyond (a_body i c s) e f = never (sym f)

head_other : (o : Opening) (us : List Token) (t : Token) (ts : List Token) → heads us ≡ true
    → is_head t ≡ false → fits_key key.Semicolon t ≡ false → fits_key key.Assign t ≡ false
    → fits_key key.OpenBrace t ≡ false → Steps (machine.head o us) t ts machine.refused
head_other o us t ts h e f g i = λ ds v r. block (Head o us) t ts ds v
    (λ x d j. no_semicolon t f x)
    (λ more seg d c j. nothing_beyond (beyond us t seg h e refl j) g i) r

at_key : (m : Mode) (k : Key) (t : Token) (ts : List Token) (u : Turn) → fits_key k t ≡ true
    → Steps m (token.Key k) ts u → Steps m t ts u
at_key m k t ts u e s = subst (λ x. Steps m x ts u) (is_key k t e) s

head_by : (o : Opening) (us : List Token) (t : Token) (ts : List Token) (a b c d : Bool)
    → heads us ≡ true → is_head t ≡ a → fits_key key.Semicolon t ≡ b → fits_key key.Assign t ≡ c
    → fits_key key.OpenBrace t ≡ d
    → Steps (machine.head o us) t ts (cond a (machine.onto (machine.head o (us ++ t ∷ [])))
    (cond b (to_end (whole_of o us)) (cond c (to_value (value_start o us))
    (cond d (to_inner (inner_start o us)) machine.refused))))
head_by o us t ts true b c d h e f g i = more_head o us t ts h e
head_by o us t ts false true c d h e f g i =
    at_key (machine.head o us) key.Semicolon t ts _ f (head_ends o us ts (whole_of o us) h refl)
head_by o us t ts false false true d h e f g i =
    at_key (machine.head o us) key.Assign t ts _ g (head_value o us ts (value_start o us) h refl)
head_by o us t ts false false false true h e f g i =
    at_key (machine.head o us) key.OpenBrace t ts _ i (head_inner o us ts
    (inner_start o us) h refl)
head_by o us t ts false false false false h e f g i = head_other o us t ts h e f g i

-- in the value of a variable
value_ends : (n : Typed) (fs : List Frame) (ts : List Token) (x : Option Raw) → Ready fs
    → finish fs ≡ x → Steps (machine.value n fs) (token.Key key.Semicolon) ts
    (to_end (option_map (λ w. declared.Variable n (Some w)) x))
value_ends n fs ts None r e = λ ds v d. no_end (Valued n fs) ts ds v
    (λ y (w, (f, i)). none-some _ (sym e ∙ run_finds xquery w [] fs (sound r) i))
    (λ seg y (w, (f, i)). stepped w (token.Key key.Semicolon) seg None r
    (ends.parted (second_of seg) fs r.is_start r.reached) i) d
value_ends n fs ts (Some x) r e = (
  (λ ds v d. end_at (Valued n fs) ts (declared.Variable n (Some x)) ds v
      (λ y (w, (f, i)). f ∙ ap (λ z. declared.Variable n (Some z))
      (same_Some _ _ (sym (run_finds xquery w [] fs (sound r) i) ∙ e)))
      (λ seg y (w, (f, i)). stepped w (token.Key key.Semicolon) seg None r
      (ends.parted (second_of seg) fs r.is_start r.reached) i) d),
  (λ ds v d. end_back (Valued n fs) ts (declared.Variable n (Some x)) ds v
      (x, (refl, run_found xquery x [] fs (sound r) e)) d),
)

value_on : (n : Typed) (fs : List Frame) (t : Token) (ts : List Token) (o : Option (List Frame))
    → Ready fs → fits_key key.Semicolon t ≡ false → advance xquery t (second_of ts) fs ≡ o
    → Steps (machine.value n fs) t ts (to_mode (machine.value n) o)
value_on n fs t ts None r f e = λ ds v d. block (Valued n fs) t ts ds v
    (λ x y i. no_semicolon t f x)
    (λ more seg y c (w, (g, i)). stepped w t seg None r
    (subst (λ z. advance xquery t z fs ≡ None) (second_semicolon c) e) i) d
value_on n fs t ts (Some gs) r f e = (
  (λ ds v d. shift (Valued n fs) (Valued n gs) t ts ds v
      (λ x y i. no_semicolon t f x)
      (λ more seg y c (w, (g, i)). (
        w,
        (
          g,
          (stepped w t seg (Some gs) r
              (subst (λ z. advance xquery t z fs ≡ Some gs) (second_semicolon c) e)).0 i,
        ),
      )) d),
  (λ ds v d. shift_back (Valued n fs) (Valued n gs) t ts ds v
      (λ more seg y c (w, (g, i)). (
        w,
        (
          g,
          (stepped w t seg (Some gs) r
              (subst (λ z. advance xquery t z fs ≡ Some gs) (second_semicolon c) e)).1 i,
        ),
      )) d),
  ready_on t ts r e,
)

value_by : (n : Typed) (fs : List Frame) (t : Token) (ts : List Token) (b : Bool) → Ready fs
    → fits_key key.Semicolon t ≡ b → Steps (machine.value n fs) t ts
    (cond b (to_end (option_map (λ w. declared.Variable n (Some w)) (finish fs)))
    (to_mode (machine.value n) (advance xquery t (second_of ts) fs)))
value_by n fs t ts true r e =
    at_key (machine.value n fs) key.Semicolon t ts _ e (value_ends n fs ts (finish fs) r refl)
value_by n fs t ts false r e = value_on n fs t ts _ r e refl

-- in the body of a function
no_body : (q : Signature) (fs : List Frame) (d : Declared) → Defined q fs [] d → ⊥
no_body q fs d x = go x.cut
  where
    go : {us : List Token} → Cut (token.Key key.CloseBrace) [] [] us → ⊥
    go c = elim c [ ]

inner_cut : (q : Signature) (fs gs : List Frame) (t : Token) (ts more seg us : List Token)
    (d : Declared) (w : Raw) → Ready fs → advance xquery t (second_of ts) fs ≡ Some gs
    → Cut (token.Key key.Semicolon) more ts seg → d ≡ function_of q w
    → Cut (token.Key key.CloseBrace) [] (t ∷ seg) us → residue.Rest xquery w fs us
    → Defined q gs seg d
inner_cut q fs gs t ts more seg us d w r e c f here i =
    absurd (none-some _ (sym (ends.closed xquery (second_of ts) fs w
    (run_finds xquery w [] fs (sound r) i)) ∙ e))
inner_cut q fs gs t ts more seg us d w r e c f (there {us = vs} x) i =
    let g = subst (λ z. advance xquery t z fs ≡ Some gs) (second_semicolon c
    ∙ second_brace x) e in
    record { value = w; tokens = vs; is = f; cut = x; rest = (stepped w t vs (Some gs) r g).0 i }

inner_uncut : (q : Signature) (fs gs : List Frame) (t : Token) (ts more seg : List Token)
    (d : Declared) → Ready fs → advance xquery t (second_of ts) fs ≡ Some gs
    → Cut (token.Key key.Semicolon) more ts seg → Defined q gs seg d → Defined q fs (t ∷ seg) d
inner_uncut q fs gs t ts more seg d r e c x =
    let g = subst (λ z. advance xquery t z fs ≡ Some gs) (second_semicolon c
    ∙ second_brace x.cut) e in
    record {
      value = x.value;
      tokens = t ∷ x.tokens;
      is = x.is;
      cut = there x.cut;
      rest = (stepped x.value t x.tokens (Some gs) r g).1 x.rest;
    }

inner_on : (q : Signature) (fs gs : List Frame) (t : Token) (ts : List Token) → Ready fs
    → advance xquery t (second_of ts) fs ≡ Some gs
    → Steps (machine.inner q fs) t ts (machine.onto (machine.inner q gs))
inner_on q fs gs t ts r e = (
  (λ ds v d. shift (Defined q fs) (Defined q gs) t ts ds v
      (λ x y i. no_body q fs y i)
      (λ more seg y c i.
      inner_cut q fs gs t ts more seg i.tokens y i.value r e c i.is i.cut i.rest) d),
  (λ ds v d. shift_back (Defined q fs) (Defined q gs) t ts ds v
      (λ more seg y c i. inner_uncut q fs gs t ts more seg y r e c i) d),
  ready_on t ts r e,
)

-- .. the expression ends here, and so the body
inner_shut : (q : Signature) (fs : List Frame) (t : Token) (ts more seg us : List Token)
    (w : Raw) {P : Type 0} → Ready fs → advance xquery t (second_of ts) fs ≡ None
    → Cut (token.Key key.Semicolon) more ts seg
    → (t ≡ token.Key key.CloseBrace → seg ≡ [] → finish fs ≡ Some w → P)
    → Cut (token.Key key.CloseBrace) [] (t ∷ seg) us → residue.Rest xquery w fs us → P
inner_shut q fs t ts more seg us w r e c k here i =
    k refl refl (run_finds xquery w [] fs (sound r) i)
inner_shut q fs t ts more seg us w r e c k (there {us = vs} x) i =
    let g = subst (λ z. advance xquery t z fs ≡ None) (second_semicolon c ∙ second_brace x) e in
    absurd (stepped w t vs None r g i)

inner_ends : (q : Signature) (fs : List Frame) (ts : List Token) (x : Option Raw) → Ready fs
    → advance xquery (token.Key key.CloseBrace) (second_of ts) fs ≡ None → finish fs ≡ x
    → Steps (machine.inner q fs) (token.Key key.CloseBrace) ts
    (to_closed (option_map (function_of q) x))
inner_ends q fs ts None r e f = λ ds v d. block (Defined q fs) (token.Key key.CloseBrace) ts ds v
    (λ x y i. no_body q fs y i)
    (λ more seg y c i. inner_shut q fs
    (token.Key key.CloseBrace) ts more seg i.tokens i.value r e c
    (λ g h j. none-some _ (sym f ∙ j)) i.cut i.rest) d
inner_ends q fs ts (Some w) r e f = (
  (λ ds v d. shift (Defined q fs) (Shut (function_of q w)) (token.Key key.CloseBrace) ts ds v
      (λ x y i. no_body q fs y i)
      (λ more seg y c i. inner_shut q fs
      (token.Key key.CloseBrace) ts more seg i.tokens i.value r e c
      (λ g h j. (h, i.is ∙ ap (function_of q) (same_Some _ _ (sym j ∙ f)))) i.cut i.rest) d),
  (λ ds v d. shift_back (Defined q fs) (Shut (function_of q w)) (token.Key key.CloseBrace) ts ds v
      (λ more seg y c i. inner_whole q fs seg y w r f i) d),
  tt,
)
  where
    inner_whole : (q : Signature) (fs : List Frame) (seg : List Token) (y : Declared) (w : Raw)
        → Ready fs → finish fs ≡ Some w → Shut (function_of q w) seg y
        → Defined q fs (token.Key key.CloseBrace ∷ seg) y
    inner_whole q fs seg y w r f (g, h) =
        subst (λ z. Defined q fs (token.Key key.CloseBrace ∷ z) y) (sym g)
        (record {
          value = w;
          tokens = [];
          is = h;
          cut = here;
          rest = run_found xquery w [] fs (sound r) f;
        })

inner_by : (q : Signature) (fs : List Frame) (t : Token) (ts : List Token) (b : Bool) → Ready fs
    → advance xquery t (second_of ts) fs ≡ None → fits_key key.CloseBrace t ≡ b
    → Steps (machine.inner q fs) t ts
    (cond b (to_closed (option_map (function_of q) (finish fs))) machine.refused)
inner_by q fs t ts true r e f =
    let same = is_key key.CloseBrace t f in
    let g = subst (λ z. advance xquery z (second_of ts) fs ≡ None) (sym same) e in
    at_key (machine.inner q fs) key.CloseBrace t ts _ f (inner_ends q fs ts (finish fs) r g refl)
inner_by q fs t ts false r e f = λ ds v d. block (Defined q fs) t ts ds v
    (λ x y i. no_body q fs y i)
    (λ more seg y c i. inner_shut q fs t ts more seg i.tokens i.value r e c
    (λ g h j. never (sym f ∙ ap (fits_key key.CloseBrace) g)) i.cut i.rest) d

inner_steps : (q : Signature) (fs : List Frame) (t : Token) (ts : List Token)
    (o : Option (List Frame)) → Ready fs → advance xquery t (second_of ts) fs ≡ o
    → Steps (machine.inner q fs) t ts (inner_step q fs t o)
inner_steps q fs t ts None r e = inner_by q fs t ts (fits_key key.CloseBrace t) r e refl
inner_steps q fs t ts (Some gs) r e = inner_on q fs gs t ts r e

-- after the body of a function
closed_steps : (d : Declared) (t : Token) (ts : List Token) (b : Bool)
    → fits_key key.Semicolon t ≡ b
    → Steps (machine.closed d) t ts (cond b (machine.ends d) machine.refused)
closed_steps d t ts true e =
    at_key (machine.closed d) key.Semicolon t ts (machine.ends d) e (
      (λ ds v r. end_at (Shut d) ts d ds v (λ x i. i.1)
          (λ seg x i. unfilled _ seg i.0) r),
      (λ ds v r. end_back (Shut d) ts d ds v (refl, refl) r),
    )
  where
    unfilled : (t : Token) (seg : List Token) → t ∷ seg ≡ [] → ⊥
    unfilled t seg e = absurd cc
closed_steps d t ts false e = λ ds v r. block (Shut d) t ts ds v
    (λ x y i. no_semicolon t e x) (λ more seg y c i. unfilled _ seg i.0) r
  where
    unfilled : (t : Token) (seg : List Token) → t ∷ seg ≡ [] → ⊥
    unfilled t seg e = absurd cc

pub steps : (m : Mode) (t : Token) (ts : List Token) → Valid m (t ∷ ts)
    → Steps m t ts (step m t (second_of ts))
steps machine.front t ts v = front_steps t ts (may_open t) refl
steps (machine.held a r) t ts v = held_steps a t ts r (opening_of a t) v.0 refl
steps (machine.head o us) t ts v = head_by o us t ts _ _ _ _ v refl refl refl refl
steps (machine.body fs) t ts v = body_steps t ts fs _ v refl
steps (machine.value n fs) t ts v = value_by n fs t ts _ v refl
steps (machine.inner q fs) t ts v = inner_steps q fs t ts _ v refl
steps (machine.closed d) t ts v = closed_steps d t ts _ refl
