-- The names of keys are texts that XML allows.
use Rattle.std.proofs.Common.{◌≡◌, ℕ, List, [], ◌∷◌, ◌++◌, Bool, true, false, cond, Option, Some}
use Rattle.std.proofs.Common.{None, refl}
use Rattle.std.proofs.lemmas.Bool.{and_parts}
use Rattle.xt_names.specs.Allowed.{is_empty_text}
use Rattle.xt_names.specs.Classes.{is_ncname_text, is_xml_text, is_in_ranges}
use Rattle.xt_names.specs.declared.codes.Code.{Code}
use Rattle.xt_names.specs.declared.names.Binding.{Binding}
use Rattle.xt_names.specs.declared.names.ExprName.{ExprName}
use Rattle.closed_queries.specs.Texts.{is_sound_expr_name}
use Rattle.expr_names.specs.Names.{undeclared_in, expr_name}
use Rattle.expr_names.specs.declared.written.Written.{Written}
use Rattle.sheet_expressions.specs.Keys.{braced, braced_unless, written_key, key_text}
use Rattle.sheet_values.specs.Names.{written_name}
use Rattle.sound_expressions.specs.SoundForms.Sound.{SoundBindings}
use Rattle.sound_expressions.proofs.SoundForms.NameLemmas.{expr_name_good, name_is_text, no_uri}
use Rattle.closed_texts.proofs.ClosedNames.Written.{IfWritten, name_written}
use Rattle.xt_names.proofs.ClassLemmas.{append_text, no_text}

braces : (is_xml_text (123 ∷ []) ≡ true) × (is_xml_text (125 ∷ []) ≡ true)
unfolding is_xml_text is_in_ranges
braces = (refl, refl)

braced_sound : (n : ExprName) → is_sound_expr_name n ≡ true → is_xml_text (braced n) ≡ true
unfolding braced is_sound_expr_name
braced_sound n h =
    let a = and_parts (is_ncname_text n.local) _ h in
    let b = and_parts (is_xml_text n.uri) _ a.1 in
    let local = name_is_text n.local a.0 in
    go (is_empty_text n.uri) local
    (append_text (123 ∷ []) (n.uri ++ 125 ∷ n.local) braces.0
    (append_text n.uri (125 ∷ n.local) b.0 (append_text (125 ∷ []) n.local braces.1 local)))
  where
    go : (b : Bool) → is_xml_text n.local ≡ true
        → is_xml_text (123 ∷ (n.uri ++ 125 ∷ n.local)) ≡ true
        → is_xml_text (cond b n.local (123 ∷ (n.uri ++ 125 ∷ n.local))) ≡ true
    go true h i = h
    go false h i = i

unless_sound : (cs : List Code) (n : ExprName) → is_sound_expr_name n ≡ true
    → is_xml_text (braced_unless cs n) ≡ true
unfolding braced_unless
unless_sound [] n h = braced_sound n h
unless_sound (c ∷ cs) n h = no_text

written_sound : (bound : List Binding) (w : Option Written) → SoundBindings bound → IfWritten w
    → is_xml_text (written_key bound w) ≡ true
unfolding written_key
written_sound bound None u h = no_text
written_sound bound (Some w) u h =
    unless_sound (undeclared_in bound w) (expr_name bound [] w)
    (expr_name_good bound [] w u no_uri h)

pub key_sound : (bound : List Binding) → SoundBindings bound → (text : List ℕ)
    → is_xml_text (key_text bound text) ≡ true
key_sound bound u text = written_sound bound (written_name text) u (name_written text)
