-- Names in attributes that break no rule are those that XML allows.
use Rattle.std.proofs.Common.{◌≡◌, ℕ, List, [], ◌∷◌, Bool, true, false, cond, Option, Some}
use Rattle.std.proofs.Common.{None, refl}
use Rattle.xt_names.specs.Allowed.{is_empty_text}
use Rattle.xt_names.specs.declared.codes.Code.{Code}
use Rattle.xt_names.specs.declared.codes.Code.TheVariants.{SheetStatic}
use Rattle.xt_names.specs.declared.codes.SheetStaticCode.{SheetStaticCode}
use Rattle.xt_names.specs.declared.codes.SheetStaticCode.TheVariants.{XTSE0020, XTSE0740}
use Rattle.xt_names.specs.declared.names.Binding.{Binding}
use Rattle.closed_queries.specs.Texts.{is_sound_expr_name}
use Rattle.expr_names.specs.Names.{undeclared, undeclared_in, uri_in}
use Rattle.expr_names.specs.declared.written.Written.{Written}
use Rattle.sheet_values.specs.Modes.{mode_broken, mode_meant, default_mode, is_default}
use Rattle.sheet_values.specs.Names.{written_name, name_meant, name_broken, qname_value}
use Rattle.sheet_values.specs.Names.{declared_faults, reserved_broken, prefix_broken}
use Rattle.sheet_values.specs.Names.{function_faults}
use Rattle.sheet_values.specs.Rules.{as_prefix}
use Rattle.sound_expressions.specs.SoundForms.Sound.{SoundBindings}
use Rattle.sound_expressions.proofs.SoundForms.NameLemmas.{expr_name_good, no_uri, declared_uri}
use Rattle.closed_texts.proofs.ClosedNames.Written.{IfWritten, name_written}
use Rattle.xt_names.proofs.ListLemmas.{front_nil, back_nil}
use Rattle.xt_names.specs.ExprNames.{uri_of}

name_sound : (code : SheetStaticCode) (bound : List Binding) (w : Option Written)
    → SoundBindings bound → IfWritten w → name_broken code bound w ≡ []
    → is_sound_expr_name (name_meant bound w) ≡ true
unfolding name_meant name_broken
name_sound code bound None u h f = absurd cc
name_sound code bound (Some w) u h f = expr_name_good bound [] w u no_uri h

pub qname_sound : (code : SheetStaticCode) (bound : List Binding) (text : List ℕ)
    → SoundBindings bound → name_broken code bound (written_name text) ≡ []
    → is_sound_expr_name (qname_value bound text) ≡ true
qname_sound code bound text u f = name_sound code bound (written_name text) u (name_written text) f

pub declared_sound : (code : SheetStaticCode) (bound : List Binding) (text : List ℕ)
    → SoundBindings bound → declared_faults code bound text ≡ []
    → is_sound_expr_name (qname_value bound text) ≡ true
declared_sound code bound text u f =
    qname_sound code bound text u (front_nil (name_broken code bound (written_name text))
    (reserved_broken (qname_value bound text)) f)

-- a mode that is no default
pub mode_sound : (code : SheetStaticCode) (bound : List Binding) (word : List ℕ)
    → SoundBindings bound → is_default word ≡ false → mode_broken code bound word ≡ []
    → is_sound_expr_name (mode_meant bound word) ≡ true
mode_sound code bound word u e f = go (is_default word) e f
  where
    go : (b : Bool) → b ≡ false → cond b [] (declared_faults code bound word) ≡ []
        → is_sound_expr_name (cond b default_mode (qname_value bound word)) ≡ true
    go true e f = absurd cc
    go false e f = declared_sound code bound word u f

-- the name of a function has a uri
unbroken : (b : Bool) → cond b (SheetStatic XTSE0740 ∷ []) [] ≡ [] → b ≡ false
unbroken true h = absurd cc
unbroken false h = refl

no_prefix : (cs : List Code) → as_prefix cs ≡ [] → cs ≡ []
no_prefix [] h = refl
no_prefix (c ∷ cs) h = absurd cc

name_uri : (bound : List Binding) (w : Written) → is_empty_text w.prefix ≡ false
    → undeclared_in bound w ≡ [] → is_empty_text (uri_in bound [] w) ≡ false
unfolding undeclared_in uri_in
name_uri bound w e f = go (is_empty_text w.prefix) e f
  where
    go : (b : Bool) → b ≡ false → cond b [] (undeclared bound w.prefix) ≡ []
        → is_empty_text (cond b [] (uri_of bound w.prefix)) ≡ false
    go true e f = absurd cc
    go false e f = declared_uri bound w.prefix f

function_named : (bound : List Binding) (w : Option Written) → prefix_broken w ≡ []
    → name_broken XTSE0020 bound w ≡ [] → is_empty_text (name_meant bound w).uri ≡ false
unfolding prefix_broken name_broken name_meant
function_named bound None p f = absurd cc
function_named bound (Some w) p f =
    name_uri bound w (unbroken (is_empty_text w.prefix) p) (no_prefix (undeclared_in bound w) f)

pub function_uri : (bound : List Binding) (text : List ℕ) → function_faults bound text ≡ []
    → is_empty_text (qname_value bound text).uri ≡ false
function_uri bound text f =
    let w = written_name text in
    let named = back_nil (prefix_broken w) (declared_faults XTSE0020 bound text) f in
    function_named bound w (front_nil (prefix_broken w) (declared_faults XTSE0020 bound text) f)
    (front_nil (name_broken XTSE0020 bound w) (reserved_broken (qname_value bound text)) named)

pub function_sound : (bound : List Binding) (text : List ℕ) → SoundBindings bound
    → function_faults bound text ≡ [] → is_sound_expr_name (qname_value bound text) ≡ true
function_sound bound text u f =
    declared_sound XTSE0020 bound text u
    (back_nil (prefix_broken (written_name text)) (declared_faults XTSE0020 bound text) f)
