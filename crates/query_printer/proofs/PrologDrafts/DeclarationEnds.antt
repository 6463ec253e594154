-- What follows a declaration comes after its tokens.
use Rattle.std.proofs.Common.{◌≡◌, ◌∷◌, ◌++◌, [], List, true, ◌&&◌, Option, Some, None}
use Rattle.std.proofs.Common.{is_some, refl, sym, ap, ◌∙◌, append_assoc}
use Rattle.std.specs.Prelude.{codes}
use Rattle.std.proofs.lemmas.Bool.{and_parts}
use Rattle.xt_names.specs.declared.names.ExprName.{ExprName}
use Rattle.xt_types.specs.declared.types.SeqType.{SeqType}
use Rattle.xt_syntax.specs.declared.exprs.Expr.{Expr}
use Rattle.xt_syntax.specs.declared.prefixes.Prefixes.{Prefixes}
use Rattle.xt_syntax.specs.declared.queries.QueryVar.{QueryVar}
use Rattle.xt_syntax.specs.declared.queries.QueryFunction.{QueryFunction}
use Rattle.expr_keys.specs.declared.keys.Key.TheVariants as key
use Rattle.expr_keys.specs.declared.tokens.Token.{Token}
use Rattle.expr_keys.specs.declared.tokens.Token.TheVariants as token
use Rattle.expr_raws.specs.PathRaws.Forms.{single, said}
use Rattle.expr_raws.specs.PathRaws.Names.{name_token, function_token}
use Rattle.expr_raws.specs.ControlRaws.Bindings.{typing, typing_tokens, may}
use Rattle.printed_laws.specs.RawLaws.CleanRaws.Keeps.{keeps_rules}
use Rattle.expr_raws.specs.Raws.{form_of, is_printable, tokens_of}
use Rattle.token_laws.proofs.EndedTokens.Ends.{said_ends}
use Rattle.token_laws.proofs.EndedTokens.Parts.{sequence_ends}
use Rattle.token_laws.proofs.EndedTokens.Forms.{printable_ends}
use Rattle.printed_laws.specs.QueryRaws.Declarations.{typed_tokens, typed_can, value_tokens, value_can}
use Rattle.printed_laws.specs.QueryRaws.Declarations.{variable_token, is_clean, params_can, signature_tokens}
use Rattle.printed_laws.specs.QueryRaws.Declarations.{named_by, params_tokens, variable, function}
use Rattle.raw_tokens.specs.QueryTokens.Tokens.{behind_declare}

pub typing_end : (p : Prefixes) (k : Option SeqType) (rest : List Token) → may (typing p k) ≡ true
    → typing_tokens (typing p k) rest ≡ typing_tokens (typing p k) [] ++ rest
typing_end p None rest c = refl
typing_end p (Some t) rest c =
    ap (λ us. token.Key key.AsWord ∷ us) ((sequence_ends p t c).ends [] rest)

pub typed_end : (p : Prefixes) (n : ExprName) (k : Option SeqType) (rest : List Token)
    → typed_can p n k ≡ true
    → token.Key key.Dollar ∷ variable_token p n ∷ typing_tokens (typing p k) rest
    ≡ typed_tokens p n k ++ rest
typed_end p n k rest c =
    let h = and_parts (is_some (name_token p.bound [] n)) (may (typing p k)) c in
    ap (λ us. token.Key key.Dollar ∷ variable_token p n ∷ us) (typing_end p k rest h.1)

pub value_end : (p : Prefixes) (e : Expr) (rest : List Token) → value_can p (Some e) ≡ true
    → token.Key key.Assign ∷ said single (form_of p e) rest ≡ value_tokens p (Some e) ++ rest
value_end p e rest c =
    let h = and_parts (is_printable p e) (keeps_rules e) c in
    ap (λ us. token.Key key.Assign ∷ us)
    (said_ends single (form_of p e) (printable_ends p e h.0).ends [] rest)

pub body_end : (p : Prefixes) (e : Expr) (rest : List Token) → is_clean p e ≡ true
    → (form_of p e).tokens rest ≡ tokens_of p e ++ rest
body_end p e rest c =
    let h = and_parts (is_printable p e) (keeps_rules e) c in
    (printable_ends p e h.0).ends [] rest

pub signature_end : (p : Prefixes) (f : QueryFunction) (rest : List Token)
    → may (typing p f.kind) ≡ true
    → named_by p f.name ∷ token.Key key.OpenParen ∷ (params_tokens p f.params
    ++ token.Key key.CloseParen ∷ typing_tokens (typing p f.kind) rest)
    ≡ signature_tokens p f ++ rest
signature_end p f rest c =
    ap (λ us. named_by p f.name ∷ token.Key key.OpenParen ∷ us)
    (ap (λ us. params_tokens p f.params ++ token.Key key.CloseParen ∷ us) (typing_end p f.kind rest c)
    ∙ sym (append_assoc (params_tokens p f.params)
    (token.Key key.CloseParen ∷ typing_tokens (typing p f.kind) []) rest))

-- the tokens of a function from its name on, with its body
pub function_end : (p : Prefixes) (f : QueryFunction) (rest : List Token) → is_clean p f.body ≡ true
    → signature_tokens p f ++ token.Key key.OpenBrace
    ∷ (form_of p f.body).tokens (token.Key key.CloseBrace ∷ rest)
    ≡ (signature_tokens p f ++ token.Key key.OpenBrace
    ∷ (tokens_of p f.body ++ token.Key key.CloseBrace ∷ [])) ++ rest
function_end p f rest c =
    ap (λ us. signature_tokens p f ++ token.Key key.OpenBrace ∷ us)
    (body_end p f.body (token.Key key.CloseBrace ∷ rest) c
    ∙ sym (append_assoc (tokens_of p f.body) (token.Key key.CloseBrace ∷ []) rest))
    ∙ sym (append_assoc (signature_tokens p f) (token.Key key.OpenBrace
    ∷ (tokens_of p f.body ++ token.Key key.CloseBrace ∷ [])) rest)

pub variable_end : (p : Prefixes) (v : QueryVar) (rest : List Token)
    → typed_tokens p v.name v.kind ++ (value_tokens p v.value ++ rest)
    ≡ (typed_tokens p v.name v.kind ++ value_tokens p v.value) ++ rest
variable_end p v rest = sym (append_assoc (typed_tokens p v.name v.kind) (value_tokens p v.value) rest)

-- what a variable or a function that can be printed is made of
pub record FunctionCan (p : Prefixes) (f : QueryFunction) : Type 0 where
  pub params : params_can p f.params ≡ true
  pub kind : may (typing p f.kind) ≡ true
  pub body : is_clean p f.body ≡ true

pub function_can : (p : Prefixes) (f : QueryFunction)
    → (is_some (function_token p.bound p.function_default f.name)
    && (params_can p f.params && (may (typing p f.kind) && is_clean p f.body))) ≡ true
    → FunctionCan p f
function_can p f c =
    let h = and_parts (is_some (function_token p.bound p.function_default f.name))
    (params_can p f.params && (may (typing p f.kind) && is_clean p f.body)) c in
    let i = and_parts (params_can p f.params) (may (typing p f.kind) && is_clean p f.body) h.1 in
    let j = and_parts (may (typing p f.kind)) (is_clean p f.body) i.1 in
    record { params = i.0; kind = j.0; body = j.1 }

-- a name with its type, put part by part
pub typed_made : (p : Prefixes) (n : ExprName) (k : Option SeqType) (old a b new : List Token)
    → typed_can p n k ≡ true → a ≡ typing_tokens (typing p k) old → b ≡ variable_token p n ∷ a
    → new ≡ token.Key key.Dollar ∷ b → new ≡ typed_tokens p n k ++ old
typed_made p n k old a b new c s t u =
    u ∙ (ap (λ us. token.Key key.Dollar ∷ us) (t ∙ ap (λ us. variable_token p n ∷ us) s)
    ∙ typed_end p n k old c)

-- .. and an initialiser
pub value_made : (p : Prefixes) (e : Expr) (old a new : List Token) → value_can p (Some e) ≡ true
    → a ≡ said single (form_of p e) old → new ≡ token.Key key.Assign ∷ a
    → new ≡ value_tokens p (Some e) ++ old
value_made p e old a new c s t = t ∙ (ap (λ us. token.Key key.Assign ∷ us) s ∙ value_end p e old c)

-- .. and a variable
pub variable_made : (p : Prefixes) (v : QueryVar) (old a b d new : List Token)
    → a ≡ token.Key key.Semicolon ∷ old → b ≡ value_tokens p v.value ++ a
    → d ≡ typed_tokens p v.name v.kind ++ b → new ≡ behind_declare (codes "variable") d
    → new ≡ (variable p v).tokens ++ token.Key key.Semicolon ∷ old
variable_made p v old a b d new s t u w =
    w ∙ ap (behind_declare (codes "variable")) (u
    ∙ (ap (λ us. typed_tokens p v.name v.kind ++ us) (t ∙ ap (λ us. value_tokens p v.value ++ us) s)
    ∙ variable_end p v (token.Key key.Semicolon ∷ old)))

-- .. and a signature
pub signature_made : (p : Prefixes) (f : QueryFunction) (old a b d e new : List Token)
    → may (typing p f.kind) ≡ true → a ≡ typing_tokens (typing p f.kind) old
    → b ≡ token.Key key.CloseParen ∷ a → d ≡ params_tokens p f.params ++ b
    → e ≡ token.Key key.OpenParen ∷ d → new ≡ named_by p f.name ∷ e
    → new ≡ signature_tokens p f ++ old
signature_made p f old a b d e new c s t u w x =
    x ∙ (ap (λ us. named_by p f.name ∷ us) (w ∙ ap (λ us. token.Key key.OpenParen ∷ us)
    (u ∙ ap (λ us. params_tokens p f.params ++ us)
    (t ∙ ap (λ us. token.Key key.CloseParen ∷ us) s)))
    ∙ signature_end p f old c)

-- .. and a function
pub function_made : (p : Prefixes) (f : QueryFunction) (old a b d e g new : List Token)
    → is_clean p f.body ≡ true → a ≡ token.Key key.Semicolon ∷ old
    → b ≡ token.Key key.CloseBrace ∷ a → d ≡ (form_of p f.body).tokens b
    → e ≡ token.Key key.OpenBrace ∷ d → g ≡ signature_tokens p f ++ e
    → new ≡ behind_declare (codes "function") g
    → new ≡ (function p f).tokens ++ token.Key key.Semicolon ∷ old
function_made p f old a b d e g new c s t u w x y =
    y ∙ ap (behind_declare (codes "function")) (x
    ∙ (ap (λ us. signature_tokens p f ++ us) (w ∙ ap (λ us. token.Key key.OpenBrace ∷ us)
    (u ∙ ap (form_of p f.body).tokens (t ∙ ap (λ us. token.Key key.CloseBrace ∷ us) s)))
    ∙ function_end p f (token.Key key.Semicolon ∷ old) c))

pub typed_part : (p : Prefixes) (v : QueryVar)
    → (typed_can p v.name v.kind && value_can p v.value) ≡ true → typed_can p v.name v.kind ≡ true
typed_part p v c = (and_parts (typed_can p v.name v.kind) (value_can p v.value) c).0

pub value_part : (p : Prefixes) (v : QueryVar)
    → (typed_can p v.name v.kind && value_can p v.value) ≡ true → value_can p v.value ≡ true
value_part p v c = (and_parts (typed_can p v.name v.kind) (value_can p v.value) c).1
