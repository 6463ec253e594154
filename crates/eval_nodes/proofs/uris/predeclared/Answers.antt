use Rattle.std.proofs.Common.{◌≡◌, refl}
use Rattle.expr_meaning.specs.Names.{predeclared}
use Rattle.eval_nodes.proofs.UriLemmas.{xml_chars, xs_chars, xsi_chars, fn_chars, local_chars}
use Rattle.eval_nodes.proofs.uris.predeclared.Goals as goal

pub returns-then-is_ascii_text : goal.returns-then-is_ascii_text
unfolding predeclared
returns-then-is_ascii_text c =
    rw (xml_chars, ← c.is_ascii_text.ensures, c.if-is_ascii_text.true) refl

pub returns-then-is_ascii_text-2 : goal.returns-then-is_ascii_text-2
unfolding predeclared
returns-then-is_ascii_text-2 c =
    rw (
      xs_chars,
      ← c.is_ascii_text.ensures,
      c.if-is_ascii_text.false,
      ← c.is_ascii_text-else-is_ascii_text.ensures,
      c.if-is_ascii_text-2.true,
    ) refl

pub returns-then-is_ascii_text-3 : goal.returns-then-is_ascii_text-3
unfolding predeclared
returns-then-is_ascii_text-3 c =
    rw (
      xsi_chars,
      ← c.is_ascii_text.ensures,
      c.if-is_ascii_text.false,
      ← c.is_ascii_text-else-is_ascii_text.ensures,
      c.if-is_ascii_text-2.false,
      ← c.is_ascii_text-else-is_ascii_text-2.ensures,
      c.if-is_ascii_text-3.true,
    ) refl

pub returns-then-is_ascii_text-4 : goal.returns-then-is_ascii_text-4
unfolding predeclared
returns-then-is_ascii_text-4 c =
    rw (
      fn_chars,
      ← c.is_ascii_text.ensures,
      c.if-is_ascii_text.false,
      ← c.is_ascii_text-else-is_ascii_text.ensures,
      c.if-is_ascii_text-2.false,
      ← c.is_ascii_text-else-is_ascii_text-2.ensures,
      c.if-is_ascii_text-3.false,
      ← c.is_ascii_text-else-is_ascii_text-3.ensures,
      c.if-is_ascii_text-4.true,
    ) refl

pub returns-then-is_ascii_text-5 : goal.returns-then-is_ascii_text-5
unfolding predeclared
returns-then-is_ascii_text-5 c =
    rw (
      local_chars,
      ← c.is_ascii_text.ensures,
      c.if-is_ascii_text.false,
      ← c.is_ascii_text-else-is_ascii_text.ensures,
      c.if-is_ascii_text-2.false,
      ← c.is_ascii_text-else-is_ascii_text-2.ensures,
      c.if-is_ascii_text-3.false,
      ← c.is_ascii_text-else-is_ascii_text-3.ensures,
      c.if-is_ascii_text-4.false,
      ← c.is_ascii_text-else-is_ascii_text-4.ensures,
      c.if-is_ascii_text-5.true,
    ) refl
