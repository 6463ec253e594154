use Rattle.std.proofs.Common.{◌≡◌, drop, map}
use Rattle.sheet_uses.specs.Exprs.{binders_in, behind}
use Rattle.sheet_uses.specs.Bodies.{param_uses}
use Rattle.sheet_uses.proofs.callees.push_params.Given as goal

abbrev pub invariant-loop-param : goal.invariant-loop-param
invariant-loop-param l = record {
  found :
      binders_in (map param_uses (drop l.param-index l.params)) l.inner l.found
      ≡ binders_in (map param_uses l.params) l.scope l.fn.found;
  names :
      behind (map param_uses (drop l.param-index l.params)) l.inner
      ≡ behind (map param_uses l.params) l.scope;
}
