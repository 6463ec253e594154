-- The names and texts of the helper functions are those that XML allows.
use Rattle.std.proofs.Common.{◌≡◌, true}
use Rattle.xt_names.specs.Classes.{begins_name, is_in_ranges, is_ncname_text, is_xml_text}
use Rattle.xt_syntax.specs.declared.exprs.Clause.TheViews.{roll-Expr, roll-Arm, roll-Clause}
use Rattle.xt_syntax.specs.declared.exprs.Clause.TheViews.{roll-Flwor, roll-Bind, roll-NameSource}
use Rattle.xt_syntax.specs.Layers.{clause_gives, name_gives, arm_gives, bind_gives, flwor_gives}
use Rattle.xt_syntax.specs.Layers.{expr_gives}
use Rattle.closed_queries.specs.ExprTexts.{has_sound_texts, is_sound_place, sounds, sound_steps}
use Rattle.closed_queries.specs.Texts.{is_sound_expr_name, is_sound_item, is_sound_kind}
use Rattle.closed_queries.specs.Texts.{is_sound_name_test, is_sound_target, is_sound_test}
use Rattle.closed_queries.specs.Texts.{is_sound_type}
use Rattle.query_helpers.specs.CopyBody.{copy_body}
use Rattle.query_helpers.specs.LastBody.{last_body}
use Rattle.query_helpers.specs.NodesBody.{nodes_function}
use Rattle.query_helpers.specs.SimpleBody.{simple_body}
use Rattle.query_helpers.proofs.Rolled.{arm_mapped, bind_mapped, clause_mapped, expr_mapped}
use Rattle.query_helpers.proofs.Rolled.{flwor_mapped, name_mapped, arm_rolled, bind_rolled}
use Rattle.query_helpers.proofs.Rolled.{clause_rolled, expr_rolled, flwor_rolled, name_rolled}
use Rattle.expr_laws.proofs.Texts.{ArmForm, BindForm, ClauseForm, ExprForm, FlworForm, NameForm}

pub expr_sound : (x : ExprForm) → expr_gives sounds sound_steps (roll-Expr x)
    ≡ sound_steps.of_expr (expr_mapped sounds sound_steps x)
expr_sound = expr_rolled sounds sound_steps

pub clause_sound : (x : ClauseForm) → clause_gives sounds sound_steps (roll-Clause x)
    ≡ sound_steps.of_clause (clause_mapped sounds sound_steps x)
clause_sound = clause_rolled sounds sound_steps

name_sound : (x : NameForm) → name_gives sounds sound_steps (roll-NameSource x)
    ≡ sound_steps.of_name (name_mapped sounds sound_steps x)
name_sound = name_rolled sounds sound_steps

pub arm_sound : (x : ArmForm) → arm_gives sounds sound_steps (roll-Arm x)
    ≡ sound_steps.of_arm (arm_mapped sounds sound_steps x)
arm_sound = arm_rolled sounds sound_steps

pub bind_sound : (x : BindForm) → bind_gives sounds sound_steps (roll-Bind x)
    ≡ sound_steps.of_bind (bind_mapped sounds sound_steps x)
bind_sound = bind_rolled sounds sound_steps

pub flwor_sound : (x : FlworForm) → flwor_gives sounds sound_steps (roll-Flwor x)
    ≡ sound_steps.of_flwor (flwor_mapped sounds sound_steps x)
flwor_sound = flwor_rolled sounds sound_steps

ruleset rolled = (expr_sound, clause_sound, name_sound, arm_sound, bind_sound, flwor_sound)

pub nodes_sound : has_sound_texts nodes_function.body ≡ true
unfolding is_sound_expr_name is_ncname_text begins_name is_in_ranges is_xml_text
nodes_sound = simp rolled

pub copy_sound : has_sound_texts copy_body ≡ true
unfolding is_sound_expr_name is_ncname_text begins_name is_in_ranges is_xml_text is_sound_kind
    is_sound_type is_sound_item is_sound_test is_sound_name_test is_sound_target
copy_sound = simp rolled

pub last_sound : has_sound_texts last_body ≡ true
unfolding is_sound_expr_name is_ncname_text begins_name is_in_ranges is_xml_text is_sound_kind
    is_sound_type is_sound_item is_sound_test is_sound_name_test is_sound_target is_sound_place
last_sound = simp rolled

pub simple_sound : has_sound_texts simple_body ≡ true
unfolding is_sound_expr_name is_ncname_text begins_name is_in_ranges is_xml_text is_sound_kind
    is_sound_type is_sound_item is_sound_test is_sound_name_test is_sound_target is_sound_place
simple_sound = simp rolled
