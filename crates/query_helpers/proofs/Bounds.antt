-- What a generated query asks of the helper functions.
use Rattle.std.proofs.Common.{◌≡◌, ◌≤◌, ℕ, true, refl, arith}
use Rattle.xt_names.specs.Classes.{begins_name, is_in_ranges, is_ncname_text, is_xml_text}
use Rattle.xt_types.specs.Regular.{is_named, is_regular_item, is_regular_test}
use Rattle.xt_types.specs.Regular.{is_regular_type}
use Rattle.closed_queries.specs.Closed.{is_good_expr, is_good_function, is_good_kind, is_good_param}
use Rattle.closed_queries.specs.Texts.{is_sound_expr_name, is_sound_item, is_sound_test}
use Rattle.closed_queries.specs.Texts.{is_sound_type}
use Rattle.query_helpers.specs.Bounds.{IsHelper}
use Rattle.query_helpers.specs.CopyBody.{copy_function}
use Rattle.query_helpers.specs.LastBody.{last_function}
use Rattle.query_helpers.specs.NodesBody.{nodes_function}
use Rattle.query_helpers.specs.SimpleBody.{simple_function}
use Rattle.query_helpers.proofs.NamesKept.{copy_names, last_names, nodes_names, simple_names}
use Rattle.query_helpers.proofs.Nesting.{copy_nest, last_nest, nodes_nest, simple_nest}
use Rattle.query_helpers.proofs.Regularity.{copy_regular, last_regular, nodes_regular}
use Rattle.query_helpers.proofs.Regularity.{simple_regular}
use Rattle.query_helpers.proofs.SoundTexts.{copy_sound, last_sound, nodes_sound, simple_sound}

within : (m n : ℕ) → m ≡ n → m ≤ n
within m n e = omega (arith, e)

nodes_good : is_good_function nodes_function ≡ true
unfolding is_good_function is_good_param is_good_kind is_good_expr is_sound_expr_name is_ncname_text
    begins_name is_in_ranges is_xml_text is_regular_type is_regular_item is_regular_test is_named
    is_sound_type is_sound_item is_sound_test
nodes_good = rw (nodes_regular, nodes_sound) refl

copy_good : is_good_function copy_function ≡ true
unfolding is_good_function is_good_param is_good_kind is_good_expr is_sound_expr_name is_ncname_text
    begins_name is_in_ranges is_xml_text
copy_good = rw (copy_regular, copy_sound) refl

last_good : is_good_function last_function ≡ true
unfolding is_good_function is_good_param is_good_kind is_good_expr is_sound_expr_name is_ncname_text
    begins_name is_in_ranges is_xml_text
last_good = rw (last_regular, last_sound) refl

simple_good : is_good_function simple_function ≡ true
unfolding is_good_function is_good_param is_good_kind is_good_expr is_sound_expr_name is_ncname_text
    begins_name is_in_ranges is_xml_text
simple_good = rw (simple_regular, simple_sound) refl

pub nodes_fits : IsHelper nodes_function 1
nodes_fits = record { good = nodes_good; nest = within _ _ nodes_nest; names = nodes_names }

pub copy_fits : IsHelper copy_function 5
copy_fits = record { good = copy_good; nest = within _ _ copy_nest; names = copy_names }

pub last_fits : IsHelper last_function 10
last_fits = record { good = last_good; nest = within _ _ last_nest; names = last_names }

pub simple_fits : IsHelper simple_function 11
simple_fits = record { good = simple_good; nest = within _ _ simple_nest; names = simple_names }
