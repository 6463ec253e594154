use Rattle.std.proofs.Common.{◌+◌, ◌-◌, ◌*◌, length}
use Rattle.module_loading.proofs.walk.+walk.Given as goal

abbrev pub decreases-load_module : goal.decreases-load_module
decreases-load_module g l = 3 * (64 - length l.loaded.now.modules)

abbrev pub decreases-load_links : goal.decreases-load_links
decreases-load_links g l = 3 * (64 - length l.loaded.now.modules) + 2

abbrev pub decreases-load_link : goal.decreases-load_link
decreases-load_link g l = 3 * (64 - length l.loaded.now.modules) + 1
