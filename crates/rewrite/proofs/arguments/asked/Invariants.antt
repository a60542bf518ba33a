-- `arguments::asked` is safe and ends: each turn takes a word of the command line. Assumes nothing.
use Rattle.std.proofs.Common.{◌-◌}
use Rattle.rewrite.proofs.arguments.asked.Given as goal

abbrev pub decreases-loop-settings : goal.decreases-loop-settings
decreases-loop-settings g l = l.places.end - l.places.start
