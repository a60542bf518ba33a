-- `search::search_from` meets its contract: the search runs on, and s stays met. Assumes nothing.
use Rattle.std.proofs.Common.{refl}
use Rattle.atn.specs.Visits.{search_begins}
use Rattle.atn.proofs.search.search_from.Goals as goal

pub loop-top-init : goal.loop-top-init
loop-top-init c =
    let b = search_begins c.args.network.now.linked.chained c.requires.idle c.requires.unmet.0 c.requires.unmet.1 c.meet-top.ensures in
    (b.0.runs, b.1, refl)
