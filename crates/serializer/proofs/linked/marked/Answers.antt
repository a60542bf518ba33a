-- `linked::marked` meets its contract: by its tests, in their order. Assumes nothing.
use Rattle.std.proofs.Common.{arith}
use Rattle.wiring.specs.Marked.{own_few}
use Rattle.serializer.proofs.linked.marked.Goals as goal

pub returns_fine-requires : goal.returns_fine-requires
returns_fine-requires c = omega (arith, c.own_count-own.ensures, own_few c.args.net.now.edges.count c.args.net.now.edges.words.now)
