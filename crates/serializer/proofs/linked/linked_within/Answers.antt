-- `linked::linked_within` meets its contract: joined tables are linked. Assumes nothing.
use Rattle.checking.proofs.Tested.{passed}
use Rattle.serializer.specs.Exactly.{joined_linked}
use Rattle.serializer.proofs.linked.linked_within.Goals as goal

pub marked-requires-clause-linked : goal.marked-requires-clause-linked
marked-requires-clause-linked g c =
    let net = c.args.net.now in
    joined_linked net.states.count net.edges.count net.rules.count c.args.c net.states.words.now net.edges.words.now net.rules.words.now
    net.states.few net.edges.few net.rules.few c.requires.sets net.states.lie net.edges.lie net.rules.lie (passed c.joined.ensures c.if-joined.true)
