-- `write_header` meets its contract. Assumes nothing.
use Rattle.words.proofs.Signs.{back32}
use Rattle.writing.specs.Laid.{lays_then}
use Rattle.writing.proofs.write_header.Goals as goal

pub returns : goal.returns
returns c =
    let token = back32 c.args.token c.ranges.token.sfits in
    lays_then c.put_number-grammar.ensures (lays_then c.put_number-at.ensures (rw token at c.put.ensures))
