-- `sections::deserialize_header` meets its contract, word by word. Assumes nothing.
use Rattle.std.proofs.Common.{rules}
use Rattle.words.specs.Laws.{handed_on}
use Rattle.words.proofs.Signs.{back32}
use Rattle.sections.specs.Header.{header_ok, version-ends, grammar-ends, token_ends}
use Rattle.sections.proofs.deserialize_header.Goals as goal

pub returns-in_err-second : goal.returns-in_err-second
returns-in_err-second c = λ rooms.
    let a = c.args in
    rw (handed_on c.from_residual.result c.in_err-second.field-0.0 c.from_residual.ensures.1)
    (version-ends a.words.now rooms a.at (c.in_err-second.ensures rooms))

pub returns-in_err-third : goal.returns-in_err-third
returns-in_err-third c = λ rooms.
    let a = c.args in
    let f = c.from_residual-in_err-third in
    rw (handed_on f.result c.in_err-third.field-0.0 f.ensures.1)
    (grammar-ends a.words.now rooms a.at (c.in_ok-second.ensures rooms) (c.in_err-third.ensures rooms))

pub returns-in_err-token : goal.returns-in_err-token
returns-in_err-token c = λ rooms.
    let a = c.args in
    let f = c.from_residual-in_err-token in
    rw (handed_on f.result c.in_err-token.field-0.0 f.ensures.1)
    (token_ends a.words.now rooms a.at (c.in_ok-second.ensures rooms) (c.in_ok-third.ensures rooms) (c.in_err-token.ensures rooms))

pub returns : goal.returns
returns c = λ rooms.
    let a = c.args in
    rw (c.no_counts.ensures, back32 c.in_ok-token.token (search rules))
    (header_ok a.words.now rooms a.at (c.in_ok-second.ensures rooms) (c.in_ok-third.ensures rooms) (c.in_ok-token.ensures rooms))
