-- `sections::header::read_grammar_type` meets its contract. Assumes nothing.
use Rattle.std.proofs.Common.{rules, ◌≡◌, pos, false, refl}
use Rattle.format.specs.Sections.{same}
use Rattle.words.specs.Laws.{handed_on}
use Rattle.words.proofs.Signs.{back32}
use Rattle.sections.specs.Header.{grammar_ok, grammar_parser, grammar_other, grammar_no}
use Rattle.sections.proofs.header.read_grammar_type.Goals as goal

pub returns-in_err-grammar : goal.returns-in_err-grammar
returns-in_err-grammar c = λ rooms.
    let a = c.args in
    rw (handed_on c.from_residual.result c.in_err-grammar.field-0.0 c.from_residual.ensures.1)
    (grammar_no a.words.now rooms a.at (c.in_err-grammar.ensures rooms))

pub returns-then-grammar-eq-LEXER : goal.returns-then-grammar-eq-LEXER
returns-then-grammar-eq-LEXER c = λ rooms.
    let a = c.args in
    let v = c.in_ok-grammar.grammar in
    let e : v ≡ pos 0 = search rules in
    rw (back32 v (search rules)) (grammar_ok a.words.now rooms a.at (c.in_ok-grammar.ensures rooms) (rw e refl))

pub returns-then-grammar-eq-PARSER : goal.returns-then-grammar-eq-PARSER
returns-then-grammar-eq-PARSER c = λ rooms.
    let a = c.args in
    let v = c.in_ok-grammar.grammar in
    let e : v ≡ pos 1 = search rules in
    rw (c.refused.ensures, back32 v (search rules)) (grammar_parser a.words.now rooms a.at (c.in_ok-grammar.ensures rooms) (rw e refl) (rw e refl))

pub returns-else-grammar-eq-PARSER : goal.returns-else-grammar-eq-PARSER
returns-else-grammar-eq-PARSER c = λ rooms.
    let a = c.args in
    let v = c.in_ok-grammar.grammar in
    let n : same v (pos 0) ≡ false = search rules in
    let m : same v (pos 1) ≡ false = search rules in
    rw (c.refused-else-grammar-eq-PARSER.ensures, back32 v (search rules)) (grammar_other a.words.now rooms a.at (c.in_ok-grammar.ensures rooms) n m)
