-- `links::returns::has_return` meets its contract: the state from which it starts is found, or is none of n. Assumes nothing.
use Rattle.std.proofs.Common.{◌≡◌, refl, ◌∙◌, sym, ℕ, ◌<◌, arith, List, ℤ, Option, Some, None, unwrap_or}
use Rattle.std.specs.Option.{ForSome, is_some}
use Rattle.inplace.specs.Links.{Net, returning, net}
use Rattle.links.specs.Returns.{return_stop, has_return_lem, no_return}
use Rattle.links.proofs.returns.has_return.Goals as goal

found : (n k : ℕ) (ru : List ℤ) (t : Net) (e : ℕ) (r : Option ℕ) → unwrap_or r n ≡ return_stop n k ru t e → ForSome r (λ s. s < n) → is_some r ≡ returning n k ru t e
found n k ru t e (Some s) q h = sym (has_return_lem n k ru t e (let l : s < n = h s refl in omega (arith, q)))
found n k ru t e None q h = sym (no_return n k ru t e (omega (arith, q)))

pub returns : goal.returns
returns c =
    let n = c.args.net.now in
    let s = c.return_stop in
    c.is_some.ensures ∙ found n.states.count n.rules.count n.rules.words.now (net n.states.words.now n.edges.words.now) c.args.e s.result s.ensures.starts s.ensures.listed
