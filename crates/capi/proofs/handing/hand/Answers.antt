-- `handing::hand` meets its contract: the first 16 are cleared, and each value is put over its zero. Assumes nothing.
use Rattle.std.proofs.Common.{rules, ◌≡◌, sym, ◌∙◌, ap, ℕ, List, [], ◌+◌, ◌<◌, ◌≤◌, arith, ℤ, pos, set, take, length, get_or}
use Rattle.std.proofs.lemmas.List.{length-take-le, take_more}
use Rattle.std.proofs.Math.Seq.{take-length}
use Rattle.words.proofs.Signs.{back64}
use Rattle.capi.specs.Handed.{handed, handed_over, handed-more}
use Rattle.capi.proofs.handing.hand.Goals as goal

pub loop-i-init : goal.loop-i-init
loop-i-init c =
    let a = c.args.answer.now in
    rw (c.fill.ensures.after (λ y e. e)) (handed_over [] a 0 c.min-cleared.result (omega arith) (omega arith) c.min-cleared.ensures)

-- one value more, read from the list
more : (vs a : List ℤ) (i : ℕ) → i < length vs → length vs ≤ 16 → set (handed (take i vs) a) i (get_or vs i (pos 0)) ≡ handed (take (i + 1) vs) a
more vs a i h k =
    let e : length (take i vs) ≡ i = length-take-le i vs (omega arith) in
    ap (λ (n : ℕ). set (handed (take i vs) a) n (get_or vs i (pos 0))) (sym e)
    ∙ handed-more (take i vs) a (get_or vs i (pos 0)) (omega arith)
    ∙ ap (λ (l : List ℤ). handed l a) (sym (take_more vs i (pos 0) h))

pub loop-i-preserved : goal.loop-i-preserved
loop-i-preserved c =
    let l = c.loop-i in
    let vs = c.args.values.now in
    let a = c.args.answer.now in
    rw (back64 (get_or vs l.i (pos 0)) (search rules)) at c.put.ensures ∙ ap (λ (x : List ℤ). set x l.i (get_or vs l.i (pos 0))) l.invariant ∙ more vs a l.i c.loop-i-test.true c.requires

pub returns : goal.returns
returns c =
    let vs = c.args.values.now in
    let e : c.loop-i.i ≡ length vs = omega arith in
    c.loop-i.invariant ∙ ap (λ (l : List ℤ). handed l c.args.answer.now) (ap (λ (n : ℕ). take n vs) e ∙ take-length vs)
