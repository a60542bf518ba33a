-- `chains::climbs` meets its contract: what is left of the chain from the present edge gives what was asked from the first. Assumes nothing.
use Rattle.std.proofs.Common.{rules, ◌≡◌, sym, ap, ◌∙◌, ◌&&◌, ◌+◌, ◌-◌, ◌*◌, ℕ, arith, ℤ, pos, get_or, w32, to_z, of_z}
use Rattle.format.specs.Sections.{none, same}
use Rattle.words.proofs.Signs.{back32}
use Rattle.rewriting.specs.Climbs.{climbs}
use Rattle.wiring.specs.Chains.{source_in, next_in, climbs_on, climbs_off, climbs_end}
use Rattle.wiring.proofs.chains.climbs.Goals as goal

pub returns-then-not-stands : goal.returns-then-not-stands
returns-then-not-stands c =
    let a = c.args in
    let net = a.net.now in
    let l = c.loop in
    sym ((rw (back32 a.first c.ranges.first.sfits, back32 a.last c.ranges.last.sfits) at l.invariant)
    ∙ climbs_off net.edges.count (source_in net.edges.words.now) (next_in net.edges.words.now) a.s a.last net.edges.few (a.count - l.counter) l.low (to_z w32 l.next-bits) (to_z w32 l.before-bits) (omega arith) c.number_of-j.ensures (sym c.stands.ensures ∙ c.if-not-stands.true))

pub loop-preserved : goal.loop-preserved
loop-preserved c =
    let a = c.args in
    let net = a.net.now in
    let l = c.loop in
    let j = c.number_of-j.result in
    let on : ℕ → ℤ → _ = λ left z. climbs net.edges.count (source_in net.edges.words.now) (next_in net.edges.words.now) a.s (to_z w32 (of_z w32 a.last)) left (j + 1) z (to_z w32 l.next-bits) in
    let one : a.count - l.counter - 1 ≡ a.count - (l.counter + 1) = omega arith in
    l.invariant
    ∙ climbs_on net.edges.count (source_in net.edges.words.now) (next_in net.edges.words.now) a.s (to_z w32 (of_z w32 a.last)) net.edges.few (a.count - l.counter) l.low (to_z w32 l.next-bits) (to_z w32 l.before-bits) (omega arith) c.number_of-j.ensures (sym c.stands.ensures ∙ c.if-not-stands.false)
    ∙ (λ i. on (one i) (sym (back32 (get_or net.edges.words.now (8 * j + 7) (pos 0)) (search rules)) i))

pub returns : goal.returns
returns c =
    let a = c.args in
    let net = a.net.now in
    let l = c.loop in
    (c.ends.ensures ∙ ap (λ (z : ℤ). same (to_z w32 l.next-bits) none && same z (to_z w32 l.before-bits)) (back32 a.last c.ranges.last.sfits))
    ∙ sym ((rw (back32 a.first c.ranges.first.sfits, back32 a.last c.ranges.last.sfits) at l.invariant)
    ∙ climbs_end net.edges.count (source_in net.edges.words.now) (next_in net.edges.words.now) a.s a.last net.edges.few (a.count - l.counter) l.low (to_z w32 l.next-bits) (to_z w32 l.before-bits) (omega arith))
