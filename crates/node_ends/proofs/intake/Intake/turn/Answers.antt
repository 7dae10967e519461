use Rattle.std.proofs.Common.{◌≡◌, sym, ◌∙◌, subst, List, ℕ, None, Option}
use Rattle.group_links.specs.Link.{link_put}
use Rattle.node_ends.specs.Intakes.{IsTakenIn}
use Rattle.node_ends.proofs.Taken.{passed, given-none, reads-none, reads-went}
use Rattle.node_ends.proofs.intake.Intake.turn.Goals as goal

pub returns-in-Some-next-clause-reads : goal.returns-in-Some-next-clause-reads
returns-in-Some-next-clause-reads g c =
    let s = c.args.self.now in
    let none : s.waiting ≡ None = sym c.take.ensures.value ∙ c.in_default.is in
    let e = c.pass.ensures in
    let n = c.in-Some-next.ensures in
    let p = c.pass.new.self in
    reads-went _ c.pass.result s p e.goes
    (λ bytes t.
    let t' : IsTakenIn bytes s.frames (link_put s.link) None s.count s.is_long = subst (λ (w : Option (List ℕ)). IsTakenIn bytes s.frames (link_put s.link) w s.count s.is_long) none t in
    let on = passed bytes s.frames c.next.new.self c.in-Some-next.frame (link_put s.link) (link_put p.link) p.waiting s.count p.count s.is_long (λ given fed. n.fed bytes given fed) n.rest e.put e.count t' in
    rw (e.same.0, e.same.1) on)

pub returns-then-self-clause-reads : goal.returns-then-self-clause-reads
returns-then-self-clause-reads g c =
    let s = c.args.self.now in
    let none : s.waiting ≡ None = sym c.take.ensures.value ∙ c.in_default.is in
    let n = c.in_default-next.ensures in
    reads-none _ _ s _
    (λ bytes t.
    let t' = given-none bytes s.frames c.next.new.self (link_put s.link) s.waiting s.count s.is_long (λ given fed. n.fed bytes given fed) n.rest t in
    subst (λ (w : Option (List ℕ)). IsTakenIn bytes c.next.new.self (link_put s.link) w s.count s.is_long) (none ∙ sym c.take.ensures.after) t')
