use Rattle.std.proofs.Common.{◌∙◌, ◌<◌, ℕ, List, [], length, get_or, ap, sym, subst, arith}
use Rattle.atomic_table.specs.Seated.{TableId}
use Rattle.queue_ends.specs.Ends.{told_put, told_queue}
use Rattle.queue_ends.specs.Rule.{IsFront}
use Rattle.node_rules.specs.declared.node.Target.{Target}
use Rattle.node_rules.specs.declared.node.Target.TheVariants.{View}
use Rattle.group_ends.specs.Carried.{carried, DropsLate}
use Rattle.group_ends.specs.Ports.{ends, AreApart}
use Rattle.group_ends.proofs.Telling.{carries-told, first-told, told-carried, told-first, ends-length}
use Rattle.group_seat.proofs.seat.GroupSeat.tell.Goals as goal

pub tell_at-requires : goal.tell_at-requires
tell_at-requires g c =
    let s = c.args.self.now in
    omega (arith, c.requires, ap length s.named.0, ends-length s.ports.items, s.ports.ok.0)

pub invariant_of-self : goal.invariant_of-self
invariant_of-self g c =
    let s = c.args.self.now in
    let es = s.inner.journal.events.items in
    let old = s.ports.items in
    let new = c.tell_at.new.ports.items in
    let same = c.tell_at.ensures.same in record {
      uncut = s.uncut;
      whole = s.whole;
      came = s.came;
      all_came = s.all_came;
      left = first-told es old new same.0 same.1.1 s.left;
      all_left = λ uncut. carries-told es old new same.0 same.1.1 (s.all_left uncut);
      late = subst (λ (ts : List Target). DropsLate ts [] es) (sym same.0) s.late;
      apart = subst AreApart (sym same.0) s.apart;
      named = (same.0 ∙ s.named.0, (same.1.0 ∙ s.named.1.0, s.named.1.1));
      own = s.own;
    }

pub returns-clause-link : goal.returns-clause-link
returns-clause-link g c =
    let s = c.args.self.now in
    c.tell_at.ensures.link ∙ ap (λ (ts : List TableId). get_or ts c.args.index (told_queue c.tell_at.result)) s.named.1.0

pub returns-clause-told : goal.returns-clause-told
returns-clause-told g c = λ uncut.
    let s = c.args.self.now in
    let es = s.inner.journal.events.items in
    let i = c.args.index in
    let within : i < length (ends s.ports.items) = omega (arith, c.requires, ap length s.named.0) in
    c.tell_at.ensures.told ∙ told-carried es s.ports.items i within (s.all_left uncut) ∙ ap (λ (ts : List Target). carried (get_or ts i View) es) s.named.0

pub returns-clause-first : goal.returns-clause-first
returns-clause-first g c =
    let s = c.args.self.now in
    let es = s.inner.journal.events.items in
    let i = c.args.index in
    let within : i < length (ends s.ports.items) = omega (arith, c.requires, ap length s.named.0) in
    subst (λ (ts : List Target). IsFront (told_put c.tell_at.result) (carried (get_or ts i View) es)) s.named.0
    (subst (λ (xs : List (List ℕ)). IsFront xs (carried (get_or (ends s.ports.items) i View) es)) (sym c.tell_at.ensures.told) (told-first es s.ports.items i within s.left))
