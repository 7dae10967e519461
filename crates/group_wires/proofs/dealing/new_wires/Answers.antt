use Rattle.std.proofs.Common.{◌≡◌, ◌∙◌, ℕ, List, [], ◌∷◌, ◌++◌, length, replicate, sym, ap, subst, arith}
use Rattle.node_rules.specs.declared.node.Target.{Target}
use Rattle.group_wires.specs.Wires.{all_ends, member_ends, row_ends, AreDealt, IsRowAdded}
use Rattle.group_wires.specs.declared.row.Row.{Row}
use Rattle.group_wires.proofs.Dealt.{all-many, dealt-more, members-many, row-ends-last, row-ends-more}
use Rattle.group_wires.proofs.dealing.new_wires.Goals as goal

pub loop-made-init : goal.loop-made-init
loop-made-init c =
    let none = c.new-rows.ensures.items in
    let inboxes = c.in_ok-inboxes.inboxes in record {
      ends_are = ap (λ (rows : List Row). row_ends rows) none;
      dealt = subst (λ (rows : List Row). AreDealt rows inboxes.items) (sym none) c.in_ok-inboxes.ensures.bare;
      many = omega (arith, c.in_ok-inboxes.ensures.many, c.len.ensures, c.in_ok-all.all.ok.0, ap length c.in_ok-all.ensures, all-many c.args.members);
    }

pub add_row-requires : goal.add_row-requires
add_row-requires c = omega (arith, c.loop-made.invariant.many, ap length c.as_slice.ensures.value, ap length c.in_ok-all.ensures, all-many c.args.members)

pub loop-made-preserved : goal.loop-made-preserved
loop-made-preserved c =
    let l = c.loop-made in
    let was = l.invariant in
    let row = c.in_ok-row.row in
    let new = c.add_row.new.inboxes in
    let all = all_ends c.args.members in
    let receivers : c.as_slice.result.now ≡ all = c.as_slice.ensures.value ∙ c.in_ok-all.ensures in
    let added : IsRowAdded all row.ports.items l.inboxes.items new.items = subst (λ (ts : List Target). IsRowAdded ts row.ports.items l.inboxes.items new.items) receivers c.in_ok-row.ensures.added in
    let more = c.in_ok-push.ensures.items in record {
      ends_are = ap (λ (rows : List Row). row_ends rows) more ∙ row-ends-more l.rows.items row all l._made was.ends_are added.ends_are;
      dealt = subst (λ (rows : List Row). AreDealt rows new.items) (sym more) (dealt-more l.rows.items row all l.inboxes.items new.items was.dealt added);
      many = c.in_ok-row.ensures.many ∙ was.many;
    }

pub add_row-requires-2 : goal.add_row-requires-2
add_row-requires-2 c = omega (arith, c.loop-made.invariant.many, ap length c.as_slice-2.ensures.value, ap length c.in_ok-others.ensures, members-many c.args.members)

pub returns : goal.returns
returns c =
    let l = c.loop-made in
    let was = l.invariant in
    let last = c.in_ok-last.last in
    let new = c.add_row-2.new.inboxes in
    let all = all_ends c.args.members in
    let others = member_ends c.args.members in
    let receivers : c.as_slice-2.result.now ≡ others = c.as_slice-2.ensures.value ∙ c.in_ok-others.ensures in
    let added : IsRowAdded others last.ports.items l.inboxes.items new.items = subst (λ (ts : List Target). IsRowAdded ts last.ports.items l.inboxes.items new.items) receivers c.in_ok-last.ensures.added in
    let more = c.in_ok-push-2.ensures.items in
    let done : l._made ≡ c.args.members = omega arith in record {
      ends_are = ap (λ (rows : List Row). row_ends rows) more ∙ row-ends-last l.rows.items last all others l._made was.ends_are added.ends_are ∙ ap (λ (k : ℕ). replicate k all ++ others ∷ []) done;
      many = omega (arith, c.in_ok-last.ensures.many, was.many, new.ok.0);
      dealt = subst (λ (rows : List Row). AreDealt rows new.items) (sym more) (dealt-more l.rows.items last others l.inboxes.items new.items was.dealt added);
    }
