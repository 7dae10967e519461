use Rattle.std.proofs.Common.{◌≡◌, ◌∙◌, ap, sym, rules, None, ◌≤◌}
use Rattle.smart_base.specs.Lists.{Each}
use Rattle.smart_view.specs.Making.{fault_of}
use Rattle.smart_view.proofs.Faults.{view_of-is_view, view_of-checked}
use Rattle.smart_view.proofs.making.make.Goals as goal

pub unwrap-requires : goal.unwrap-requires
unwrap-requires c =
    let none : fault_of c.args.number c.args.members.items c.args.f ≡ None =
    ap (λ members. fault_of c.args.number members c.args.f) (sym c.as_slice.ensures.value) ∙ sym c.fault_of.ensures.value ∙ c.in-None.is in
    let named = c.fault_of.ensures.names c.in-None.is in
    let names : Each (λ m. m ≤ 65535) c.args.members.items = rw c.as_slice.ensures.value at named in
    let is = view_of-is_view c.args.number c.args.start c.args.members.items c.args.f c.requires.some c.requires.small names none in
    let found = view_of-checked c.args.number c.args.start c.args.members.items c.sorted.result.items c.args.f c.checked.result c.sorted.ensures is c.checked.ensures in
    rw found (search rules)
