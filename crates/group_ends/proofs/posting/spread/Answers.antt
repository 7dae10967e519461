use Rattle.std.proofs.Common.{◌∙◌, ◌++◌, List, take, inl, inr, refl, sym, ap, subst, append-nil}
use Rattle.smart_messages.specs.Messages.{spelling}
use Rattle.trail.specs.declared.event.TrailEvent.{TrailEvent}
use Rattle.group_ends.specs.Journals.{has_end}
use Rattle.group_ends.specs.Ports.{ends, AreOffered}
use Rattle.group_ends.proofs.Ending.{losts-go}
use Rattle.group_ends.proofs.Offering.{offered-ends}
use Rattle.group_ends.proofs.Leaving.{losts-of, from-err, on-ok, more-err}
use Rattle.group_ends.proofs.posting.spread.Goals as goal

pub returns-in_default-clause-err : goal.returns-in_default-clause-err
returns-in_default-clause-err g c = inl (from-err _ _ c.in_default.is c.offer_all.ensures.err, refl)

pub returns-in_default-losts_of-clause-err : goal.returns-in_default-losts_of-clause-err
returns-in_default-losts_of-clause-err g c =
    let a = c.args.sent.now in
    let es = c.args.journal.now.events.items in
    let ps = c.args.ports.now.items in
    let qs = c.offer_all.new.ports.items in
    let ds = c.in-Ok.dropped.items in
    let all = subst (λ t. AreOffered a.to t ps ds qs) c.requires.text c.in-Ok.ensures.ok in
    inr (record { dropped = ds; offered = all; count = 0; after_is = sym (append-nil es) })

pub returns-clause-ok : goal.returns-clause-ok
returns-clause-ok g c =
    let a = c.args.sent.now in
    let es = c.args.journal.now.events.items in
    let ps = c.args.ports.now.items in
    let qs = c.offer_all.new.ports.items in
    let ds = c.in-Ok.dropped.items in
    let all = subst (λ t. AreOffered a.to t ps ds qs) c.requires.text c.in-Ok.ensures.ok in
    let lost = c.in-Ok-losts_of.lost.items in
    let told = losts-of a ps qs ds c.as_slice-2.result.now c.as_slice.result.now lost (offered-ends a.to (spelling a.message) ps ds qs all).0 c.as_slice.ensures.value c.as_slice-2.ensures.value c.in-Ok-losts_of.ensures in
    on-ok c.note_each.result c.note_each.ensures.ok (λ done. record { dropped = ds; offered = all; after_is = done ∙ ap (λ (l : List TrailEvent). es ++ l) told })

pub returns-clause-err : goal.returns-clause-err
returns-clause-err g c =
    let a = c.args.sent.now in
    let es = c.args.journal.now.events.items in
    let ps = c.args.ports.now.items in
    let qs = c.offer_all.new.ports.items in
    let ds = c.in-Ok.dropped.items in
    let all = subst (λ t. AreOffered a.to t ps ds qs) c.requires.text c.in-Ok.ensures.ok in
    let lost = c.in-Ok-losts_of.lost.items in
    let told = losts-of a ps qs ds c.as_slice-2.result.now c.as_slice.result.now lost (offered-ends a.to (spelling a.message) ps ds qs all).0 c.as_slice.ensures.value c.as_slice-2.ensures.value c.in-Ok-losts_of.ensures in
    more-err c.note_each.result c.note_each.ensures.err (λ some. inr (record { dropped = ds; offered = all; count = some.0; after_is = some.1 ∙ ap (λ (l : List TrailEvent). es ++ take some.0 l) told }))

pub note_each-requires-clause-none : goal.note_each-requires-clause-none
note_each-requires-clause-none g c = ap has_end c.in-Ok-losts_of.ensures ∙ losts-go c.args.sent.now (ends c.as_slice.result.now) c.as_slice-2.result.now
