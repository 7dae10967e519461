use Rattle.std.proofs.Common.{◌≡◌, ◌∙◌, ◌++◌, ◌⊎◌, List, ℕ, [], ◌∷◌, sym, ap, subst, OnOk, OnErr}
use Rattle.smart_messages.specs.Messages.{spelling}
use Rattle.trail.specs.declared.event.Addressed.{Addressed}
use Rattle.trail.specs.declared.event.TrailEvent.TheVariants.{Send}
use Rattle.group_ends.specs.Carried.{DropsLate}
use Rattle.group_ends.specs.Ports.{AreWithin, IsSpread, IsSpreadFirst}
use Rattle.group_ends.proofs.Leaving.{left, carried-all, on-ok, on-err, sent-posted, sent-drops, sent-first}
use Rattle.group_ends.proofs.Texts.{later-still, rose-later}
use Rattle.group_ends.proofs.posting.post.Goals as goal

pub returns-in_err-note-clause-posted : goal.returns-in_err-note-clause-posted
returns-in_err-note-clause-posted g c = sent-posted c.args.journal.now.events.items c.args.parcel.sent c.args.ports.now.items c.requires.carries c.requires.late c.note.new.self.events.items c.note.ensures.events

pub returns-in_err-note-clause-err : goal.returns-in_err-note-clause-err
returns-in_err-note-clause-err g c = on-err c.from_residual.result (sent-first c.args.journal.now.events.items c.args.parcel.sent c.args.ports.now.items c.requires.carries c.requires.late c.note.new.self.events.items c.note.ensures.events)

pub returns-in_err-note-clause-late : goal.returns-in_err-note-clause-late
returns-in_err-note-clause-late g c = sent-drops c.args.journal.now.events.items c.args.parcel.sent c.args.ports.now.items c.requires.carries c.requires.late c.note.new.self.events.items c.note.ensures.events

pub returns-in_err-note-clause-going : goal.returns-in_err-note-clause-going
returns-in_err-note-clause-going g c = c.note.ensures.ended

pub spread-requires-clause-going : goal.spread-requires-clause-going
spread-requires-clause-going g c = c.note.ensures.ended

pub spread-requires-clause-text : goal.spread-requires-clause-text
spread-requires-clause-text g c = c.args.parcel.text_is ∙ ap (λ (b : Addressed). spelling b.message) (sym c.args.parcel.same)

pub returns : goal.returns
returns g c =
    let a = c.args.parcel.sent in
    let same = c.args.parcel.same in
    let es = c.args.journal.now.events.items in
    let ps = c.args.ports.now.items in
    let qs = c.spread.new.ports.items in
    let had = c.requires.carries in
    let late = c.requires.late in
    let apart = c.requires.apart in
    let sent = c.note.new.self.events.items in
    let new = c.spread.new.journal.events.items in
    let is : sent ≡ es ++ Send a ∷ [] = c.note.ensures.events in
    let r = c.spread.result in
    let ok = subst (λ (b : Addressed). OnOk r (IsSpread b ps qs sent new)) same c.spread.ensures.ok in
    let err =
    subst (λ (t : List ℕ). OnErr r ((AreWithin a.to t ps qs × (new ≡ sent)) ⊎ IsSpreadFirst a ps qs sent new)) c.args.parcel.text_is
    (subst (λ (b : Addressed). OnErr r ((AreWithin b.to c.args.parcel.text ps qs × (new ≡ sent)) ⊎ IsSpreadFirst b ps qs sent new)) same c.spread.ensures.err) in
    let was = g.O.Sink.faults c.args.journal.now.sink in
    let mid = g.O.Sink.faults c.note.new.self.sink in
    let now = g.O.Sink.faults c.spread.new.journal.sink in
    let all = left es a ps had late apart sent is qs new r ok err in record {
      ports = all.kept;
      number = c.spread.ensures.number ∙ c.note.ensures.number;
      posted = all.posted;
      ok = on-ok r ok (λ done. carried-all es a ps had late apart sent is qs new done);
      err = on-err r all.first;
      late = subst (λ targets. DropsLate targets [] new) (sym all.kept.0) all.drops;
      whole = c.spread.ensures.whole;
      going = c.spread.ensures.going;
      later = later-still was mid now c.note.ensures.later c.spread.ensures.later;
      cause = λ failed. ((c.spread.ensures.cause failed).0, rose-later was mid now c.note.ensures.later (c.spread.ensures.cause failed).1);
    }
