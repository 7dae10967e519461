use Rattle.std.proofs.Common.{◌≡◌, ◌∙◌, ◌+◌, ◌<◌, ℕ, List, Err, length, vec_len, vec_capacity, refl, ap, subst, arith}
use Rattle.faults.specs.declared.Fault.{Fault}
use Rattle.faults.specs.declared.Fault.TheVariants as faults
use Rattle.disk_model.specs.Rooms.{address, KeepsOthers}
use Rattle.group_opening.specs.Rooms.{KeepsRest}
use Rattle.group_opening.proofs.Berthing.{below-all}
use Rattle.group_opening.proofs.Lending.{lent-along, lent-sink-next, rest-sink-next, returned-along}
use Rattle.group_opening.proofs.Opening.{rose-since, rose-still}
use Rattle.group_opening.proofs.Ranges.{change}
use Rattle.group_opening.proofs.Sinking.{all-taken, client-more, headed-along, members-more, taken-still, counted, one-counted, still-room, room-left-by, number-fits, few-sinks, later-by, from-zero}
use Rattle.group_opening.proofs.gathering.take_sinks.Goals as goal

pub loop-index-init : goal.loop-index-init
loop-index-init g c = record {
  many = c.in-Ok.ensures.many;
  room = c.in-Ok.ensures.room;
  client = c.in-Ok.ensures.headed;
  members = λ i d b less. absurd (omega (arith, less));
  later = c.first_sink.ensures.later;
  lent = c.in-Ok.ensures.lent;
}

pub returns-in-Err-clause-back : goal.returns-in-Err-clause-back
returns-in-Err-clause-back g c =
    let t = g.T.TrailRoom in
    let s = c.args.settings.now in
    subst (λ (n : ℕ). KeepsRest s.dir 0 (n + 1) 1 (change (t.kept c.args.trails.now) (t.kept c.first_sink.new.trails) (t.taken c.args.trails.now) (t.taken c.first_sink.new.trails))) c.requires.many c.in-Err.ensures.back

pub next_sink-requires : goal.next_sink-requires
next_sink-requires g c = record {
  few = number-fits (length c.args.berths.now) c.loop-index.index c.first_sink.ensures.few c.loop-index-test.true;
  room = room-left-by (length c.args.berths.now) c.loop-index.index (vec_len c.loop-index.sinks) (vec_capacity c.loop-index.sinks) c.loop-index.invariant.many c.loop-index.invariant.room c.loop-index-test.true;
}

pub loop-index-preserved : goal.loop-index-preserved
loop-index-preserved g c =
    let sink = g.T.Sink.Sink in
    let l = c.loop-index in
    let dir = c.args.settings.now.dir in
    let old = g.T.TrailRoom.taken l.trails in
    let new = g.T.TrailRoom.taken c.next_sink.new.trails in
    let number = l.index + 1 in
    let sinks = l.sinks.items in
    let sinks' = c.next_sink.new.sinks.items in
    let next = c.in-Ok-next_sink.ensures.more in
    let many = counted (vec_len l.sinks) (length sinks) l.index l.invariant.many l.sinks.ok.0 in
    let keeps = subst (λ (d : List ℕ). KeepsOthers (address d number 0) old new) c.as_slice-dir.ensures c.next_sink.ensures.others_taken in
    let one = headed-along sink.written sink.faults dir new c.as_slice-dir.result.now number number c.index-berths-index.result.head c.index-berths-index.result.entries c.as_slice.result.now next.0 c.as_slice-dir.ensures refl c.as_slice.ensures next.1.1 in
    record {
      many = one-counted (vec_len l.sinks) (vec_len c.next_sink.new.sinks) l.index l.invariant.many c.in-Ok-next_sink.ensures.many.0;
      room = still-room (length c.args.berths.now) (vec_capacity l.sinks) (vec_capacity c.next_sink.new.sinks) l.invariant.room c.in-Ok-next_sink.ensures.many.1;
      client = client-more sink.written sink.faults dir old new number sinks sinks' next.0 c.args.client.now l.index next.1.0 many refl keeps l.invariant.client;
      members = members-more sink.written sink.faults dir c.args.berths.now old new number l.index sinks sinks' next.0 c.index-berths-index.result next.1.0 many refl c.index-berths-index.is c.loop-index-test.true keeps one l.invariant.members;
      later = later-by (g.T.TrailRoom.faults c.args.trails.now) (g.T.TrailRoom.faults l.trails) (g.T.TrailRoom.faults c.next_sink.new.trails) l.invariant.later c.next_sink.ensures.later;
      lent = lent-sink-next dir c.as_slice-dir.result.now 0 (l.index + 1) number (g.T.TrailRoom.kept c.args.trails.now) (g.T.TrailRoom.kept l.trails) (g.T.TrailRoom.kept c.next_sink.new.trails) (g.T.TrailRoom.taken c.args.trails.now) old new
          c.as_slice-dir.ensures refl (from-zero (l.index + 1)) l.invariant.lent c.next_sink.ensures.others c.next_sink.ensures.others_taken c.in-Ok-next_sink.ensures.free;
    }

pub keep_sinks-requires-clause-few : goal.keep_sinks-requires-clause-few
keep_sinks-requires-clause-few g c = few-sinks (length c.args.berths.now) c.loop-index.index (vec_len c.loop-index.sinks) (vec_len c.next_sink.new.sinks) (ap vec_len c.in-Err-next_sink.ensures.same) c.loop-index.invariant.many c.first_sink.ensures.few c.loop-index-test.true

pub keep_sinks-requires-clause-taken : goal.keep_sinks-requires-clause-taken
keep_sinks-requires-clause-taken g c =
    let sink = g.T.Sink.Sink in
    let l = c.loop-index in
    let dir = c.args.settings.now.dir in
    let old = g.T.TrailRoom.taken l.trails in
    let new = g.T.TrailRoom.taken c.next_sink.new.trails in
    let many = counted (vec_len l.sinks) (length l.sinks.items) l.index l.invariant.many l.sinks.ok.0 in
    λ index less.
    let had = taken-still sink.written sink.faults dir old new c.as_slice-dir.result.now (l.index + 1) (l.index + 1) c.as_slice-dir.ensures refl c.next_sink.ensures.others_taken
    (all-taken sink.written sink.faults dir c.args.berths.now old c.args.client.now l.index c.index-berths-index.result l.sinks.items many l.invariant.client l.invariant.members) index (subst (λ (n : ℕ). index < n) (ap vec_len c.in-Err-next_sink.ensures.same ∙ l.invariant.many) less) in
    (had.0, ap (λ (d : List ℕ). new (address d index 0)) c.as_slice-dir.ensures ∙ had.1)

pub returns-in-Err-next_sink-clause-later : goal.returns-in-Err-next_sink-clause-later
returns-in-Err-next_sink-clause-later g c =
    let t = g.T.TrailRoom in
    later-by (t.faults c.args.trails.now) (t.faults c.loop-index.trails) (t.faults c.keep_sinks.new.trails) c.loop-index.invariant.later
    (later-by (t.faults c.loop-index.trails) (t.faults c.next_sink.new.trails) (t.faults c.keep_sinks.new.trails) c.next_sink.ensures.later c.keep_sinks.ensures.later)

pub returns-in-Err-next_sink-clause-cause : goal.returns-in-Err-next_sink-clause-cause
returns-in-Err-next_sink-clause-cause g c = λ is.
    let t = g.T.TrailRoom in
    let failed : c.in-Err-next_sink.fault ≡ faults.Failed = cc in
    rose-since (t.faults c.args.trails.now) (t.faults c.loop-index.trails) (t.faults c.keep_sinks.new.trails) c.loop-index.invariant.later
    (rose-still (t.faults c.loop-index.trails) (t.faults c.next_sink.new.trails) (t.faults c.keep_sinks.new.trails) (c.in-Err-next_sink.ensures.cause (ap (λ (f : Fault). Err f) failed)) c.keep_sinks.ensures.later)

pub returns-in-Err-clause-many : goal.returns-in-Err-clause-many
returns-in-Err-clause-many g c = tt

pub returns-in-Err-next_sink-clause-many : goal.returns-in-Err-next_sink-clause-many
returns-in-Err-next_sink-clause-many g c = tt

pub returns-in-Err-clause-lent : goal.returns-in-Err-clause-lent
returns-in-Err-clause-lent g c = tt

pub returns-in-Err-next_sink-clause-lent : goal.returns-in-Err-next_sink-clause-lent
returns-in-Err-next_sink-clause-lent g c = tt

pub returns-in-Err-clause-client : goal.returns-in-Err-clause-client
returns-in-Err-clause-client g c = tt

pub returns-in-Err-next_sink-clause-client : goal.returns-in-Err-next_sink-clause-client
returns-in-Err-next_sink-clause-client g c = tt

pub returns-in-Err-clause-members : goal.returns-in-Err-clause-members
returns-in-Err-clause-members g c = tt

pub returns-in-Err-next_sink-clause-members : goal.returns-in-Err-next_sink-clause-members
returns-in-Err-next_sink-clause-members g c = tt

pub returns-in-Err-clause-cause : goal.returns-in-Err-clause-cause
returns-in-Err-clause-cause g c = c.in-Err.ensures.cause

pub returns-in-Err-clause-later : goal.returns-in-Err-clause-later
returns-in-Err-clause-later g c = c.first_sink.ensures.later

pub returns-clause-back : goal.returns-clause-back
returns-clause-back g c = tt

pub returns-clause-client : goal.returns-clause-client
returns-clause-client g c = c.loop-index.invariant.client

pub returns-clause-later : goal.returns-clause-later
returns-clause-later g c = c.loop-index.invariant.later

pub returns-clause-members : goal.returns-clause-members
returns-clause-members g c = λ i d b within. c.loop-index.invariant.members i d b (below-all i c.args.settings.now.members (length c.args.berths.now) c.loop-index.index within c.requires.many c.loop-index-test.false)

-- ---- what it leaves of the room

pub returns-clause-lent : goal.returns-clause-lent
returns-clause-lent g c =
    let l = c.loop-index in
    let t = g.T.TrailRoom in
    let s = c.args.settings.now in
    let all : l.index + 1 ≡ s.members + 1 = omega (arith, c.loop-index-test.false, l.auto.index-end, c.requires.many) in
    lent-along s.dir s.dir 0 0 (s.members + 1) (l.index + 1) 1 (change (t.kept c.args.trails.now) (t.kept l.trails) (t.taken c.args.trails.now) (t.taken l.trails)) refl refl all l.invariant.lent

pub returns-in-Err-next_sink-clause-back : goal.returns-in-Err-next_sink-clause-back
returns-in-Err-next_sink-clause-back g c =
    let l = c.loop-index in
    let t = g.T.TrailRoom in
    let s = c.args.settings.now in
    let dir = c.as_slice-dir.result.now in
    let taken = c.next_sink.new.trails in
    let after = c.keep_sinks.new.trails in
    let upto : l.index + 1 < s.members + 1 = omega (arith, c.loop-index-test.true, c.requires.many) in
    rest-sink-next s.dir dir 0 (l.index + 1) (l.index + 1) (t.kept c.args.trails.now) (t.kept l.trails) (t.kept taken) (t.taken c.args.trails.now) (t.taken l.trails) (t.taken taken) c.as_slice-dir.ensures refl
    (from-zero (l.index + 1)) (s.members + 1) (t.kept after) (t.taken after) upto l.invariant.lent c.next_sink.ensures.others c.next_sink.ensures.others_taken c.in-Err-next_sink.ensures.back
    (returned-along s.dir dir 0 0 (l.index + 1) (vec_len c.next_sink.new.sinks) 1 (change (t.kept taken) (t.kept after) (t.taken taken) (t.taken after)) c.as_slice-dir.ensures refl (ap vec_len c.in-Err-next_sink.ensures.same ∙ l.invariant.many) c.keep_sinks.ensures.returned)
