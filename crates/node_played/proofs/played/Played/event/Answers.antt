use Rattle.std.proofs.Common.{◌+◌, ℕ, List, [], ◌∷◌, ◌++◌, refl, sym, ap, ◌∙◌}
use Rattle.log_lane.specs.Lane.{lane_put, lane_read}
use Rattle.trail.specs.declared.event.TrailEvent.{TrailEvent}
use Rattle.trail.specs.declared.event.TrailEvent.TheVariants.{Happens}
use Rattle.node_played.proofs.Grown.{kept_by, restored_by, few_by, put_by, firm_by, needs_by, released_by, goes_by, last_by, texts_are, room_for}
use Rattle.node_played.proofs.played.Played.event.Goals as goal

pub invariant_of-self-2 : goal.invariant_of-self-2
invariant_of-self-2 g c =
    let s = c.args.self.now in
    let m = g.S.Service.meaning in
    let opening = g.P.Life.opening in
    let restored = g.P.Home.restored in
    let was = s.kept c.requires.whole in
    let event = c.args.event in
    let longer = c.note.ensures ∙ ap (λ (l : List TrailEvent). l ++ Happens event ∷ []) c.reserve.ensures.items in
    let is = c.in-Ok.ensures.node in
    let texts = texts_are _ _ _ _ _ c.made-made.ensures c.book.ensures c.in-Ok-texts_behind.ensures in record {
      kept = λ _. (c.in-Ok.ensures.broken, kept_by m opening s.trail.items _ event longer _ _ was.1 is);
      restored = restored_by m opening s.trail.items _ event longer restored s.restored;
      few = few_by m opening s.trail.items _ event longer restored s.few;
      put = put_by m opening s.trail.items _ event longer restored _ _ _ _ was.1 is s.few s.put (c.put_all.ensures.put ∙ ap (λ (l : List (List ℕ)). lane_put s.lane ++ l) texts);
      firm = firm_by m opening s.trail.items _ event longer restored (lane_read s.lane) _ s.restored s.firm c.requires.read c.put_all.ensures.same.0;
      needs = needs_by m opening s.trail.items _ event longer (restored + lane_read s.lane) _ s.needs (ap (λ (n : ℕ). restored + n) c.put_all.ensures.same.0);
      released = released_by m opening s.trail.items _ event longer s.released;
      named = c.put_all.ensures.lane ∙ s.named;
      ends = s.ends ∙ c.requires.going ∙ sym (goes_by s.trail.items _ (Happens event) longer c.requires.going refl);
      end_last = last_by s.trail.items _ (Happens event) longer c.requires.going;
    }

pub put_all-requires : goal.put_all-requires
put_all-requires g c =
    room_for g.S.Service.meaning _ _ c.args.event _ _ c.in-Ok.ensures.node (texts_are _ _ _ _ _ c.made-made.ensures c.book.ensures c.in-Ok-texts_behind.ensures) c.requires.room
