use Rattle.std.proofs.Common.{◌≡◌, ◌≤◌, ◌+◌, List, [], ◌∷◌, ◌++◌, length, refl, ap, sym, ◌∙◌}
use Rattle.log_lane.specs.Lane.{lane_put, lane_read}
use Rattle.trail.specs.declared.event.Addressed.{Addressed}
use Rattle.trail.specs.declared.event.TrailEvent.{TrailEvent}
use Rattle.trail.specs.declared.event.TrailEvent.TheVariants.{Send}
use Rattle.node_played.proofs.Grown.{kept_on, same_on, needs_on, released_on, releases, goes_by, last_by}
use Rattle.node_played.specs.Lives.{made_texts}
use Rattle.node_played.proofs.played.Played.send.Goals as goal

pub invariant_of-self-2 : goal.invariant_of-self-2
invariant_of-self-2 g c =
    let s = c.args.self.now in
    let m = g.S.Service.meaning in
    let opening = g.P.Life.opening in
    let restored = g.P.Home.restored in
    let was = s.kept c.requires.whole in
    let a : Addressed = c.addressed_of.result in
    let longer = c.note.ensures ∙ ap (λ (l : List TrailEvent). l ++ Send a ∷ []) c.reserve.ensures.items in record {
      kept = λ _. (c.release.ensures.broken ∙ was.0, kept_on m opening s.trail.items _ a longer _ _ was.1 c.release.ensures.node);
      restored = same_on m opening s.trail.items _ a longer (λ r es firm. r ≡ restored) s.restored;
      few = same_on m opening s.trail.items _ a longer (λ r es firm. restored ≤ length es) s.few;
      put = same_on m opening s.trail.items _ a longer (λ r es firm. lane_put s.lane ≡ made_texts restored es) s.put;
      firm = same_on m opening s.trail.items _ a longer (λ r es firm. firm ≤ restored + lane_read s.lane) s.firm;
      needs = needs_on m opening s.trail.items _ a longer (restored + lane_read s.lane) s.firm s.needs;
      released = released_on m opening s.trail.items _ a longer (releases _ _ a c.in-Some.held was.1 c.in-Some.ensures.held (sym c.addressed_of.ensures.to) (sym c.addressed_of.ensures.message)) s.released;
      named = s.named;
      ends = s.ends ∙ c.requires.going ∙ sym (goes_by s.trail.items _ (Send a) longer c.requires.going refl);
      end_last = last_by s.trail.items _ (Send a) longer c.requires.going;
    }
