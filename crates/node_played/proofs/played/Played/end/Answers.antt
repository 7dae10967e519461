use Rattle.std.proofs.Common.{◌≡◌, ◌≤◌, ◌+◌, ℕ, List, [], ◌∷◌, ◌++◌, length, ap, sym, subst, ◌∙◌}
use Rattle.log_lane.specs.Lane.{lane_read}
use Rattle.node_rules.specs.Nodes.{Node}
use Rattle.trail.specs.declared.event.TrailEvent.{TrailEvent}
use Rattle.trail.specs.declared.event.TrailEvent.TheVariants.{End}
use Rattle.node_played.proofs.Grown.{replayed_end, needed_end, released_end, last_by, ends_by}
use Rattle.node_played.specs.Lives.{made_texts}
use Rattle.node_played.proofs.played.Played.end.Goals as goal

pub invariant_of-self-2 : goal.invariant_of-self-2
invariant_of-self-2 g c =
    let s = c.args.self.now in
    let m = g.S.Service.meaning in
    let opening = g.P.Life.opening in
    let longer = c.note.ensures ∙ ap (λ (l : List TrailEvent). l ++ End ∷ []) c.reserve.ensures.items in
    let back = sym (replayed_end m opening s.trail.items _ longer) in record {
      kept = λ stuck. ((s.kept stuck).0, (s.kept stuck).1 ∙ back);
      restored = subst (λ (n : Node g.row.S.Denot). n.restored ≡ g.P.Home.restored) back s.restored;
      few = subst (λ (n : Node g.row.S.Denot). g.P.Home.restored ≤ length n.entries) back s.few;
      put = s.put ∙ ap (λ (n : Node g.row.S.Denot). made_texts g.P.Home.restored n.entries) back;
      firm = subst (λ (n : Node g.row.S.Denot). n.firm ≤ g.P.Home.restored + lane_read s.lane) back s.firm;
      needs = subst (λ (n : ℕ). n ≤ g.P.Home.restored + lane_read s.lane) (sym (needed_end m opening s.trail.items _ longer)) s.needs;
      released = released_end m opening s.trail.items _ longer s.released;
      named = s.named;
      ends = ends_by s.trail.items _ longer;
      end_last = last_by s.trail.items _ End longer c.requires.going;
    }
