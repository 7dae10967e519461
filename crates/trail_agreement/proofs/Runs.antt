-- What holds of a member's node throughout its trail.
use Rattle.std.proofs.Common.{◌≡◌, ℕ, nat_le, List, [], ◌∷◌, ◌++◌, refl, ap, sym, ◌∙◌, subst, append-nil, append_assoc}
use Rattle.smart_base.specs.Lists.{Each}
use Rattle.smart_base.specs.Views.{View}
use Rattle.smart_statements.specs.declared.entry.NodeEvent.{NodeEvent}
use Rattle.smart_statements.specs.declared.entry.NodeEvent.TheVariants.{Arrive, Tick, Deliver, Firm}
use Rattle.smart_service.specs.Services.{Meaning}
use Rattle.vote_book.specs.declared.entry.LogEntry.{LogEntry}
use Rattle.node_rules.specs.Nodes.{Node, regency_of}
use Rattle.node_rules.specs.Steps.{step_of, after_first}
use Rattle.node_rules.specs.declared.node.Held.{Held}
use Rattle.agreement_laws.specs.Statements.{Statement, statements}
use Rattle.agreement_laws.proofs.Lists.{either}
use Rattle.node_laws.specs.Sound.{IsHeld, IsSound, IsStatedEvent}
use Rattle.node_laws.proofs.Nodes.{Late, aside}
use Rattle.node_laws.proofs.Passes.{sound_step}
use Rattle.replica_laws.specs.Sending.{IsByteEvent}
use Rattle.replica_laws.proofs.FitNodes.{FitNode, event-fits, event-settles, fit-step}
use Rattle.replica_laws.proofs.Genuine.{IsGood}
use Rattle.replica_laws.proofs.Longer.{opening-step}
use Rattle.replica_laws.proofs.Onward.{Longer, HoldsRight, NodeRests, told_firm, onward-step}
use Rattle.replica_laws.proofs.Parts.{ArePartsBytes, parts-step}
use Rattle.replica_laws.proofs.Small.{IsBrief}
use Rattle.trail.specs.declared.event.TrailEvent.{TrailEvent}
use Rattle.trail.specs.declared.event.TrailEvent.TheVariants.{Happens, Send, Lost, Polls, End}
use Rattle.trail_rules.specs.Replays.{node_step, one_left, after, replay}

-- what holds of a node, by what has been stated, in a group of a secret that begins with a view
pub record IsRight {S : Type 0} (m : Meaning S) (stated : List Statement) (secret : List ℕ) (view : View) (id : ℕ) (n : Node S) : Type 0 where
  pub sound : IsSound stated view n
  pub rests : NodeRests n
  pub fit : FitNode m secret n
  pub parts : ArePartsBytes n.fetch
  pub opening : n.opening ≡ 0
  pub named : n.id ≡ id

-- an event that may come: bytes of which all that stands in them and verifies has been stated
abbrev pub MayArrive : List Statement → List ℕ → TrailEvent → Type 0
MayArrive stated secret (Happens event) = IsStatedEvent secret stated event × IsByteEvent event
MayArrive stated secret (Send a) = Unit {0}
MayArrive stated secret (Lost a) = Unit {0}
MayArrive stated secret (Polls count) = Unit {0}
MayArrive stated secret End = Unit {0}

-- what holds of each held message, holds without the first
pub each_first : (P : Held → Type 0) (firm : ℕ) (held : List Held) → Each P held → Each P (after_first firm held)
each_first P firm [] each = tt
each_first P firm (h ∷ hs) each = either (λ (rest : List Held). Each P rest) (nat_le h.needs firm) hs (h ∷ hs) each.1 each

fit-left : {S : Type 0} {m : Meaning S} (secret : List ℕ) (n : Node S) → FitNode m secret n → FitNode m secret (one_left n)
unfolding regency_of
fit-left secret n is = record {
  named = is.named;
  shared = is.shared;
  view = is.view;
  views = is.views;
  regency = is.regency;
  lines = is.lines;
  pool = is.pool;
  arrivals = is.arrivals;
  told = is.told;
  begun = is.begun;
  book = is.book;
  waiting = is.waiting;
  held = each_first (λ (h : Held). IsGood secret h.message) n.firm n.held is.held;
  service = is.service;
  transfers = is.transfers;
}

sound-left : {S : Type 0} (stated : List Statement) (view : View) (n : Node S) → IsSound stated view n → IsSound stated view (one_left n)
sound-left stated view n is =
    aside stated view n n.firm (after_first n.firm n.held) n.proposed n.stop_made n.sync_made n.impatient n.behind is
    (each_first (IsHeld n.secret n.id stated n.entries) n.firm n.held is.held)
    (record { few = is.late.few; each = each_first (λ (h : Held). Each (Late stated n) (statements n.secret h.message)) n.firm n.held is.late.each })

told_named : {S : Type 0} (n : Node S) (event : NodeEvent) → (told_firm n event).id ≡ n.id
told_named n (Arrive bytes) = refl
told_named n Tick = refl
told_named n Deliver = refl
told_named n (Firm count) = refl

told_entries : {S : Type 0} (n : Node S) (event : NodeEvent) → (told_firm n event).entries ≡ n.entries
told_entries n (Arrive bytes) = refl
told_entries n Tick = refl
told_entries n Deliver = refl
told_entries n (Firm count) = refl

module _ {S : Type 0} (m : Meaning S) (brief : IsBrief m) (stated : List Statement) (secret : List ℕ) (view : View) (id : ℕ) where
  -- an event of the node keeps it
  right-step : (n : Node S) (event : NodeEvent) → IsRight m stated secret view id n → IsStatedEvent secret stated event → IsByteEvent event → IsRight m stated secret view id (step_of m n event).node
  right-step n event is was bytes =
      let onward = onward-step m n event is.rests in
      record {
        sound = sound_step m stated view n event is.sound (subst (λ (k : List ℕ). IsStatedEvent k stated event) (sym is.fit.shared) was);
        rests = onward.rests;
        fit = fit-step secret m brief n event (event-fits event bytes).0 (event-settles m brief n event bytes is.parts) is.fit;
        parts = parts-step m n event (event-fits event bytes).1 is.parts;
        opening = opening-step m n event ∙ is.opening;
        named = onward.id ∙ (told_named n event ∙ is.named);
      }

  -- so does a message that leaves
  right-left : (n : Node S) → IsRight m stated secret view id n → IsRight m stated secret view id (one_left n)
  right-left n is = record {
    sound = sound-left stated view n is.sound;
    rests = record { held = each_first (HoldsRight n.id n.entries) n.firm n.held is.rests.held; waits = is.rests.waits; lines = is.rests.lines; views = is.rests.views };
    fit = fit-left secret n is.fit;
    parts = is.parts;
    opening = is.opening;
    named = is.named;
  }

  pub right-after : (n : Node S) (e : TrailEvent) → IsRight m stated secret view id n → MayArrive stated secret e → IsRight m stated secret view id (after (node_step m) n e)
  right-after n (Happens event) is may = right-step n event is may.0 may.1
  right-after n (Send a) is may = right-left n is
  right-after n (Lost a) is may = is
  right-after n (Polls count) is may = is
  right-after n End is may = is

  -- and the events of a trail do
  pub right-replay : (n : Node S) (events : List TrailEvent) → IsRight m stated secret view id n → Each (MayArrive stated secret) events → IsRight m stated secret view id (replay (node_step m) n events)
  right-replay n [] is may = is
  right-replay n (e ∷ events) is may = right-replay (after (node_step m) n e) events (right-after n e is may.0) may.1

-- ---- books only grow

none-more : (xs : List LogEntry) → Longer xs xs
none-more xs = record { more = []; split = sym (append-nil xs) }

longer-then : (xs ys zs : List LogEntry) → Longer xs ys → Longer ys zs → Longer xs zs
longer-then xs ys zs f g = record { more = f.more ++ g.more; split = g.split ∙ (ap (λ (es : List LogEntry). es ++ g.more) f.split ∙ append_assoc xs f.more g.more) }

module _ {S : Type 0} (m : Meaning S) where
  grows-step : (n : Node S) (event : NodeEvent) → NodeRests n → Longer n.entries (step_of m n event).node.entries
  grows-step n event is =
      let onward = onward-step m n event is in
      record { more = onward.more; split = onward.book ∙ ap (λ (es : List LogEntry). es ++ onward.more) (told_entries n event) }

  pub grows-after : (n : Node S) (e : TrailEvent) → NodeRests n → Longer n.entries (after (node_step m) n e).entries
  grows-after n (Happens event) is = grows-step n event is
  grows-after n (Send a) is = none-more n.entries
  grows-after n (Lost a) is = none-more n.entries
  grows-after n (Polls count) is = none-more n.entries
  grows-after n End is = none-more n.entries

module _ {S : Type 0} (m : Meaning S) (brief : IsBrief m) (stated : List Statement) (secret : List ℕ) (view : View) (id : ℕ) where
  pub grows-replay : (n : Node S) (events : List TrailEvent) → IsRight m stated secret view id n → Each (MayArrive stated secret) events → Longer n.entries (replay (node_step m) n events).entries
  grows-replay n [] is may = none-more n.entries
  grows-replay n (e ∷ events) is may =
      let next : Node S = after (node_step m) n e in
      longer-then n.entries next.entries (replay (node_step m) next events).entries (grows-after m n e is.rests)
      (grows-replay next events (right-after m brief stated secret view id n e is may.0) may.1)
