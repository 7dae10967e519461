-- A node stays sound, whatever comes to it.
use Rattle.std.proofs.Common.{Err, List, Ok, Result, arith, false, is_some, nat_le, refl, true, ℕ, ◌≡◌, [], ◌∷◌}
use Rattle.agreement_laws.specs.Statements.{Statement, statements}
use Rattle.node_rules.specs.Nodes.{Node, recording}
use Rattle.node_rules.specs.Reopening.{stopped}
use Rattle.node_rules.specs.Rules.{delivers}
use Rattle.node_rules.specs.Steps.{opened, outset, released, staying, step_of, takes_in}
use Rattle.node_rules.specs.declared.node.Held.{Held}
use Rattle.smart_base.specs.Lists.{Each}
use Rattle.smart_base.specs.Views.{View, is_view}
use Rattle.smart_messages.specs.Messages.{decoded}
use Rattle.smart_messages.specs.declared.message.Message.{Message}
use Rattle.smart_statements.specs.declared.entry.NodeEvent.{NodeEvent}
use Rattle.smart_statements.specs.declared.entry.NodeEvent.TheVariants.{Arrive, Deliver, Firm, Tick}
use Rattle.smart_service.specs.Services.{Meaning}
use Rattle.vote_book.proofs.Growth.{grows, none_lawful}
use Rattle.vote_book.proofs.Tidy.{grows_tidy, none_tidy}
use Rattle.vote_book.specs.declared.entry.Opening.{Opening}
use Rattle.vote_book.specs.declared.entry.LogEntry.TheVariants.{Opened}
use Rattle.node_laws.proofs.Adopting.{sound_adopts}
use Rattle.node_laws.proofs.Arriving.{sound_kept, sound_noted}
use Rattle.node_laws.proofs.Books.{none_ranged, ranged_push}
use Rattle.node_laws.proofs.Deciding.{sound_decides}
use Rattle.node_laws.proofs.Delivering.{sound_answers_again, sound_delivers}
use Rattle.node_laws.proofs.Installing.{sound_answers_state, sound_installs, sound_plans}
use Rattle.node_rules.specs.Transfers.{installs}
use Rattle.node_laws.proofs.Leading.{sound_joins, sound_leads, sound_times}
use Rattle.node_laws.proofs.Marking.{sound_mark}
use Rattle.node_laws.proofs.Nodes.{Late, aside}
use Rattle.node_laws.proofs.Promising.{sound_promises}
use Rattle.node_laws.proofs.Proposing.{sound_proposes}
use Rattle.node_laws.proofs.Voting.{sound_accepts, sound_writes}
use Rattle.node_laws.specs.Sound.{IsHeld, IsSound, IsStated, IsStatedEvent}
use Rattle.agreement_laws.proofs.Lists.{either}
use Rattle.node_rules.proofs.Rulewise.{KeptByRules, ForRead, ForEvent, by_mark, takes_in_as, keeps_from}

sound_rules : {S : Type 0} (stated : List Statement) (view : View) → KeptByRules {S = S} (λ n. IsSound stated view n)
sound_rules stated view = record {
  by_adopts = λ n is. sound_adopts stated view n is;
  by_joins = λ n is. sound_joins stated view n is;
  by_promises = λ n is. sound_promises stated view n is;
  by_leads = λ n is. sound_leads stated view n is;
  by_proposes = λ n is. sound_proposes stated view n is;
  by_writes = λ n is. sound_writes stated view n is;
  by_accepts = λ n is. sound_accepts stated view n is;
  by_decides = λ n is. sound_decides stated view n is;
  by_times = λ n is. sound_times stated view n is;
  by_answers = λ n asked is. sound_answers_again stated view n asked is;
  by_states = λ n a is. sound_answers_state stated view n a is;
  by_plans = λ n is. sound_plans stated view n is;
}

pub sound_takes_in : {S : Type 0} (stated : List Statement) (view : View) (n : Node S) (event : NodeEvent) → IsSound stated view n
    → IsStatedEvent n.secret stated event → IsSound stated view (takes_in n event).node
sound_takes_in {S} stated view n event is was =
    takes_in_as (λ (x : Node S). IsSound stated view x) (IsStated n.secret stated) n event (λ message. sound_noted stated view n message is)
    (λ message none came. sound_kept stated view n message is none came)
    (λ count. aside stated view n count n.held n.proposed n.stop_made n.sync_made n.impatient n.behind is is.held is.late) (stated_event event was) is
  where
    stated_read : (read : Result Message ℕ) → ((m : Message) → read ≡ Ok m → IsStated n.secret stated m) → ForRead (IsStated n.secret stated) read
    stated_read (Ok m) was = was m refl
    stated_read (Err at) was = tt

    stated_event : (e : NodeEvent) → IsStatedEvent n.secret stated e → ForEvent (IsStated n.secret stated) e
    stated_event (Arrive bytes) was = stated_read (decoded bytes) was
    stated_event Tick was = tt
    stated_event Deliver was = tt
    stated_event (Firm count) was = tt

pub sound_step : {S : Type 0} (m : Meaning S) (stated : List Statement) (view : View) (n : Node S) (event : NodeEvent) → IsSound stated view n
    → IsStatedEvent n.secret stated event → IsSound stated view (step_of m n event).node
sound_step {S = S} m stated view n event is was =
    let taken : IsSound stated view (takes_in n event).node = sound_takes_in stated view n event is was in
    let t : Node S = installs m (takes_in n event).node in
    let installed : IsSound stated view t = sound_installs m stated view (takes_in n event).node taken in
    let delivered : IsSound stated view (delivers m t) = sound_delivers m stated view t installed in
    keeps_from m (λ (x : Node S). IsSound stated view x) n event (sound_rules stated view) taken installed
    (by_mark m (λ (x : Node S). IsSound stated view x) (is_some t.waiting) (delivers m t) delivered (λ due. sound_mark m stated view (delivers m t) delivered))

-- ---- messages that leave, and the beginning

pub each_staying : (P : Held → Type 0) (firm : ℕ) (held : List Held) → Each P held → Each P (staying firm held)
each_staying P firm [] each = tt
each_staying P firm (h ∷ hs) each = either (λ (rest : List Held). Each P rest) (nat_le h.needs firm) (staying firm hs) (h ∷ hs) (each_staying P firm hs each.1) each

pub sound_released : {S : Type 0} (stated : List Statement) (view : View) (n : Node S) → IsSound stated view n → IsSound stated view (released n)
sound_released stated view n is =
    aside stated view n n.firm (staying n.firm n.held) n.proposed n.stop_made n.sync_made n.impatient n.behind is
    (each_staying (IsHeld n.secret n.id stated n.entries) n.firm n.held is.held)
    (record { few = is.late.few; each = each_staying (λ (h : Held). Each (Late stated n) (statements n.secret h.message)) n.firm n.held is.late.each })

-- the node whose book is its opening alone
pub sound_begun : {S : Type 0} (m : Meaning S) (stated : List Statement) (secret : List ℕ) (id : ℕ) (view : View) (period : ℕ) (o : Opening) → is_view view ≡ true
    → IsSound stated view (recording (stopped (outset m secret id view period)) (Opened o))
sound_begun m stated secret id view period o viewed = record {
  views = record { rest = []; begins = refl; follows = refl; valid = (viewed, tt) };
  begun = refl;
  lawful = grows 0 0 [] (Opened o) (none_lawful 0 0) tt;
  tidy = grows_tidy [] (Opened o) none_tidy tt;
  last = omega arith;
  latest = refl;
  within = (tt, tt);
  ranged = ranged_push 0 (view ∷ []) [] (Opened o) (none_ranged 0 (view ∷ [])) (record { within = tt; newest = tt });
  backed = (λ v there. tt, tt);
  batches = (tt, tt);
  waiting = tt;
  table = tt;
  arrivals = tt;
  stops = tt;
  reports = tt;
  syncs = tt;
  decisions = tt;
  offers = tt;
  marked = tt;
  fetch = tt;
  pool = tt;
  held = tt;
  late = record { few = omega arith; each = tt };
}

pub sound_opened : {S : Type 0} (m : Meaning S) (secret : List ℕ) (id : ℕ) (view : View) (period : ℕ) → is_view view ≡ true → IsSound [] view (opened (outset m secret id view period))
sound_opened m secret id view period viewed =
    let o : Opening = record { member = id; period = period; view = view } in
    aside [] view (recording (stopped (outset m secret id view period)) (Opened o)) 0 [] [] false false false false (sound_begun m [] secret id view period o viewed) tt (record { few = omega arith; each = tt })
