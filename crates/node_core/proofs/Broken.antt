-- What a step leaves in the book where it is stopped half-way.
use Rattle.std.proofs.Common.{◌≡◌, ◌++◌, List, [], ◌∷◌, refl, sym, ap, ◌∙◌, Some, None}
use Rattle.smart_base.specs.Lists.{Each}
use Rattle.smart_statements.specs.declared.entry.NodeEvent.{NodeEvent}
use Rattle.smart_service.specs.Services.{Meaning}
use Rattle.node_rules.specs.Nodes.{Node}
use Rattle.node_rules.specs.Steps.{Row, takes_in, install_row, deliver_row, decide_row, time_row, answer_row, turn_rows, vote_rows, end_rows, rules, pass, step_of}
use Rattle.node_rules.specs.Transfers.{installs}
use Rattle.node_rules.specs.Kept.{trimmed, core_step}
use Rattle.node_rules.specs.declared.node.Cause.{Cause}
use Rattle.node_rules.specs.declared.node.Fired.{Fired}
use Rattle.node_rules.specs.declared.node.Why.{Why}
use Rattle.node_rules.proofs.Entries.{takes_in_same, event_adds, answer_adds}
use Rattle.node_rules.proofs.Rulewise.{pass_append, pass_first}
use Rattle.node_core.specs.Apart.{time_rows, front_rows}
use Rattle.node_state.specs.Broken.{IsGrown, IsPartly}
use Rattle.node_state.proofs.Broken.{front_same, front_of, partly_none, partly_in}
use Rattle.node_state.proofs.Stopped.{RowGrows, install_grows, deliver_grows, turns_grow, votes_grow, ends_grow, each_grows, pass_grows, stops_here, stops_later, stops_within, stops_behind}

-- ---- the rules behind the votes

pub time_grow : (S : Type 0) → Each (RowGrows {S = S}) time_rows
unfolding end_rows
time_grow S = let grow = ends_grow S in (grow.0, (grow.1.0, tt))

pub ends_pass : {S : Type 0} (n d t : Node S) (cause : Cause) (f g h : List Fired) → decide_row n cause f ≡ (d, g) → time_row d cause g ≡ (t, h) → pass time_rows n cause f ≡ (t, h)
unfolding pass
ends_pass n d t cause f g h decided timed =
    pass_first decide_row (time_row ∷ []) n d cause f g (t, h) decided (pass_first time_row [] d t cause g h (t, h) timed refl)

pub decides_stops : {S : Type 0} (n now : Node S) (cause : Cause) (f : List Fired) → now.entries ≡ n.entries → IsPartly n.entries now.entries (pass time_rows n cause f).0.entries
decides_stops {S = S} n now cause f same = partly_none n.entries now.entries _ same (pass_grows time_rows n cause f (time_grow S))

pub times_stops : {S : Type 0} (n d now : Node S) (cause : Cause) (f g : List Fired) → decide_row n cause f ≡ (d, g) → now.entries ≡ d.entries
    → IsPartly n.entries now.entries (pass time_rows n cause f).0.entries
times_stops {S = S} n d now cause f g decided same =
    let grow = time_grow S in
    stops_later decide_row (time_row ∷ []) n d now cause f g grow.0 decided
    (partly_none d.entries now.entries _ same (pass_grows (time_row ∷ []) d cause g grow.1))

-- ---- the rules before the answers

-- the rules behind an installation
abbrev behind_rows : {S : Type 0} → Meaning S → List (Row S)
behind_rows m = deliver_row m ∷ (turn_rows ++ (vote_rows ++ time_rows))

later_grow : (S : Type 0) → Each (RowGrows {S = S}) (turn_rows ++ (vote_rows ++ time_rows))
later_grow S = each_grows turn_rows (vote_rows ++ time_rows) (turns_grow S) (each_grows vote_rows time_rows (votes_grow S) (time_grow S))

pub front_pass : {S : Type 0} (m : Meaning S) (n i d t v e : Node S) (cause : Cause) (f g h j k l : List Fired) → install_row m n cause f ≡ (i, g) → deliver_row m i cause g ≡ (d, h)
    → pass turn_rows d cause h ≡ (t, j) → pass vote_rows t cause j ≡ (v, k) → pass time_rows v cause k ≡ (e, l) → pass (front_rows m) n cause f ≡ (e, l)
front_pass m n i d t v e cause f g h j k l installed delivered turned voted ended =
    pass_first (install_row m) (behind_rows m) n i cause f g (e, l) installed
    (pass_first (deliver_row m) (turn_rows ++ (vote_rows ++ time_rows)) i d cause g h (e, l) delivered
    (pass_append turn_rows (vote_rows ++ time_rows) d t cause h j (e, l) turned (pass_append vote_rows time_rows t v cause j k (e, l) voted ended)))

pub installs_stops : {S : Type 0} (m : Meaning S) (n now : Node S) (cause : Cause) (f : List Fired) → IsPartly n.entries now.entries (installs m n).entries
    → IsPartly n.entries now.entries (pass (front_rows m) n cause f).0.entries
installs_stops {S = S} m n now cause f part = stops_here (install_row m) (behind_rows m) n now cause f (deliver_grows m, later_grow S) part

pub delivers_stops : {S : Type 0} (m : Meaning S) (n i now : Node S) (cause : Cause) (f g : List Fired) → install_row m n cause f ≡ (i, g)
    → IsPartly i.entries now.entries (deliver_row m i cause g).0.entries → IsPartly n.entries now.entries (pass (front_rows m) n cause f).0.entries
delivers_stops {S = S} m n i now cause f g installed part =
    stops_later (install_row m) (behind_rows m) n i now cause f g (install_grows m) installed
    (stops_here (deliver_row m) (turn_rows ++ (vote_rows ++ time_rows)) i now cause g (later_grow S) part)

pub turns_stops : {S : Type 0} (m : Meaning S) (n i d now : Node S) (cause : Cause) (f g h : List Fired) → install_row m n cause f ≡ (i, g) → deliver_row m i cause g ≡ (d, h)
    → IsPartly d.entries now.entries (pass turn_rows d cause h).0.entries → IsPartly n.entries now.entries (pass (front_rows m) n cause f).0.entries
turns_stops {S = S} m n i d now cause f g h installed delivered part =
    stops_later (install_row m) (behind_rows m) n i now cause f g (install_grows m) installed
    (stops_later (deliver_row m) (turn_rows ++ (vote_rows ++ time_rows)) i d now cause g h (deliver_grows m) delivered
    (stops_within turn_rows (vote_rows ++ time_rows) d now cause h (each_grows vote_rows time_rows (votes_grow S) (time_grow S)) part))

pub votes_stops : {S : Type 0} (m : Meaning S) (n i d t now : Node S) (cause : Cause) (f g h j : List Fired) → install_row m n cause f ≡ (i, g) → deliver_row m i cause g ≡ (d, h)
    → pass turn_rows d cause h ≡ (t, j) → IsPartly t.entries now.entries (pass vote_rows t cause j).0.entries → IsPartly n.entries now.entries (pass (front_rows m) n cause f).0.entries
votes_stops {S = S} m n i d t now cause f g h j installed delivered turned part =
    stops_later (install_row m) (behind_rows m) n i now cause f g (install_grows m) installed
    (stops_later (deliver_row m) (turn_rows ++ (vote_rows ++ time_rows)) i d now cause g h (deliver_grows m) delivered
    (stops_behind turn_rows (vote_rows ++ time_rows) d t now cause h j (turns_grow S) turned (stops_within vote_rows time_rows t now cause j (time_grow S) part)))

pub ends_stops : {S : Type 0} (m : Meaning S) (n i d t v now : Node S) (cause : Cause) (f g h j k : List Fired) → install_row m n cause f ≡ (i, g) → deliver_row m i cause g ≡ (d, h)
    → pass turn_rows d cause h ≡ (t, j) → pass vote_rows t cause j ≡ (v, k) → IsPartly v.entries now.entries (pass time_rows v cause k).0.entries
    → IsPartly n.entries now.entries (pass (front_rows m) n cause f).0.entries
ends_stops {S = S} m n i d t v now cause f g h j k installed delivered turned voted part =
    stops_later (install_row m) (behind_rows m) n i now cause f g (install_grows m) installed
    (stops_later (deliver_row m) (turn_rows ++ (vote_rows ++ time_rows)) i d now cause g h (deliver_grows m) delivered
    (stops_behind turn_rows (vote_rows ++ time_rows) d t now cause h j (turns_grow S) turned (stops_behind vote_rows time_rows t v now cause j k (votes_grow S) voted part)))

pub front_grow : {S : Type 0} (m : Meaning S) → Each RowGrows (front_rows m)
front_grow {S = S} m = (install_grows m, (deliver_grows m, later_grow S))

-- ---- all rules

-- the answers come behind the others
split : {S : Type 0} (m : Meaning S) (n : Node S) (cause : Cause) (f : List Fired)
    → ◌≡◌ {A = Node S × List Fired} (pass (rules m) n cause f) (answer_row (pass (front_rows m) n cause f).0 cause (pass (front_rows m) n cause f).1)
unfolding rules pass turn_rows vote_rows end_rows
split m n cause f = refl

pub rules_pass : {S : Type 0} (m : Meaning S) (n d a : Node S) (cause : Cause) (f g h : List Fired) → pass (front_rows m) n cause f ≡ (d, g) → answer_row d cause g ≡ (a, h)
    → pass (rules m) n cause f ≡ (a, h)
rules_pass {S = S} m n d a cause f g h before answered = split m n cause f ∙ (ap (λ (x : Node S × List Fired). answer_row x.0 cause x.1) before ∙ answered)

answer_grows : {S : Type 0} (m : Meaning S) (n : Node S) (cause : Cause) (f : List Fired) → IsGrown (pass (front_rows m) n cause f).0.entries (pass (rules m) n cause f).0.entries
answer_grows {S = S} m n cause f =
    rw (split m n cause f) (front_of 0 _ _ (answer_adds S (pass (front_rows m) n cause f).0 cause (pass (front_rows m) n cause f).1))

pub front_stops : {S : Type 0} (m : Meaning S) (n now : Node S) (cause : Cause) (f : List Fired) → IsPartly n.entries now.entries (pass (front_rows m) n cause f).0.entries
    → IsPartly n.entries now.entries (pass (rules m) n cause f).0.entries
front_stops m n now cause f part =
    partly_in n.entries n.entries now.entries (pass (front_rows m) n cause f).0.entries _ (front_same n.entries n.entries refl) part (answer_grows m n cause f)

pub answers_stops : {S : Type 0} (m : Meaning S) (n d now : Node S) (cause : Cause) (f g : List Fired) → pass (front_rows m) n cause f ≡ (d, g) → now.entries ≡ d.entries
    → IsPartly n.entries now.entries (pass (rules m) n cause f).0.entries
answers_stops {S = S} m n d now cause f g before same =
    let behind : Node S = (pass (front_rows m) n cause f).0 in
    let all : now.entries ≡ behind.entries = same ∙ ap (λ (x : Node S × List Fired). x.0.entries) (sym before) in
    partly_in n.entries behind.entries now.entries behind.entries _ (pass_grows (front_rows m) n cause f (front_grow m))
    (partly_none behind.entries now.entries behind.entries all (front_same behind.entries behind.entries refl)) (answer_grows m n cause f)

-- ---- a step

-- a step whose event was dropped
pub step_dropped : {S : Type 0} (m : Meaning S) (n now : Node S) (event : NodeEvent) (why : Why) → now ≡ (takes_in n event).node → Some why ≡ (takes_in n event).dropped
    → step_of m n event ≡ record { node = now; fired = []; dropped = Some why }
unfolding step_of
step_dropped m n now event why same dropped = rw (same, ← dropped) refl

-- a step whose rules passed
pub step_passed : {S : Type 0} (m : Meaning S) (n start now : Node S) (event : NodeEvent) (cause : Cause) (fired : List Fired) → start ≡ (takes_in n event).node → cause ≡ (takes_in n event).cause
    → None ≡ (takes_in n event).dropped → pass (rules m) start cause [] ≡ (now, fired) → step_of m n event ≡ record { node = now; fired = fired; dropped = None }
unfolding step_of
step_passed {S = S} m n start now event cause fired same caused none passes =
    rw (← none, ← same, ← caused) (ap (λ (x : Node S × List Fired). record { node = x.0; fired = x.1; dropped = None }) passes)

-- an event that could not be taken in
pub taken_stops : {S : Type 0} (m : Meaning S) (n now : Node S) (event : NodeEvent) → now.entries ≡ n.entries → IsPartly n.entries now.entries (step_of m n event).node.entries
taken_stops m n now event same = partly_none n.entries now.entries _ same (front_of 8 n.entries _ (event_adds m n event))

-- a pass that was stopped
pub passed_stops : {S : Type 0} (m : Meaning S) (n start now : Node S) (event : NodeEvent) (cause : Cause) → start ≡ (takes_in n event).node → cause ≡ (takes_in n event).cause
    → None ≡ (takes_in n event).dropped → IsPartly start.entries now.entries (pass (rules m) start cause []).0.entries → IsPartly n.entries now.entries (step_of m n event).node.entries
unfolding step_of
passed_stops m n start now event cause same caused none part =
    rw (← none, ← same, ← caused)
    (partly_in n.entries start.entries now.entries (pass (rules m) start cause []).0.entries _ (front_same start.entries n.entries (rw same (takes_in_same n event))) part (front_same _ _ refl))

-- what is dropped behind a step makes no entry
pub core_stops : {S : Type 0} (m : Meaning S) (n now : Node S) (event : NodeEvent) → IsPartly n.entries now.entries (step_of m n event).node.entries
    → IsPartly n.entries now.entries (core_step m n event).node.entries
unfolding core_step trimmed
core_stops m n now event part = part
