-- What a turn leaves in the book where it is stopped half-way, rule by rule.
use Rattle.std.proofs.Common.{◌≡◌, ◌++◌, nat_lt, Bool, List, true, false, subst, [], ◌∷◌, refl, ap, ◌∙◌, cond, Some}
use Rattle.smart_statements.specs.Forms.{SignedBy}
use Rattle.smart_messages.specs.declared.regency.Sync.{Sync}
use Rattle.vote_book.specs.declared.entry.Promise.{Promise}
use Rattle.vote_book.specs.declared.entry.Start.{Start}
use Rattle.vote_book.specs.declared.entry.LogEntry.TheVariants.{Promised}
use Rattle.node_rules.specs.Nodes.{Node, regency_of}
use Rattle.node_rules.specs.Changes.{start_by_sync, adoption, adopts, joins, promising, next_promise, promise_next, promises, leads}
use Rattle.node_rules.specs.Steps.{adopt_row, join_row, promise_row, lead_row, turn_rows, pass}
use Rattle.node_rules.specs.declared.node.Cause.{Cause}
use Rattle.node_rules.specs.declared.node.Fired.{Fired}
use Rattle.node_state.proofs.Stopped.{turns_grow, stops_here, stops_later}
use Rattle.node_rules.proofs.Entries.{adopts_adds, joins_same, promises_adds, leads_same}
use Rattle.node_state.specs.Following.{promised_by, reached, begun_at}
use Rattle.node_state.specs.Broken.{IsGrown, IsPartly}
use Rattle.node_state.proofs.Broken.{front_same, front_by, front_then, partly_none, partly_in, front_of, stop_at, entry_none, entry_made}
use Rattle.node_turns.proofs.Changes.{adopts_where}

grows_adopts : {S : Type 0} (n : Node S) → IsGrown n.entries (adopts n).entries
grows_adopts n = front_of 2 n.entries (adopts n).entries (adopts_adds n)

grows_promises : {S : Type 0} (n : Node S) → IsGrown n.entries (promises n).entries
grows_promises n = front_of 1 n.entries (promises n).entries (promises_adds n)

-- a pass that is stopped in each of its rules

pub adopts_stops : {S : Type 0} (n now : Node S) (cause : Cause) (f : List Fired) → IsPartly n.entries now.entries (adopts n).entries
    → IsPartly n.entries now.entries (pass turn_rows n cause f).0.entries
unfolding turn_rows
adopts_stops {S = S} n now cause f part =
    let grow = turns_grow S in
    stops_here adopt_row (join_row ∷ (promise_row ∷ (lead_row ∷ []))) n now cause f grow.1 part

pub joins_stops : {S : Type 0} (n a now : Node S) (cause : Cause) (f g : List Fired) → adopt_row n cause f ≡ (a, g) → now.entries ≡ a.entries
    → IsPartly n.entries now.entries (pass turn_rows n cause f).0.entries
unfolding turn_rows
joins_stops {S = S} n a now cause f g adopted same =
    let grow = turns_grow S in
    stops_later adopt_row (join_row ∷ (promise_row ∷ (lead_row ∷ []))) n a now cause f g grow.0 adopted
    (stops_here join_row (promise_row ∷ (lead_row ∷ [])) a now cause g grow.1.1 (partly_none a.entries now.entries _ same (grow.1.0 a cause g)))

pub promises_stops : {S : Type 0} (n a j now : Node S) (cause : Cause) (f g h : List Fired) → adopt_row n cause f ≡ (a, g) → join_row a cause g ≡ (j, h)
    → IsPartly j.entries now.entries (promises j).entries → IsPartly n.entries now.entries (pass turn_rows n cause f).0.entries
unfolding turn_rows
promises_stops {S = S} n a j now cause f g h adopted joined part =
    let grow = turns_grow S in
    stops_later adopt_row (join_row ∷ (promise_row ∷ (lead_row ∷ []))) n a now cause f g grow.0 adopted
    (stops_later join_row (promise_row ∷ (lead_row ∷ [])) a j now cause g h grow.1.0 joined
    (stops_here promise_row (lead_row ∷ []) j now cause h grow.1.1.1 part))

pub leads_stops : {S : Type 0} (n a j p now : Node S) (cause : Cause) (f g h i : List Fired) → adopt_row n cause f ≡ (a, g) → join_row a cause g ≡ (j, h) → promise_row j cause h ≡ (p, i)
    → now.entries ≡ p.entries → IsPartly n.entries now.entries (pass turn_rows n cause f).0.entries
unfolding turn_rows
leads_stops {S = S} n a j p now cause f g h i adopted joined promised same =
    let grow = turns_grow S in
    stops_later adopt_row (join_row ∷ (promise_row ∷ (lead_row ∷ []))) n a now cause f g grow.0 adopted
    (stops_later join_row (promise_row ∷ (lead_row ∷ [])) a j now cause g h grow.1.0 joined
    (stops_later promise_row (lead_row ∷ []) j p now cause h i grow.1.1.0 promised
    (stops_here lead_row [] p now cause i tt (partly_none p.entries now.entries _ same (grow.1.1.1.0 p cause i)))))

by_reaching : {S : Type 0} (n : Node S) (p : Promise) (t : Bool) → IsGrown n.entries (cond t (promised_by n p) n).entries
by_reaching n p true = front_by n.entries _
by_reaching n p false = front_same n.entries n.entries refl

grows_reached : {S : Type 0} (n : Node S) (p : Promise) → IsGrown n.entries (reached n p).entries
grows_reached n p = by_reaching n p (nat_lt (regency_of n) p.regency)

pub reach_stops : {S : Type 0} (n now : Node S) (p : Promise) (start : Start) → now.entries ≡ n.entries → IsPartly n.entries now.entries (begun_at (reached n p) start).entries
reach_stops n now p start same = partly_none n.entries now.entries _ same (front_then n.entries (reached n p).entries _ (grows_reached n p) (front_by (reached n p).entries _))

pub begin_stops : {S : Type 0} (n m now : Node S) (p : Promise) (start : Start) → m ≡ reached n p → now.entries ≡ m.entries → IsPartly n.entries now.entries (begun_at (reached n p) start).entries
begin_stops {S = S} n m now p start is same =
    stop_at n (reached n p) now.entries _ (same ∙ ap (λ (x : Node S). x.entries) is) (grows_reached n p) (front_by (reached n p).entries _)

pub adopt_stops : {S : Type 0} (n now : Node S) → now.entries ≡ n.entries → IsPartly n.entries now.entries (adopts n).entries
adopt_stops n now same = partly_none n.entries now.entries _ same (grows_adopts n)

pub start_stops : {S : Type 0} (n now : Node S) (s : SignedBy Sync) (start : Start) → Some s ≡ adoption n → start ≡ start_by_sync s.statement
    → IsPartly n.entries now.entries (begun_at (reached n (record { view = start.view; regency = start.regency })) start).entries → IsPartly n.entries now.entries (adopts n).entries
start_stops {S = S} n now s start is at part = subst (λ (x : Node S). IsPartly n.entries now.entries x.entries) (adopts_where n s start is at) part

pub next_none : {S : Type 0} (n now : Node S) → now.entries ≡ n.entries → IsPartly n.entries now.entries (promise_next n).entries
unfolding promise_next
next_none n now same = entry_none n.entries now.entries (Promised (next_promise n)) same

pub next_made : {S : Type 0} (n m now : Node S) (p : Promise) → p ≡ next_promise n → m ≡ promised_by n p → now.entries ≡ m.entries → IsPartly n.entries now.entries (promise_next n).entries
unfolding promise_next
next_made {S = S} n m now p is at same =
    entry_made n.entries now.entries (Promised (next_promise n)) (same ∙ (ap (λ (x : Node S). x.entries) at ∙ ap (λ (q : Promise). n.entries ++ Promised q ∷ []) is))

pub promise_stops : {S : Type 0} (n now : Node S) → now.entries ≡ n.entries → IsPartly n.entries now.entries (promises n).entries
promise_stops n now same = partly_none n.entries now.entries _ same (grows_promises n)

by_promise : {S : Type 0} (n now : Node S) (t : Bool) → t ≡ true → IsPartly n.entries now.entries (promise_next n).entries → IsPartly n.entries now.entries (cond t (promise_next n) n).entries
by_promise n now true is part = part
by_promise n now false is part = absurd (cc)

pub promised_stops : {S : Type 0} (n now : Node S) → promising n ≡ true → IsPartly n.entries now.entries (promise_next n).entries → IsPartly n.entries now.entries (promises n).entries
unfolding promises
promised_stops n now is part = by_promise n now (promising n) is part
