-- What a host's store has of its node's book, and what a node hears of it.
use Rattle.std.proofs.Common.{◌≡◌, ℕ, ◌+◌, ◌-◌, ◌^◌, ◌≤◌, min, nat_lt, Bool, true, false, cond, List, [], ◌∷◌, ◌++◌, length, drop, Option, Some, None, refl, ap, sym, subst, ◌∙◌, arith, length-append}
use Rattle.std.proofs.lemmas.List.{length-drop, length-map}
use Rattle.smart_base.specs.Views.{View}
use Rattle.smart_statements.specs.declared.entry.NodeEvent.{NodeEvent}
use Rattle.smart_statements.specs.declared.entry.NodeEvent.TheVariants.{Arrive, Tick, Deliver, Firm}
use Rattle.smart_service.specs.Services.{Meaning}
use Rattle.agreement_laws.specs.Fronts.{IsFront}
use Rattle.vote_book.specs.Entries.{entry_text}
use Rattle.vote_book.specs.declared.entry.LogEntry.{LogEntry}
use Rattle.store_laws.specs.States.{StoreState, greatest, is_torn, some, wants_tail, Close, Repair, Switch, of_group, of_asked, group_of, due_job, begins, begun, firm_by, advanced, ends, job_called, given}
use Rattle.store_laws.specs.Lives.{no_bytes, nothing}
use Rattle.store_laws.specs.Logs.{counted}
use Rattle.store_laws.specs.Stops.{is_installed}
use Rattle.store_laws.specs.Unswitched.{no_tail}
use Rattle.store_laws.specs.declared.job.Kept.{Kept}
use Rattle.store_laws.specs.declared.job.Tail.{Tail}
use Rattle.store_laws.specs.declared.job.Ending.{Ending}
use Rattle.store_laws.specs.declared.job.Ending.TheVariants.{Closes, Repairs, Adds, Switches}
use Rattle.store_laws.specs.declared.job.StoreCall.{StoreCall}
use Rattle.store_laws.specs.declared.job.StoreCall.TheVariants.{On, WriteTail}
use Rattle.store_laws.proofs.Booked.{group_front}
use Rattle.store_laws.proofs.Crashes.{empty_wire}
use Rattle.store_laws.proofs.Restores.{store_restores}
use Rattle.node_rules.specs.Nodes.{Node}
use Rattle.node_rules.specs.Steps.{made_firm, step_of, opened, outset}
use Rattle.node_rules.specs.Tails.{tail_of}
use Rattle.node_rules.specs.declared.node.OwnSnapshot.{OwnSnapshot}
use Rattle.member_store.proofs.Fronts.{until_length}
use Rattle.world_rules.specs.Worlds.{course_of, Host, World, spelled_behind, newly_wanted, asking_for, log_tail, tail_due, store_after, host_of_node, host_after}
use Rattle.world_laws.proofs.Keeps.{Hears, MayCome}
use Rattle.replica_laws.proofs.Longer.{told_firm, longer-step}

-- All that was restored is firm. All that a store counts stands in the book: what is firm, what the running group adds, and what waits.
pub record Fits {S : Type 0} (n : Node S) (s : StoreState) : Type 0 where
  pub restored : n.restored ≤ s.firm
  pub low : s.firm ≤ 2 ^ 64 - 1
  pub written : counted s ≤ length n.entries

-- ---- a step of the node

-- how many entries stand behind some
pub behind-length : (count : ℕ) (entries : List LogEntry) → length (spelled_behind count entries) ≡ length entries - count
behind-length count entries = length-map (drop count entries) entry_text ∙ length-drop count entries

pub front-long : (front entries : List LogEntry) → IsFront front entries → length front ≤ length entries
front-long front entries f =
    let long : length entries ≡ length front + length f.rest = ap (λ (es : List LogEntry). length es) f.is ∙ length-append front f.rest in
    omega (arith, long)

pub told-kept : {S : Type 0} (n : Node S) (event : NodeEvent) → ((told_firm n event).restored ≡ n.restored) × ((told_firm n event).entries ≡ n.entries)
told-kept n (Arrive bytes) = (refl, refl)
told-kept n Tick = (refl, refl)
told-kept n Deliver = (refl, refl)
told-kept n (Firm count) = (refl, refl)

-- ---- what is heard

-- a node that hears what is firm knows that so much is
pub firm-heard : {S : Type 0} (n : Node S) (s : StoreState) → Fits n s → (made_firm n (s.firm - n.restored)).firm ≡ s.firm
firm-heard n s f = omega (arith, f.restored, f.low)

-- of firmness a node is told what its store has
abbrev pub IsTold : {S : Type 0} → Host S → NodeEvent → Type 0
IsTold h (Arrive bytes) = Unit {0}
IsTold h Tick = Unit {0}
IsTold h Deliver = Unit {0}
IsTold h (Firm count) = Hears h count

pub may-told : {S : Type 0} (w : World S) (h : Host S) (event : NodeEvent) → MayCome w h event → IsTold h event
may-told w h (Arrive bytes) may = tt
may-told w h Tick may = tt
may-told w h Deliver may = tt
may-told w h (Firm count) may = may

-- so more is firm, and no more than is written
pub firm-grows : {S : Type 0} (h : Host S) (count : ℕ) → Hears h count → Fits h.node h.store → (h.node.firm ≤ (made_firm h.node count).firm) × ((made_firm h.node count).firm ≤ length h.node.entries)
firm-grows {S = S} h count told f =
    let all : (made_firm h.node count).firm ≡ h.store.firm = ap (λ k. (made_firm h.node k).firm) told.life ∙ firm-heard h.node h.store f in
    (omega (arith, all, told.more), omega (arith, all, f.written))

-- ---- whatever comes to its node

-- a switch's tail ends with an entry of the book
abbrev pub LastFits : ℕ → ℕ → Ending → Type 0
LastFits restored long (Closes odd) = Unit {0}
LastFits restored long Repairs = Unit {0}
LastFits restored long (Adds end) = Unit {0}
LastFits restored long (Switches end last) = restored + last ≤ long

last_more : (restored long more : ℕ) (e : Ending) → long ≤ more → LastFits restored long e → LastFits restored more e
last_more restored long more (Closes odd) le is = tt
last_more restored long more Repairs le is = tt
last_more restored long more (Adds end) le is = tt
last_more restored long more (Switches end last) le is = omega (arith, le, is)

-- A store that fits its node's book, and does so behind the switch that runs.
pub record Stored {S : Type 0} (n : Node S) (s : StoreState) : Type 0 where
  pub fits : Fits n s
  pub begun : s.restored ≡ n.restored
  pub last : LastFits s.restored (length n.entries) s.ending

-- a job begins: what waited, a group adds
taken_long : (stops : List ℕ → Bool) (waiting : List (List ℕ)) → length (group_of stops waiting) + length (drop (length (group_of stops waiting)) waiting) ≡ length waiting
taken_long stops waiting =
    let all : length (group_of stops waiting ++ drop (length (group_of stops waiting)) waiting) ≡ length waiting = ap (λ (es : List (List ℕ)). length es) (group_front stops waiting) in
    let both = length-append (group_of stops waiting) (drop (length (group_of stops waiting)) waiting) in
    omega (arith, all, both)

module _ {S : Type 0} (n : Node S) (s : StoreState) (is : Stored n s) where
  sum : length (s.adding ++ s.waiting) ≡ length s.adding + length s.waiting
  sum = length-append s.adding s.waiting

  begins_close : (odd : Bool) → Stored n (begins (Close odd) s)
  begins_close odd =
      let all = sum in
      let f = is.fits in
      let written = f.written in
      record { fits = record { restored = f.restored; low = f.low; written = omega (arith, all, written) }; begun = is.begun; last = tt }

  begins_repair : Stored n (begins Repair s)
  begins_repair =
      let all = sum in
      let f = is.fits in
      let written = f.written in
      record { fits = record { restored = f.restored; low = f.low; written = omega (arith, all, written) }; begun = is.begun; last = tt }

  begins_switch : (snapshot : List ℕ) → Stored n (begins (Switch snapshot) s)
  begins_switch snapshot =
      let all = sum in
      let f = is.fits in
      let written = f.written in
      let old = f.restored in
      let begun = is.begun in
      record { fits = record { restored = f.restored; low = f.low; written = omega (arith, all, written) }; begun = is.begun; last = omega (arith, written, old, begun) }

  begins_group : (group : List (List ℕ)) → length group + length (drop (length group) s.waiting) ≡ length s.waiting → Stored n (begins (of_group group) s)
  begins_group [] same = is
  begins_group (entry ∷ entries) same =
      let all = sum in
      let f = is.fits in
      let written = f.written in
      let both = length-append (entry ∷ entries) (drop (length (entry ∷ entries)) s.waiting) in
      record { fits = record { restored = f.restored; low = f.low; written = omega (arith, all, written, same, both) }; begun = is.begun; last = tt }

  begins_next : (stops : List ℕ → Bool) (o : Option (List ℕ)) → Stored n (begins (of_asked o (of_group (group_of stops s.waiting))) s)
  begins_next stops None = begins_group (group_of stops s.waiting) (taken_long stops s.waiting)
  begins_next stops (Some snapshot) = begins_switch snapshot

  begins_due : (stops : List ℕ → Bool) (even odd torn : Bool)
      → Stored n (begins (cond even (Close false) (cond odd (Close true) (cond torn Repair (of_asked (cond (nat_lt s.generation greatest) s.asked None) (of_group (group_of stops s.waiting)))))) s)
  begins_due stops true odd torn = begins_close false
  begins_due stops false true torn = begins_close true
  begins_due stops false false true = begins_repair
  begins_due stops false false false = begins_next stops (cond (nat_lt s.generation greatest) s.asked None)

  begun_stored : (stops : List ℕ → Bool) → Stored n (begun stops s)
  begun_stored stops = by (some s.running)
    where
      by : (t : Bool) → Stored n (cond t s (begins (due_job stops s) s))
      by true = is
      by false = begins_due stops (is_torn s.even) (is_torn s.odd) s.torn

-- the end of a job
ends_stored : {S : Type 0} (n : Node S) (e : Ending) (q : StoreState) → q.ending ≡ e → Stored n q → Stored n (ends e q)
ends_stored n (Closes odd) q ending is =
    let f = is.fits in
    let written = f.written in
    let all = length-append q.adding q.waiting in
    record { fits = record { restored = f.restored; low = f.low; written = omega (arith, all, written) }; begun = is.begun; last = is.last }
ends_stored n Repairs q ending is =
    let f = is.fits in
    let written = f.written in
    let all = length-append q.adding q.waiting in
    record { fits = record { restored = f.restored; low = f.low; written = omega (arith, all, written) }; begun = is.begun; last = is.last }
ends_stored n (Adds end) q ending is =
    let f = is.fits in
    let written = f.written in
    let old = f.restored in
    let low = f.low in
    let all = length-append q.adding q.waiting in
    record { fits = record { restored = omega (arith, old, low); low = omega arith; written = omega (arith, all, written) }; begun = is.begun; last = is.last }
ends_stored n (Switches end last) q ending is =
    let f = is.fits in
    let written = f.written in
    let old = f.restored in
    let low = f.low in
    let all = length-append q.adding q.waiting in
    let tail : q.restored + last ≤ length n.entries = subst (λ (e : Ending). LastFits q.restored (length n.entries) e) ending is.last in
    let rest = length-drop (firm_by last q - q.firm) q.waiting in
    record { fits = record { restored = omega (arith, old); low = omega (arith, low); written = omega (arith, all, written, tail, rest) }; begun = is.begun; last = is.last }

-- the next call of a job
advanced_stored : {S : Type 0} (n : Node S) (tail : Tail) (call : StoreCall) (left : List StoreCall) (q : StoreState) → q.restored + tail.made ≤ length n.entries → Stored n q → Stored n (advanced tail call left q)
advanced_stored n tail (On device call) left q made is = record { fits = record { restored = is.fits.restored; low = is.fits.low; written = is.fits.written }; begun = is.begun; last = is.last }
advanced_stored n tail WriteTail left q made is = record { fits = record { restored = is.fits.restored; low = is.fits.low; written = is.fits.written }; begun = is.begun; last = made }

job_stored : {S : Type 0} (n : Node S) (tail : Tail) (calls : List StoreCall) (q : StoreState) → q.restored + tail.made ≤ length n.entries → Stored n q → Stored n (job_called tail calls q)
job_stored n tail [] q made is = is
job_stored n tail (call ∷ []) q made is =
    let a : StoreState = advanced tail call [] q in
    ends_stored n a.ending a refl (advanced_stored n tail call [] q made is)
job_stored n tail (call ∷ (more ∷ left)) q made is = advanced_stored n tail call (more ∷ left) q made is

-- the tail of a host's next call
tail_made : {S : Type 0} (h : Host S) → h.node.restored ≤ length h.node.entries → h.node.restored + (tail_due h).made ≤ length h.node.entries
unfolding tail_of
tail_made {S = S} h low = by (wants_tail h.store)
  where
    by : (t : Bool) → h.node.restored + (cond t (log_tail h.node h.switching) no_tail).made ≤ length h.node.entries
    by true = let shorter = until_length h.switching h.node.entries in omega (arith, low, shorter)
    by false = omega (arith, low)

pub stored-called : {S : Type 0} (h : Host S) → Stored h.node h.store → Stored h.node (store_after h)
stored-called h is =
    let q : Stored h.node (begun is_installed h.store) = begun_stored h.node h.store is is_installed in
    let f = q.fits in
    let written = f.written in
    let old = f.restored in
    let begins = q.begun in
    let made = tail_made h (omega (arith, written, old)) in
    job_stored h.node (tail_due h) (begun is_installed h.store).running (begun is_installed h.store) (omega (arith, begins, made)) q

-- what a longer book has more waits
stored-given : {S : Type 0} (n n' : Node S) (s : StoreState) → n'.restored ≡ n.restored → IsFront n.entries n'.entries → Stored n s → Stored n' (given (spelled_behind (length n.entries) n'.entries) s)
stored-given n n' s restored front is =
    let f = is.fits in
    let old = f.restored in
    let written = f.written in
    let more = behind-length (length n.entries) n'.entries in
    let waits = length-append s.waiting (spelled_behind (length n.entries) n'.entries) in
    let all = length-append s.adding s.waiting in
    let others = length-append s.adding (s.waiting ++ spelled_behind (length n.entries) n'.entries) in
    let long = front-long n.entries n'.entries front in
    record {
      fits = record { restored = omega (arith, restored, old); low = f.low; written = omega (arith, more, waits, all, others, long, written) };
      begun = is.begun ∙ sym restored;
      last = last_more s.restored (length n.entries) (length n'.entries) s.ending long is.last;
    }

stored-asking : {S : Type 0} (n : Node S) (o : Option OwnSnapshot) (s : StoreState) → Stored n s → Stored n (asking_for o s)
stored-asking n None s is = is
stored-asking n (Some own) s is = record { fits = record { restored = is.fits.restored; low = is.fits.low; written = is.fits.written }; begun = is.begun; last = is.last }

-- a host that takes an event
pub stored-stepped : {S : Type 0} (m : Meaning S) (h : Host S) (event : NodeEvent) → Stored h.node h.store
    → Stored (host_after (course_of m) h (step_of m h.node event)).node (host_after (course_of m) h (step_of m h.node event)).store
stored-stepped {S = S} m h event is =
    let n' : Node S = (step_of m h.node event).node in
    let l = longer-step m h.node event in
    let told = told-kept h.node event in
    let front : IsFront h.node.entries n'.entries = subst (λ (es : List LogEntry). IsFront es n'.entries) told.1 l.book in
    let g = stored-asking n' (newly_wanted h.node n') (given (spelled_behind (length h.node.entries) n'.entries) h.store) (stored-given h.node n' h.store (l.restored_is ∙ told.0) front is) in
    record { fits = record { restored = g.fits.restored; low = g.fits.low; written = g.fits.written }; begun = g.begun; last = g.last }

-- a host that has just opened
pub stored-opened : {S : Type 0} (m : Meaning S) (secret : List ℕ) (id : ℕ) (view : View) (period : ℕ)
    → Stored (opened (outset m secret id view period)) (host_of_node (opened (outset m secret id view period))).store
stored-opened m secret id view period = record { fits = record { restored = omega arith; low = omega arith; written = omega arith }; begun = ap (λ (k : Kept). min (length k.entries) greatest) (store_restores no_bytes nothing nothing empty_wire); last = tt }
