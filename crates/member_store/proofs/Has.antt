-- What a store that may switch has of a book, beside what the laws of stores say of it; and a job that begins.
use Rattle.std.proofs.Common.{◌≡◌, ℕ, ◌+◌, ◌≤◌, nat_lt, Bool, true, false, not, ◌||◌, cond, List, [], ◌∷◌, ◌++◌, length, drop, map, Option, Some, None, IfSome, refl, sym, ap, ◌∙◌}
use Rattle.std.proofs.lemmas.Bool.{or_parts, or_from, or_left, or_right}
use Rattle.store_form.specs.Spelling.{checkpoint_text}
use Rattle.store_form.specs.declared.checkpoint.Checkpoint.{Checkpoint}
use Rattle.vote_book.specs.Entries.{entry_text}
use Rattle.vote_book.specs.declared.entry.LogEntry.{LogEntry}
use Rattle.store_laws.specs.States.{StoreState, greatest, side, slot_gate_of, is_torn, switch_calls, Begun, Close, Repair, Switch, AddGroup, of_group, of_asked, group_of, due_job, begins}
use Rattle.store_laws.specs.Stands.{Aim, aim_begins}
use Rattle.store_laws.specs.Firm.{not_firm}
use Rattle.store_laws.specs.Asked.{NextIn}
use Rattle.store_laws.specs.Stops.{is_installed}
use Rattle.store_laws.specs.declared.job.Tail.{Tail}
use Rattle.store_laws.specs.declared.job.Gate.{Gate}
use Rattle.store_laws.specs.declared.job.Gate.TheVariants.{Absent, Closed, Torn, Open}
use Rattle.store_laws.specs.declared.job.Ending.{Ending}
use Rattle.store_laws.specs.declared.job.Ending.TheVariants.{Closes, Repairs, Adds, Switches}
use Rattle.store_laws.proofs.Booked.{group_front}
use Rattle.durable_store.specs.BookRuns.{AreSound}
use Rattle.world_rules.specs.Crashes.{is_unclosed}
use Rattle.world_rules.specs.Fronts.{stated_place, checkpoint_place}
use Rattle.member_store.specs.Cuts.{StatesPlace, MendsBy, MendsIn, InstallNothing, EndsAtInstalls, IsFrontOf, BringsBack, IsTailOf, place_by}

-- a store that stands for this, and whose running switch has written this tail, if one has
pub record Has (s : StoreState) (a : Aim) (written : Option Tail) (past top place : ℕ) (book aside : List LogEntry) : Type 0 where
  pub mends : MendsIn s.running s
  pub kept : IsFrontOf a.kept book (s.firm + past)
  pub low : checkpoint_place a.kept.present ≤ top
  pub adds : InstallNothing s.adding
  pub rest : not_firm s ≡ map entry_text (drop (s.firm + past) book)
  pub tail : IfSome written (λ (t : Tail). IsTailOf s.firm s.restored past book a.next t)
  pub next : NextIn (StatesPlace place) s.running s.ending a.next
  pub sound : AreSound s.devices
  pub back : is_unclosed s ≡ true → BringsBack (s.firm + past) book aside a.stake
  pub gated : is_unclosed s ≡ true → BringsBack (s.firm + past) book aside a.gated

-- ---- gates

pub both_ways : (b : Bool) (X : Type 0) → b ≡ true → b ≡ false → X
both_ways b X is other = absurd cc

pub even_torn : (torn even odd : Bool) → even ≡ true → (torn || (even || odd)) ≡ true
even_torn torn even odd is = or_right torn (even || odd) (or_left even odd is)

pub odd_torn : (torn even odd : Bool) → odd ≡ true → (torn || (even || odd)) ≡ true
odd_torn torn even odd is = or_right torn (even || odd) (or_right even odd is)

pub log_torn : (torn even odd : Bool) → torn ≡ true → (torn || (even || odd)) ≡ true
log_torn torn even odd is = or_left torn (even || odd) is

pub none_torn : (torn even odd : Bool) → torn ≡ false → even ≡ false → odd ≡ false → (torn || (even || odd)) ≡ false
none_torn torn even odd t e o = or_from torn (even || odd) t (or_from even odd e o)

-- no gate is torn: neither that of the log, nor that of a slot
pub calm_parts : (torn even odd : Bool) → (torn || (even || odd)) ≡ false → (torn ≡ false) × ((even ≡ false) × (odd ≡ false))
calm_parts torn even odd is =
    let both = or_parts torn (even || odd) is in
    (both.0, or_parts even odd both.1)

-- the same gates are torn
pub mends_same : (e : Ending) (s q : StoreState) → is_unclosed q ≡ is_unclosed s → MendsBy e s → MendsBy e q
mends_same (Closes odd) s q same m = same ∙ m
mends_same Repairs s q same m = same ∙ m
mends_same (Adds end) s q same m = same ∙ m
mends_same (Switches end last) s q same m = same ∙ m

-- ---- a job begins

switch_mends : (odd : Bool) (gate : Gate) (text : List ℕ) (q : StoreState) → MendsBy q.ending q → MendsIn (switch_calls odd gate text) q
switch_mends odd Absent text q m = m
switch_mends odd Closed text q m = m
switch_mends odd Torn text q m = m
switch_mends odd Open text q m = m

switch_next : (place : ℕ) (odd : Bool) (gate : Gate) (text : List ℕ) (next : Checkpoint) → StatesPlace place next.snapshot → NextIn (StatesPlace place) (switch_calls odd gate text) (Switches 0 0) next
switch_next place odd Absent text next is = is
switch_next place odd Closed text next is = is
switch_next place odd Torn text next is = is
switch_next place odd Open text next is = is

-- a group that ends before each entry that installs has none
group_by : (t : Bool) (entry : List ℕ) (front : List (List ℕ)) → (t ≡ false → is_installed entry ≡ false) → InstallNothing front → InstallNothing (cond t [] (entry ∷ front))
group_by true entry front none rest = tt
group_by false entry front none rest = (none refl, rest)

group_installs : (stops : List ℕ → Bool) → EndsAtInstalls stops → (waits : List (List ℕ)) → InstallNothing (group_of stops waits)
group_installs stops ends [] = tt
group_installs stops ends (entry ∷ entries) = group_by (stops entry) entry (group_of stops entries) (ends entry) (group_installs stops ends entries)

module _ (stops : List ℕ → Bool) (s : StoreState) (a : Aim) (past top place : ℕ) (book aside : List LogEntry) (ends : EndsAtInstalls stops) (none : s.adding ≡ []) (h : Has s a None past top place book aside) where
  abbrev Begins : Begun → Type 0
  Begins job = Has (begins job s) (aim_begins job s a) None past top (place_by job place) book aside

  waits : s.waiting ≡ map entry_text (drop (s.firm + past) book)
  waits = ap (λ (l : List (List ℕ)). l ++ s.waiting) (sym none) ∙ h.rest

  close : (odd : Bool) → is_unclosed s ≡ true → Begins (Close odd)
  close odd torn = record { mends = torn; kept = h.kept; low = h.low; adds = tt; rest = waits; tail = tt; next = tt; sound = h.sound; back = h.back; gated = h.back }

  repair : is_unclosed s ≡ true → Begins Repair
  repair torn = record { mends = torn; kept = h.kept; low = h.low; adds = tt; rest = waits; tail = tt; next = tt; sound = h.sound; back = h.back; gated = h.back }

  switch : (snapshot : List ℕ) → is_unclosed s ≡ false → Begins (Switch snapshot)
  switch snapshot calm =
      let next : Checkpoint = record { generation = s.generation + 1; snapshot = snapshot } in record {
        mends = switch_mends (not (side s)) (slot_gate_of (not (side s)) s) (checkpoint_text next) (begins (Switch snapshot) s) calm;
        kept = h.kept;
        low = h.low;
        adds = tt;
        rest = waits;
        tail = tt;
        next = switch_next (stated_place snapshot) (not (side s)) (slot_gate_of (not (side s)) s) (checkpoint_text next) next refl;
        sound = h.sound;
        back = λ torn. both_ways (is_unclosed s) (BringsBack (s.firm + past) book aside a.kept) torn calm;
        gated = λ torn. both_ways (is_unclosed s) (BringsBack (s.firm + past) book aside a.kept) torn calm;
      }

  group : (entries : List (List ℕ)) → is_unclosed s ≡ false → InstallNothing entries → entries ++ drop (length entries) s.waiting ≡ s.waiting → Begins (of_group entries)
  group [] calm installs front = h
  group (entry ∷ entries) calm installs front = record {
    mends = calm;
    kept = h.kept;
    low = h.low;
    adds = installs;
    rest = front ∙ waits;
    tail = tt;
    next = tt;
    sound = h.sound;
    back = λ torn. both_ways (is_unclosed s) (BringsBack (s.firm + past) book aside a.kept) torn calm;
    gated = λ torn. both_ways (is_unclosed s) (BringsBack (s.firm + past) book aside (aim_begins (AddGroup (entry ∷ entries)) s a).gated) torn calm;
  }

  first_asked : (o : Option (List ℕ)) → is_unclosed s ≡ false → Begins (of_asked o (of_group (group_of stops s.waiting)))
  first_asked None calm = group (group_of stops s.waiting) calm (group_installs stops ends s.waiting) (group_front stops s.waiting)
  first_asked (Some snapshot) calm = switch snapshot calm

  choose : (even odd torn : Bool) → is_torn s.even ≡ even → is_torn s.odd ≡ odd → s.torn ≡ torn
      → Begins (cond even (Close false) (cond odd (Close true) (cond torn Repair (of_asked (cond (nat_lt s.generation greatest) s.asked None) (of_group (group_of stops s.waiting))))))
  choose true odd torn e o t = close false (even_torn s.torn (is_torn s.even) (is_torn s.odd) e)
  choose false true torn e o t = close true (odd_torn s.torn (is_torn s.even) (is_torn s.odd) o)
  choose false false true e o t = repair (log_torn s.torn (is_torn s.even) (is_torn s.odd) t)
  choose false false false e o t = first_asked (cond (nat_lt s.generation greatest) s.asked None) (none_torn s.torn (is_torn s.even) (is_torn s.odd) t e o)

  pub has_begins : Begins (due_job stops s)
  has_begins = choose (is_torn s.even) (is_torn s.odd) s.torn refl refl refl
