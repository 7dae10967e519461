-- Bytes that are recorded runs have no part at which their reading stops.
use Rattle.std.proofs.Common.{◌≡◌, ◌∙◌, ◌⊎◌, ℕ, zero, suc, ◌+◌, ◌-◌, ◌<◌, ◌≤◌, Bool, true, false, cond, List, [], ◌∷◌, ◌++◌, length, Option, Some, None, refl, ap, sym, subst, inl, inr, true≢false, arith}
use Rattle.std.proofs.lemmas.List.{append-nil}
use Rattle.std.specs.Prelude.{Result, Ok, Err, nat_lt, not, ◌||◌, is_some, option_map}
use Rattle.std.specs.Option.{option_and_then}
use Rattle.smart_base.specs.Cuts.{Cut, Read, contents, text_at, ranged, number_at}
use Rattle.smart_base.specs.Lists.{or_else, Each}
use Rattle.replica_rules.specs.Replicas.{Managed}
use Rattle.smart_service.specs.Services.{Meaning}
use Rattle.smart_service.specs.declared.replica.Replica.{Replica}
use Rattle.app_count.specs.Counts.{counting}
use Rattle.app_kv.specs.Snapshots.{keeping}
use Rattle.vote_book.specs.declared.entry.LogEntry.{LogEntry}
use Rattle.vote_book.specs.Entries.{entry_decoded}
use Rattle.node_rules.specs.Reopening.{damage_at, damaged_from, damaged_behind, damage_of, replica_from, may_restore}
use Rattle.trail.specs.Events.{event_decoded}
use Rattle.trail.specs.Openings.{opening_decoded, text_field_at}
use Rattle.trail.specs.declared.event.TrailEvent.{TrailEvent}
use Rattle.trail.specs.declared.opening.App.{App}
use Rattle.trail.specs.declared.opening.App.TheVariants as apps
use Rattle.trail.specs.declared.opening.TrailOpening.{TrailOpening}
use Rattle.audit_rules.specs.declared.recorded.Recorded.{Recorded}
use Rattle.audit_rules.specs.declared.recorded.Reading.{Reading}
use Rattle.audit_rules.specs.declared.recorded.TheConstants.{PARTS}
use Rattle.audit_rules.specs.Audits.{is_client, checkpoint_in, damage_over, damage_by, CanBegin}
use Rattle.audit_rules.specs.Readings.{unread, is_known, beginning, opening_taken, entry_taken, may_happen, is_end, with_event, event_added, event_taken, part_taken, takes, Reached, reaches, next_part, after_parts, parts_read, damage_in, part_count, damaged_part, all_begun, AreRead, Lacks, Refuses, StopsAt, PassesLimit}

-- ---- choices

if-step : (t : Bool) (x y z : Option ℕ) (k : ℕ) → (x ≡ Some k → y ≡ Some k) → cond t x z ≡ Some k → cond t y z ≡ Some k
if-step true x y z k keeps is = keeps is
if-step false x y z k keeps is = is

else-step : (t : Bool) (x y z : Option ℕ) (k : ℕ) → (x ≡ Some k → y ≡ Some k) → cond t z x ≡ Some k → cond t z y ≡ Some k
else-step true x y z k keeps is = is
else-step false x y z k keeps is = keeps is

or-step : (d x y : Option ℕ) (k : ℕ) → (x ≡ Some k → y ≡ Some k) → or_else d x ≡ Some k → or_else d y ≡ Some k
or-step None x y k keeps is = keeps is
or-step (Some e) x y k keeps is = is

pub some-one : {A : Type 0} (x y : A) → Some x ≡ Some y → x ≡ y
some-one x y is = cc

-- ---- a damaged entry stays the first one, also before more entries

module _ (secret : List ℕ) (opening : ℕ) (made : Managed) where
  at-step : (before : List LogEntry) (f g : LogEntry → Option ℕ) (read : Result LogEntry ℕ) (k : ℕ) → ((e : LogEntry) → f e ≡ Some k → g e ≡ Some k)
      → damage_at secret opening made before f read ≡ Some k → damage_at secret opening made before g read ≡ Some k
  at-step before f g (Err at) k keeps is = is
  at-step before f g (Ok e) k keeps is = if-step (may_restore secret opening made before e) (f e) (g e) (Some (length before + 1)) k (keeps e) is

  from-more : (before : List LogEntry) (xs ys : List (List ℕ)) (k : ℕ) → damaged_from secret opening made before xs ≡ Some k → damaged_from secret opening made before (xs ++ ys) ≡ Some k
  from-more before [] ys k is = absurd (cc)
  from-more before (x ∷ xs) ys k is =
      at-step before (λ e. damaged_from secret opening made (before ++ e ∷ []) xs) (λ e. damaged_from secret opening made (before ++ e ∷ []) (xs ++ ys)) (entry_decoded x) k
      (λ e. from-more (before ++ e ∷ []) xs ys k) is

behind-more : {S : Type 0} (secret : List ℕ) (xs ys : List (List ℕ)) (r : Option (Replica S)) (k : ℕ) → damaged_behind secret xs r ≡ Some k → damaged_behind secret (xs ++ ys) r ≡ Some k
behind-more secret xs ys None k is = is
behind-more secret xs ys (Some r) k is = from-more secret _ _ [] xs ys k is

over-more : {S : Type 0} (m : Meaning S) (t : Recorded) (ys : List (List ℕ)) (k : ℕ) → damage_over m t ≡ Some k → damage_over m (record t { entries = t.entries ++ ys }) ≡ Some k
unfolding damage_of
over-more m t ys k is = behind-more t.opening.secret t.entries ys (replica_from m t.opening.view (checkpoint_in m t.opening)) k is

by-more : (t : Recorded) (ys : List (List ℕ)) (app : App) (k : ℕ) → damage_by t app ≡ Some k → damage_by (record t { entries = t.entries ++ ys }) app ≡ Some k
by-more t ys apps.Count k is = over-more counting t ys k is
by-more t ys apps.Kv k is = over-more keeping t ys k is

in-more : (t : Recorded) (ys : List (List ℕ)) (k : ℕ) → damage_in t ≡ Some k → damage_in (record t { entries = t.entries ++ ys }) ≡ Some k
in-more t ys k is =
    else-step (is_client t) (damage_by t t.opening.app) (damage_by (record t { entries = t.entries ++ ys }) t.opening.app) None k (by-more t ys t.opening.app k) is

-- ---- a damaged part stays the first one, also before more parts

damaged-front : (before : ℕ) (xs ys : List Recorded) (k : ℕ) → damaged_part before xs ≡ Some k → damaged_part before (xs ++ ys) ≡ Some k
damaged-front before [] ys k is = absurd (cc)
damaged-front before (t ∷ ts) ys k is =
    or-step (option_map (λ j. before + 1 + j) (damage_in t)) (damaged_part (before + part_count t) ts) (damaged_part (before + part_count t) (ts ++ ys)) k
    (damaged-front (before + part_count t) ts ys k) is

last-same : (f : ℕ → ℕ) (d e : Option ℕ) (k : ℕ) → ((j : ℕ) → d ≡ Some j → e ≡ Some j) → or_else (option_map f d) None ≡ Some k → or_else (option_map f e) None ≡ Some k
last-same f None e k keeps is = absurd (cc)
last-same f (Some j) e k keeps is = ap (λ (x : Option ℕ). or_else (option_map f x) None) (keeps j refl) ∙ is

damaged-last : (before : ℕ) (ts : List Recorded) (t u : Recorded) (k : ℕ) → ((j : ℕ) → damage_in t ≡ Some j → damage_in u ≡ Some j)
    → damaged_part before (ts ++ t ∷ []) ≡ Some k → damaged_part before (ts ++ u ∷ []) ≡ Some k
damaged-last before [] t u k keeps is = last-same (λ j. before + 1 + j) (damage_in t) (damage_in u) k keeps is
damaged-last before (x ∷ ts) t u k keeps is =
    or-step (option_map (λ j. before + 1 + j) (damage_in x)) (damaged_part (before + part_count x) (ts ++ t ∷ [])) (damaged_part (before + part_count x) (ts ++ u ∷ [])) k
    (damaged-last (before + part_count x) ts t u k keeps) is

-- a part of all trails of a reading that is damaged
abbrev pub IsDamaged : Reading → ℕ → Type 0
IsDamaged r k = damaged_part 0 (all_begun r) ≡ Some k

-- one more part

open-if : (ts : List Recorded) (known : Bool) (o : TrailOpening) (s : Reading) (k : ℕ) → cond known None (Some (record { trails = ts; begun = Some (beginning o) })) ≡ Some s
    → damaged_part 0 (ts ++ []) ≡ Some k → IsDamaged s k
open-if ts true o s k is damaged = absurd (cc)
open-if ts false o s k is damaged =
    subst (λ (r : Reading). IsDamaged r k) (some-one _ s is) (damaged-front 0 ts (beginning o ∷ []) k (ap (λ (xs : List Recorded). damaged_part 0 xs) (sym (append-nil ts)) ∙ damaged))

open-step : (ts : List Recorded) (read : Result TrailOpening ℕ) (s : Reading) (k : ℕ) → opening_taken (record { trails = ts; begun = None }) read ≡ Some s → damaged_part 0 (ts ++ []) ≡ Some k
    → IsDamaged s k
open-step ts (Err at) s k is damaged = absurd (cc)
open-step ts (Ok o) s k is damaged = open-if ts (is_known ts o.member) o s k is damaged

entry-if : (ts : List Recorded) (t : Recorded) (client : Bool) (bytes : List ℕ) (s : Reading) (k : ℕ)
    → cond client None (Some (record { trails = ts; begun = Some (record t { entries = t.entries ++ bytes ∷ [] }) })) ≡ Some s → damaged_part 0 (ts ++ t ∷ []) ≡ Some k → IsDamaged s k
entry-if ts t true bytes s k is damaged = absurd (cc)
entry-if ts t false bytes s k is damaged =
    subst (λ (r : Reading). IsDamaged r k) (some-one _ s is)
    (damaged-last 0 ts t (record t { entries = t.entries ++ bytes ∷ [] }) k (λ j. in-more t (bytes ∷ []) j) damaged)

added-if : (ts : List Recorded) (t : Recorded) (e : TrailEvent) (end : Bool) (k : ℕ) → damaged_part 0 (ts ++ t ∷ []) ≡ Some k
    → IsDamaged (cond end (record { trails = ts ++ with_event t e ∷ []; begun = None }) (record { trails = ts; begun = Some (with_event t e) })) k
added-if ts t e true k damaged =
    damaged-front 0 (ts ++ with_event t e ∷ []) [] k (damaged-last 0 ts t (with_event t e) k (λ j is. is) damaged)
added-if ts t e false k damaged = damaged-last 0 ts t (with_event t e) k (λ j is. is) damaged

event-if : (ts : List Recorded) (t : Recorded) (e : TrailEvent) (may : Bool) (s : Reading) (k : ℕ) → cond may (Some (event_added (record { trails = ts; begun = Some t }) t e)) None ≡ Some s
    → damaged_part 0 (ts ++ t ∷ []) ≡ Some k → IsDamaged s k
event-if ts t e true s k is damaged = subst (λ (r : Reading). IsDamaged r k) (some-one _ s is) (added-if ts t e (is_end e) k damaged)
event-if ts t e false s k is damaged = absurd (cc)

event-step : (ts : List Recorded) (t : Recorded) (read : Result TrailEvent ℕ) (s : Reading) (k : ℕ) → event_taken (record { trails = ts; begun = Some t }) t read ≡ Some s
    → damaged_part 0 (ts ++ t ∷ []) ≡ Some k → IsDamaged s k
event-step ts t (Err at) s k is damaged = absurd (cc)
event-step ts t (Ok e) s k is damaged = event-if ts t e (not (is_client t) || may_happen e) s k is damaged

next-if : (ts : List Recorded) (t : Recorded) (more : Bool) (bytes : List ℕ) (s : Reading) (k : ℕ)
    → cond more (entry_taken (record { trails = ts; begun = Some t }) t bytes) (event_taken (record { trails = ts; begun = Some t }) t (event_decoded bytes)) ≡ Some s
    → damaged_part 0 (ts ++ t ∷ []) ≡ Some k → IsDamaged s k
next-if ts t true bytes s k is damaged = entry-if ts t (is_client t) bytes s k is damaged
next-if ts t false bytes s k is damaged = event-step ts t (event_decoded bytes) s k is damaged

part-step : (ts : List Recorded) (begun : Option Recorded) (bytes : List ℕ) (s : Reading) (k : ℕ) → part_taken (record { trails = ts; begun = begun }) begun bytes ≡ Some s
    → IsDamaged (record { trails = ts; begun = begun }) k → IsDamaged s k
part-step ts None bytes s k is damaged = open-step ts (opening_decoded bytes) s k is damaged
part-step ts (Some t) bytes s k is damaged = next-if ts t (nat_lt (length t.entries) t.opening.entries) bytes s k is damaged

takes-step : (r : Reading) (bytes : List ℕ) (s : Reading) (k : ℕ) → takes r bytes ≡ Some s → IsDamaged r k → IsDamaged s k
unfolding takes
takes-step r bytes s k is damaged = part-step r.trails r.begun bytes s k is damaged

taken-step : (r : Reading) (k : ℕ) (cut : Cut) (y : Reached) (taken : Option Reading) → ((s : Reading) → taken ≡ Some s → IsDamaged s k)
    → option_map (λ (s : Reading). record { reading = s; cut = cut }) taken ≡ Some y → IsDamaged y.reading k
taken-step r k cut y None keeps is = absurd (cc)
taken-step r k cut y (Some s) keeps is = subst (λ (z : Reached). IsDamaged z.reading k) (some-one _ y is) (keeps s refl)

reach-step : (r : Reading) (read : Read (List ℕ)) (y : Reached) (k : ℕ) → reaches r read ≡ Some y → IsDamaged r k → IsDamaged y.reading k
reach-step r (Err at) y k is damaged = absurd (cc)
reach-step r (Ok p) y k is damaged = taken-step r k p.1 y (takes r p.0) (λ s taken. takes-step r p.0 s k taken damaged) is

next-step : (x y : Reached) (k : ℕ) → next_part x ≡ Some y → IsDamaged x.reading k → IsDamaged y.reading k
unfolding next_part
next-step x y k is damaged = reach-step x.reading (text_field_at x.cut) y k is damaged

-- more parts

then-step : (x : Option Reached) (y : Reached) (k : ℕ) → option_and_then next_part x ≡ Some y → ((z : Reached) → x ≡ Some z → IsDamaged z.reading k) → IsDamaged y.reading k
then-step None y k is keeps = absurd (cc)
then-step (Some z) y k is keeps = next-step z y k is (keeps z refl)

pub after-step : (n m : ℕ) (s : Option Reached) (x y : Reached) (k : ℕ) → after_parts n s ≡ Some x → after_parts (n + m) s ≡ Some y → IsDamaged x.reading k → IsDamaged y.reading k
after-step n zero s x y k first last damaged =
    let none : n + 0 ≡ n = omega arith in
    subst (λ (z : Reached). IsDamaged z.reading k) (some-one x y (sym first ∙ subst (λ (j : ℕ). after_parts j s ≡ Some y) none last)) damaged
after-step n (suc m) s x y k first last damaged =
    let sum : n + suc m ≡ suc (n + m) = omega arith in
    then-step (after_parts (n + m) s) y k (subst (λ (j : ℕ). after_parts j s ≡ Some y) sum last) (λ z here. after-step n m s x z k first here damaged)

-- ---- where no part can be taken, no later one is

none-later : (n m : ℕ) (s : Option Reached) → after_parts n s ≡ None → after_parts (n + m) s ≡ None
none-later n zero s none =
    let same : n ≡ n + 0 = omega arith in
    subst (λ (j : ℕ). after_parts j s ≡ None) same none
none-later n (suc m) s none =
    let sum : suc (n + m) ≡ n + suc m = omega arith in
    subst (λ (j : ℕ). after_parts j s ≡ None) sum (ap (λ (x : Option Reached). option_and_then next_part x) (none-later n m s none))

pub stuck : (n m : ℕ) (s : Option Reached) (x : Reached) → after_parts n s ≡ Some x → next_part x ≡ None → after_parts (n + suc m) s ≡ None
stuck n m s x here none =
    let sum : suc n + m ≡ n + suc m = omega arith in
    subst (λ (k : ℕ). after_parts k s ≡ None) sum (none-later (suc n) m s (ap (λ (y : Option Reached). option_and_then next_part y) here ∙ none))

none-empty : (r : Reading) (at : ℕ) → next_part (record { reading = r; cut = record { at = at; left = [] } }) ≡ None
unfolding next_part contents text_at ranged number_at
none-empty r at = refl

pub no-bytes : (xs : List ℕ) → length xs ≡ 0 → xs ≡ []
no-bytes [] is = refl
no-bytes (x ∷ xs) is = absurd (omega (arith, is))

none-next : (x : Reached) → length x.cut.left ≡ 0 → next_part x ≡ None
none-next x none = ap (λ (l : List ℕ). next_part (record { reading = x.reading; cut = record { at = x.cut.at; left = l } })) (no-bytes x.cut.left none) ∙ none-empty x.reading x.cut.at

-- ---- of trails that were read

begin-none : (t : Recorded) (client : Bool) → is_client t ≡ client → CanBegin t → cond client None (damage_by t t.opening.app) ≡ None
begin-none t true is begins = refl
begin-none t false is begins = begins is

none-damaged : (before : ℕ) (ts : List Recorded) → Each CanBegin ts → damaged_part before ts ≡ None
none-damaged before [] all = refl
none-damaged before (t ∷ ts) all =
    ap (λ (d : Option ℕ). or_else (option_map (λ j. before + 1 + j) d) (damaged_part (before + part_count t) ts)) (begin-none t (is_client t) refl all.0)
    ∙ none-damaged (before + part_count t) ts all.1

some-none : {A : Type 0} (x : Option A) (y : A) → x ≡ Some y → x ≡ None → ⊥
some-none x y some none = absurd (cc)

-- less, the same, or more
abbrev Compared : ℕ → ℕ → Type 0
Compared n c = ((m : ℕ) × (c ≡ n + suc m)) ⊎ ((n ≡ c) ⊎ ((m : ℕ) × (n ≡ c + suc m)))

one-more : (n c : ℕ) → Compared n c → Compared (suc n) (suc c)
one-more n c (inl less) = inl (less.0, omega (arith, less.1))
one-more n c (inr (inl same)) = inr (inl (ap (λ (k : ℕ). suc k) same))
one-more n c (inr (inr more)) = inr (inr (more.0, omega (arith, more.1)))

compare : (n c : ℕ) → Compared n c
compare zero zero = inr (inl refl)
compare zero (suc c) = inl (c, omega arith)
compare (suc n) zero = inr (inr (n, omega arith))
compare (suc n) (suc c) = one-more n c (compare n c)

module _ (bytes : List ℕ) (trails : List Recorded) (read : AreRead bytes trails) where
  abbrev start : Option Reached
  start = Some (record { reading = unread; cut = record { at = 0; left = bytes } })

  abbrev whole : Reached
  whole = record { reading = record { trails = trails; begun = None }; cut = read.last }

  here : after_parts read.count start ≡ Some whole
  unfolding parts_read
  here = read.reached

  -- after the last part there is none
  beyond : (m : ℕ) → after_parts (read.count + suc m) start ≡ None
  beyond m = stuck read.count m start whole here (none-next whole read.all)

  -- the reading of all parts has no damaged part
  pub undamaged : (k : ℕ) → IsDamaged whole.reading k → ⊥
  undamaged k damaged =
      some-none (damaged_part 0 trails) k (ap (λ (ts : List Recorded). damaged_part 0 ts) (sym (append-nil trails)) ∙ damaged) (none-damaged 0 trails read.begin)

  -- some parts before the last can be read, and one more
  before : (n m : ℕ) (x : Reached) → read.count ≡ n + suc m → after_parts n start ≡ Some x → next_part x ≡ None → ⊥
  before n m x count at none = some-none (after_parts read.count start) whole here (subst (λ (k : ℕ). after_parts k start ≡ None) (sym count) (stuck n m start x at none))

  stuck-case : (n : ℕ) (x : Reached) → after_parts n start ≡ Some x → next_part x ≡ None → (x ≡ whole → ⊥) → Compared n read.count → ⊥
  stuck-case n x at none other (inl less) = before n less.0 x less.1 at none
  stuck-case n x at none other (inr (inl same)) = other (some-one x whole (sym at ∙ subst (λ (k : ℕ). after_parts k start ≡ Some whole) (sym same) here))
  stuck-case n x at none other (inr (inr more)) = some-none (after_parts n start) x at (subst (λ (k : ℕ). after_parts k start ≡ None) (sym more.1) (beyond more.0))

  damage-case : (n : ℕ) (x : Reached) (k : ℕ) → after_parts n start ≡ Some x → IsDamaged x.reading k → Compared n read.count → ⊥
  damage-case n x k at damaged (inl less) =
      undamaged k (after-step n (suc less.0) start x whole k at (subst (λ (j : ℕ). after_parts j start ≡ Some whole) less.1 here) damaged)
  damage-case n x k at damaged (inr (inl same)) =
      let all : x ≡ whole = some-one x whole (sym at ∙ subst (λ (j : ℕ). after_parts j start ≡ Some whole) (sym same) here) in
      undamaged k (subst (λ (z : Reached). IsDamaged z.reading k) all damaged)
  damage-case n x k at damaged (inr (inr more)) = some-none (after_parts n start) x at (subst (λ (j : ℕ). after_parts j start ≡ None) (sym more.1) (beyond more.0))

  not-begun : (x : Reached) → is_some x.reading.begun ≡ true → x ≡ whole → ⊥
  not-begun x begun is = true≢false (sym begun ∙ ap (λ (z : Reached). is_some z.reading.begun) is)

  not-left : (x : Reached) → 0 < length x.cut.left → x ≡ whole → ⊥
  not-left x more is =
      let none : length x.cut.left ≡ 0 = ap (λ (z : Reached). length z.cut.left) is ∙ read.all in
      absurd (omega (arith, more, none))

  cause-case : (n : ℕ) (x : Reached) (part : ℕ) → after_parts n start ≡ Some x
      → (damaged_part 0 (all_begun x.reading) ≡ Some part) ⊎ ((damaged_part 0 (all_begun x.reading) ≡ None) × ((part ≡ n + 1) × (Lacks x ⊎ Refuses n x))) → ⊥
  cause-case n x part at (inl damaged) = damage-case n x part at damaged (compare n read.count)
  cause-case n x part at (inr (_, (_, inl lacks))) = stuck-case n x at (none-next x lacks.0) (not-begun x lacks.1) (compare n read.count)
  cause-case n x part at (inr (_, (_, inr refuses))) = stuck-case n x at refuses.1.1 (not-left x refuses.1.0) (compare n read.count)

  pub never-stops : (part : ℕ) → StopsAt bytes part → ⊥
  unfolding parts_read
  never-stops part s = cause-case s.count s.last part s.reached s.cause

  limit-case : (n : ℕ) (x : Reached) → read.count ≤ n → after_parts n start ≡ Some x → 0 < length x.cut.left → Compared n read.count → ⊥
  limit-case n x few at more (inl less) = absurd (omega (arith, few, less.1))
  limit-case n x few at more (inr (inl same)) = not-left x more (some-one x whole (sym at ∙ subst (λ (k : ℕ). after_parts k start ≡ Some whole) (sym same) here))
  limit-case n x few at more (inr (inr behind)) = some-none (after_parts n start) x at (subst (λ (k : ℕ). after_parts k start ≡ None) (sym behind.1) (beyond behind.0))

  pub passes-at : (n : ℕ) (x : Reached) → read.count ≤ n → parts_read bytes n ≡ Some x → 0 < length x.cut.left → ⊥
  unfolding parts_read
  passes-at n x few at more = limit-case n x few at more (compare n read.count)

  pub never-passes : (part : ℕ) → PassesLimit bytes part → ⊥
  never-passes part p = passes-at PARTS p.last read.few p.reached p.more

  pub never-empty : bytes ≡ [] → ⊥
  never-empty none =
      let count : read.count ≡ 0 + suc (read.count - 1) = omega (arith, read.some) in
      before 0 (read.count - 1) (record { reading = unread; cut = record { at = 0; left = bytes } }) count refl (none-next (record { reading = unread; cut = record { at = 0; left = bytes } }) (ap (λ (xs : List ℕ). length xs) none))
