-- Where there is no difference, recorded runs are coherent, and the other way round.
use Rattle.std.proofs.Common.{◌≡◌, ℕ, ◌+◌, Bool, true, false, cond, List, [], ◌∷◌, ◌++◌, Option, Some, None, refl}
use Rattle.std.specs.Prelude.{◌&&◌, not, option_map}
use Rattle.smart_base.specs.Lists.{Each, or_else}
use Rattle.smart_statements.specs.declared.entry.NodeEvent.{NodeEvent}
use Rattle.smart_statements.specs.declared.entry.NodeEvent.TheVariants.{Arrive, Tick, Deliver, Firm}
use Rattle.smart_keys.specs.Keys.{is_tag}
use Rattle.smart_messages.specs.Messages.{decoded}
use Rattle.smart_messages.specs.declared.message.Sealed.{Sealed}
use Rattle.app_count.specs.Counts.{counting}
use Rattle.app_kv.specs.Snapshots.{keeping}
use Rattle.node_rules.specs.Nodes.{Node}
use Rattle.node_rules.specs.Steps.{first_leaving}
use Rattle.node_rules.specs.declared.node.Held.{Held}
use Rattle.trail.specs.declared.event.Addressed.{Addressed}
use Rattle.trail.specs.declared.event.TrailEvent.{TrailEvent}
use Rattle.trail.specs.declared.event.TrailEvent.TheVariants.{Happens, Send, Lost, Polls, End}
use Rattle.trail.specs.declared.opening.App.{App}
use Rattle.trail.specs.declared.opening.App.TheVariants as apps
use Rattle.trail.specs.declared.opening.TrailOpening.{TrailOpening}
use Rattle.trail_rules.specs.Replays.{Step, node_step, after, came_by, arrivals}
use Rattle.audit_rules.specs.declared.recorded.Recorded.{Recorded}
use Rattle.audit_rules.specs.declared.recorded.Found.{Found}
use Rattle.audit_rules.specs.declared.recorded.Found.TheVariants as finds
use Rattle.audit_rules.specs.Audits.{first_node, is_client, is_release, sent_found, addressed_of, is_member, has_sent, is_unsent, first_of, sealed_in, came_found, event_found, client_found, differing, member_difference, client_difference, app_difference, trail_difference, difference_in, first_difference}
use Rattle.audit_rules.specs.Coherence.{IsNext, Leaves, LeavesBy, IsReplayed, IsSent, AreSent, Coherent}

-- ---- options and lists

or_none : {A : Type 0} (x y : Option A) → or_else x y ≡ None → (x ≡ None) × (y ≡ None)
or_none None y none = (refl, none)
or_none (Some x) y none = absurd (cc)

both_none : {A : Type 0} (x y : Option A) → x ≡ None → y ≡ None → or_else x y ≡ None
both_none None y x_none y_none = y_none
both_none (Some x) y x_none y_none = absurd (cc)

map_none : {A B : Type 0} (f : A → B) (x : Option A) → option_map f x ≡ None → x ≡ None
map_none f None none = refl
map_none f (Some x) none = absurd (cc)

none_map : {A B : Type 0} (f : A → B) (x : Option A) → x ≡ None → option_map f x ≡ None
none_map f None none = refl
none_map f (Some x) none = absurd (cc)

each_both : {A : Type 0} (P : A → Type 0) (xs ys : List A) → Each P xs → Each P ys → Each P (xs ++ ys)
each_both P [] ys front rest = rest
each_both P (x ∷ xs) ys front rest = (front.0, each_both P xs ys front.1 rest)

each_left : {A : Type 0} (P : A → Type 0) (xs ys : List A) → Each P (xs ++ ys) → Each P xs
each_left P [] ys all = tt
each_left P (x ∷ xs) ys all = (all.0, each_left P xs ys all.1)

each_right : {A : Type 0} (P : A → Type 0) (xs ys : List A) → Each P (xs ++ ys) → Each P ys
each_right P [] ys all = all
each_right P (x ∷ xs) ys all = each_right P xs ys all.1

each_map : {A : Type 0} (P Q : A → Type 0) → ((x : A) → P x → Q x) → (xs : List A) → Each P xs → Each Q xs
each_map P Q f [] all = tt
each_map P Q f (x ∷ xs) all = (f x all.0, each_map P Q f xs all.1)

-- ---- the first that passes a test

IsNot : {A : Type 0} → (A → Bool) → A → Type 0
IsNot wanted x = wanted x ≡ false

none_step : {A : Type 0} (wanted : A → Bool) (x : A) (xs : List A) (t : Bool) → wanted x ≡ t → cond t (Some x) (first_of wanted xs) ≡ None
    → (first_of wanted xs ≡ None → Each (λ y. wanted y ≡ false) xs) → Each (λ y. wanted y ≡ false) (x ∷ xs)
none_step wanted x xs true is none rest = absurd (cc)
none_step wanted x xs false is none rest = (is, rest none)

none_of : {A : Type 0} (wanted : A → Bool) (xs : List A) → first_of wanted xs ≡ None → Each (λ y. wanted y ≡ false) xs
none_of wanted [] none = tt
none_of wanted (x ∷ xs) none = none_step wanted x xs (wanted x) refl none (none_of wanted xs)

no_first : {A : Type 0} (wanted : A → Bool) (xs : List A) → Each (λ y. wanted y ≡ false) xs → first_of wanted xs ≡ None
no_first wanted [] all = refl
no_first wanted (x ∷ xs) all = rw all.0 (no_first wanted xs all.1)

-- ---- one event

-- bytes of which each statement is known
abbrev AreKnown : (Sealed → Bool) → List ℕ → List ℕ → Type 0
AreKnown sent secret bytes = Each (λ (s : Sealed). is_unsent sent secret s ≡ false) (sealed_in (decoded bytes))

came_none : (sent : Sealed → Bool) (secret : List ℕ) (e : NodeEvent) → came_found sent secret e ≡ None → Each (AreKnown sent secret) (came_by (Happens e))
came_none sent secret (Arrive bytes) none = (none_of (is_unsent sent secret) (sealed_in (decoded bytes)) (map_none finds.Stated _ none), tt)
came_none sent secret Tick none = tt
came_none sent secret Deliver none = tt
came_none sent secret (Firm count) none = tt

none_came : (sent : Sealed → Bool) (secret : List ℕ) (e : NodeEvent) → Each (AreKnown sent secret) (came_by (Happens e)) → came_found sent secret e ≡ None
none_came sent secret (Arrive bytes) all = none_map finds.Stated _ (no_first (is_unsent sent secret) (sealed_in (decoded bytes)) all.0)
none_came sent secret Tick all = refl
none_came sent secret Deliver all = refl
none_came sent secret (Firm count) all = refl

release_by : (a : Addressed) (next : Option Held) (found : Option Found) (t : Bool) → is_release a next ≡ t → cond t None (Some (finds.Sent (option_map addressed_of next) a)) ≡ None
    → is_release a next ≡ true
release_by a next found true is none = is
release_by a next found false is none = absurd (cc)

release_none : (a : Addressed) (next : Option Held) → sent_found a next ≡ None → is_release a next ≡ true
release_none a next none = release_by a next None (is_release a next) refl none

event_none : {S : Type 0} (sent : Sealed → Bool) (secret : List ℕ) (n : Node S) (e : TrailEvent) → event_found sent secret n e ≡ None → IsNext n e × Each (AreKnown sent secret) (came_by e)
event_none sent secret n (Happens event) none = (tt, came_none sent secret event none)
event_none sent secret n (Send a) none = (release_none a (first_leaving n.firm n.held) none, tt)
event_none sent secret n (Lost a) none = (tt, tt)
event_none sent secret n (Polls count) none = (tt, tt)
event_none sent secret n End none = (tt, tt)

none_event : {S : Type 0} (sent : Sealed → Bool) (secret : List ℕ) (n : Node S) (e : TrailEvent) → IsNext n e → Each (AreKnown sent secret) (came_by e) → event_found sent secret n e ≡ None
none_event sent secret n (Happens event) next all = none_came sent secret event all
none_event sent secret n (Send a) next all = rw next refl
none_event sent secret n (Lost a) next all = refl
none_event sent secret n (Polls count) next all = refl
none_event sent secret n End next all = refl

client_event_none : (sent : Sealed → Bool) (secret : List ℕ) (e : TrailEvent) → client_found sent secret e ≡ None → Each (AreKnown sent secret) (came_by e)
client_event_none sent secret (Happens event) none = came_none sent secret event none
client_event_none sent secret (Send a) none = tt
client_event_none sent secret (Lost a) none = tt
client_event_none sent secret (Polls count) none = tt
client_event_none sent secret End none = tt

none_client_event : (sent : Sealed → Bool) (secret : List ℕ) (e : TrailEvent) → Each (AreKnown sent secret) (came_by e) → client_found sent secret e ≡ None
none_client_event sent secret (Happens event) all = none_came sent secret event all
none_client_event sent secret (Send a) all = refl
none_client_event sent secret (Lost a) all = refl
none_client_event sent secret (Polls count) all = refl
none_client_event sent secret End all = refl

-- ---- one trail

member_none : {S : Type 0} (step : Step S) (sent : Sealed → Bool) (o : TrailOpening) (before : ℕ) (n : Node S) (events : List TrailEvent)
    → member_difference step sent o before n events ≡ None → Leaves step n events × Each (AreKnown sent o.secret) (arrivals events)
member_none step sent o before n [] none = (tt, tt)
member_none step sent o before n (e ∷ events) none =
    let parts = or_none (differing o.member (before + 1) (event_found sent o.secret n e)) (member_difference step sent o (before + 1) (after step n e) events) none in
    let here = event_none sent o.secret n e (map_none _ (event_found sent o.secret n e) parts.0) in
    let rest = member_none step sent o (before + 1) (after step n e) events parts.1 in
    ((here.0, rest.0), each_both (AreKnown sent o.secret) (came_by e) (arrivals events) here.1 rest.1)

none_member : {S : Type 0} (step : Step S) (sent : Sealed → Bool) (o : TrailOpening) (before : ℕ) (n : Node S) (events : List TrailEvent)
    → Leaves step n events → Each (AreKnown sent o.secret) (arrivals events) → member_difference step sent o before n events ≡ None
none_member step sent o before n [] leaves all = refl
none_member step sent o before n (e ∷ events) leaves all =
    let here = none_event sent o.secret n e leaves.0 (each_left (AreKnown sent o.secret) (came_by e) (arrivals events) all) in
    let rest = none_member step sent o (before + 1) (after step n e) events leaves.1 (each_right (AreKnown sent o.secret) (came_by e) (arrivals events) all) in
    both_none (differing o.member (before + 1) (event_found sent o.secret n e)) (member_difference step sent o (before + 1) (after step n e) events)
    (none_map _ (event_found sent o.secret n e) here) rest

client_none : (sent : Sealed → Bool) (o : TrailOpening) (before : ℕ) (events : List TrailEvent) → client_difference sent o before events ≡ None
    → Each (AreKnown sent o.secret) (arrivals events)
client_none sent o before [] none = tt
client_none sent o before (e ∷ events) none =
    let parts = or_none (differing o.member (before + 1) (client_found sent o.secret e)) (client_difference sent o (before + 1) events) none in
    each_both (AreKnown sent o.secret) (came_by e) (arrivals events) (client_event_none sent o.secret e (map_none _ (client_found sent o.secret e) parts.0))
    (client_none sent o (before + 1) events parts.1)

none_client : (sent : Sealed → Bool) (o : TrailOpening) (before : ℕ) (events : List TrailEvent) → Each (AreKnown sent o.secret) (arrivals events)
    → client_difference sent o before events ≡ None
none_client sent o before [] all = refl
none_client sent o before (e ∷ events) all =
    let here = none_client_event sent o.secret e (each_left (AreKnown sent o.secret) (came_by e) (arrivals events) all) in
    both_none (differing o.member (before + 1) (client_found sent o.secret e)) (client_difference sent o (before + 1) events)
    (none_map _ (client_found sent o.secret e) here) (none_client sent o (before + 1) events (each_right (AreKnown sent o.secret) (came_by e) (arrivals events) all))

app_none : (sent : Sealed → Bool) (t : Recorded) (app : App) → app_difference sent t app ≡ None → LeavesBy t app × Each (AreKnown sent t.opening.secret) (arrivals t.events)
app_none sent t apps.Count none = member_none (node_step counting) sent t.opening 0 (first_node counting t) t.events none
app_none sent t apps.Kv none = member_none (node_step keeping) sent t.opening 0 (first_node keeping t) t.events none

none_app : (sent : Sealed → Bool) (t : Recorded) (app : App) → LeavesBy t app → Each (AreKnown sent t.opening.secret) (arrivals t.events) → app_difference sent t app ≡ None
none_app sent t apps.Count leaves all = none_member (node_step counting) sent t.opening 0 (first_node counting t) t.events leaves all
none_app sent t apps.Kv leaves all = none_member (node_step keeping) sent t.opening 0 (first_node keeping t) t.events leaves all

trail_by : (sent : Sealed → Bool) (t : Recorded) (client : Bool) → is_client t ≡ client
    → cond client (client_difference sent t.opening 0 t.events) (app_difference sent t t.opening.app) ≡ None
    → IsReplayed t × Each (AreKnown sent t.opening.secret) (arrivals t.events)
trail_by sent t true is none = (λ member. absurd (cc), client_none sent t.opening 0 t.events none)
trail_by sent t false is none =
    let all = app_none sent t t.opening.app none in
    (λ member. all.0, all.1)

trail_none : (sent : Sealed → Bool) (t : Recorded) → trail_difference sent t ≡ None → IsReplayed t × Each (AreKnown sent t.opening.secret) (arrivals t.events)
unfolding trail_difference
trail_none sent t none = trail_by sent t (is_client t) refl none

by_trail : (sent : Sealed → Bool) (t : Recorded) (client : Bool) → is_client t ≡ client → IsReplayed t → Each (AreKnown sent t.opening.secret) (arrivals t.events)
    → cond client (client_difference sent t.opening 0 t.events) (app_difference sent t t.opening.app) ≡ None
by_trail sent t true is replayed all = none_client sent t.opening 0 t.events all
by_trail sent t false is replayed all = none_app sent t t.opening.app (replayed is) all

none_trail : (sent : Sealed → Bool) (t : Recorded) → IsReplayed t → Each (AreKnown sent t.opening.secret) (arrivals t.events) → trail_difference sent t ≡ None
unfolding trail_difference
none_trail sent t replayed all = by_trail sent t (is_client t) refl replayed all

-- ---- all trails

known_sent : (member tagged sent : Bool) → (member && (tagged && not sent)) ≡ false → member ≡ true → tagged ≡ true → sent ≡ true
known_sent true true true known m t = refl
known_sent true true false known m t = absurd (cc)
known_sent true false sent known m t = absurd (cc)
known_sent false tagged sent known m t = absurd (cc)

sent_known : (member tagged sent : Bool) → (member ≡ true → tagged ≡ true → sent ≡ true) → (member && (tagged && not sent)) ≡ false
sent_known true true sent is = rw (is refl refl) refl
sent_known true false sent is = refl
sent_known false tagged sent is = refl

all_sent : (trails : List Recorded) (t : Recorded) → Each (AreKnown (has_sent trails) t.opening.secret) (arrivals t.events) → AreSent trails t
all_sent trails t all =
    let secret = t.opening.secret in
    each_map (AreKnown (has_sent trails) secret) (λ bytes. Each (IsSent trails secret) (sealed_in (decoded bytes)))
    (λ bytes known. each_map (λ (s : Sealed). is_unsent (has_sent trails) secret s ≡ false) (IsSent trails secret)
    (λ s is. known_sent (is_member s.who) (is_tag secret s.who s.text s.tag) (has_sent trails s) is) (sealed_in (decoded bytes)) known)
    (arrivals t.events) all

all_known : (trails : List Recorded) (t : Recorded) → AreSent trails t → Each (AreKnown (has_sent trails) t.opening.secret) (arrivals t.events)
all_known trails t all =
    let secret = t.opening.secret in
    each_map (λ bytes. Each (IsSent trails secret) (sealed_in (decoded bytes))) (AreKnown (has_sent trails) secret)
    (λ bytes sent. each_map (IsSent trails secret) (λ (s : Sealed). is_unsent (has_sent trails) secret s ≡ false)
    (λ s is. sent_known (is_member s.who) (is_tag secret s.who s.text s.tag) (has_sent trails s) is) (sealed_in (decoded bytes)) sent)
    (arrivals t.events) all

abbrev IsFine : (Sealed → Bool) → Recorded → Type 0
IsFine sent t = IsReplayed t × Each (AreKnown sent t.opening.secret) (arrivals t.events)

trails_none : (sent : Sealed → Bool) (trails : List Recorded) → difference_in sent trails ≡ None → Each (IsFine sent) trails
trails_none sent [] none = tt
trails_none sent (t ∷ ts) none =
    let parts = or_none (trail_difference sent t) (difference_in sent ts) none in
    (trail_none sent t parts.0, trails_none sent ts parts.1)

none_trails : (sent : Sealed → Bool) (trails : List Recorded) → Each (IsFine sent) trails → difference_in sent trails ≡ None
none_trails sent [] all = refl
none_trails sent (t ∷ ts) all = both_none (trail_difference sent t) (difference_in sent ts) (none_trail sent t all.0.0 all.0.1) (none_trails sent ts all.1)

pub coherent_if : (trails : List Recorded) → first_difference trails ≡ None → Coherent trails
unfolding first_difference
coherent_if trails none =
    let fine = trails_none (has_sent trails) trails none in
    record {
      replayed = each_map (IsFine (has_sent trails)) IsReplayed (λ t is. is.0) trails fine;
      sent = each_map (IsFine (has_sent trails)) (AreSent trails) (λ t is. all_sent trails t is.1) trails fine;
    }

fine_of : (all trails : List Recorded) → Each IsReplayed trails → Each (AreSent all) trails → Each (IsFine (has_sent all)) trails
fine_of all [] replayed sent = tt
fine_of all (t ∷ ts) replayed sent = ((replayed.0, all_known all t sent.0), fine_of all ts replayed.1 sent.1)

pub if_coherent : (trails : List Recorded) → Coherent trails → first_difference trails ≡ None
unfolding first_difference
if_coherent trails is = none_trails (has_sent trails) trails (fine_of trails trails is.replayed is.sent)
