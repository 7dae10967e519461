-- What members have stated is witnessed by what became firm at them.
use Rattle.world_rules.specs.InForce.{IsInForce}
use Rattle.std.proofs.Common.{◌≡◌, ⊎_elim, ◌⊎◌, ℕ, zero, suc, ◌+◌, ◌*◌, ◌^◌, ◌<◌, ◌≤◌, arith, ◌==◌, ◌&&◌, ◌||◌, Bool, true, false, List, [], ◌∷◌, ◌++◌, take, length, filter, refl, ap, sym, ◌∙◌, subst, inl, inr, Option, Some, eqb-true, eq-eqb, nat_le, append-nil, drop, append_assoc, length-append}
use Rattle.std.proofs.lemmas.Bool.{ltb-false, leb-true, or_parts}
use Rattle.std.proofs.lemmas.Grind.{flat_map-append}
use Rattle.std.specs.Prelude.{insert, map, slice_get, slice_set}
use Rattle.std.specs.List.{list_any, flat_map}
use Rattle.smart_base.specs.Lists.{Each, Distinct}
use Rattle.smart_base.specs.Views.{View, ascends, is_view}
use Rattle.smart_base.specs.declared.party.Party.TheVariants.{Member}
use Rattle.smart_messages.specs.declared.message.Message.{Message}
use Rattle.smart_statements.specs.declared.entry.NodeEvent.{NodeEvent}
use Rattle.smart_statements.specs.declared.entry.NodeEvent.TheVariants.{Arrive, Tick, Deliver, Firm}
use Rattle.vote_book.specs.Books.{Among, Lawful, HasMade}
use Rattle.vote_book.specs.declared.entry.LogEntry.{LogEntry}
use Rattle.replica_rules.specs.Seals.{digest_of}
use Rattle.node_rules.specs.Steps.{leaving}
use Rattle.node_rules.specs.declared.node.Held.{Held}
use Rattle.agreement_laws.specs.Fronts.{IsFront}
use Rattle.agreement_laws.specs.Statements.{Statement, signer_of, statements, IsClosed}
use Rattle.agreement_laws.specs.Diaries.{IsShown}
use Rattle.agreement_laws.specs.Certificates.{IsBacked}
use Rattle.agreement_laws.specs.Law.{FewFaulty, Witnessed}
use Rattle.agreement_laws.proofs.Lists.{among_left, among_right, among_either, each_from, either, either_by, some_equal, each_among}
use Rattle.agreement_laws.proofs.Growing.{take-longer, IsShown-front}
use Rattle.agreement_laws.proofs.Closed.{closed}
use Rattle.node_laws.specs.Sound.{AreAmong, AreRanged, IsStated, IsStatedEvent, IsHeld, IsSound}
use Rattle.world_rules.specs.Secrets.{group_secret}
use Rattle.world_rules.specs.Premises.{is_among, too_many}
use Rattle.world_rules.specs.Worlds.{Host, World, host_of}
use Rattle.world_rules.specs.declared.message.Content.{Content}
use Rattle.world_rules.specs.declared.message.Content.TheVariants as contents
use Rattle.world_rules.specs.declared.message.Sent.{Sent}
use Rattle.world_rules.specs.Stated.{stated_in, stated, diary_of, diary}
use Rattle.world_laws.proofs.Lists.{each_insert, each_set}
use Rattle.replica_rules.specs.Replicas.{views_after}
use Rattle.world_laws.specs.Promises.{IsWitness}
use Rattle.world_laws.proofs.Names.{any_insert, map_insert, names}
use Rattle.world_laws.proofs.Keeps.{HasContent, MayRead}
use Rattle.smart_base.proofs.SameLists.{and_true}
use Rattle.smart_base.proofs.ViewFacts.{each-weaken}
use Rattle.node_rules.specs.Nodes.{Node}
use Rattle.std.proofs.lemmas.List.{take-append-drop, length-take-le}
use Rattle.std.proofs.Math.Seq.{take-append_seam}
use Rattle.book_laws.specs.BookCuts.{cut_at}
use Rattle.book_laws.proofs.CutAgain.{cut_more}
use Rattle.node_laws.specs.Restored.{IsSoundBook}
use Rattle.node_laws.proofs.CutShown.{shown_written}

-- what has been stated

pub stated-end : (sent : List Sent) (s : Sent) → stated (sent ++ s ∷ []) ≡ stated sent ++ stated_in s.content
stated-end sent s = flat_map-append (λ (t : Sent). stated_in t.content) sent (s ∷ []) ∙ ap (λ (xs : List Statement). stated sent ++ xs) (append-nil (stated_in s.content))

-- it stays so where more is sent
pub stated-grows : (sent : List Sent) (s : Sent) (x : Statement) → Among x (stated sent) → Among x (stated (sent ++ s ∷ []))
stated-grows sent s x there = rw (stated-end sent s) (among_left x (stated sent) (stated_in s.content) there)

-- and what is stated then has been, or stands in what is sent now
pub stated-either : (sent : List Sent) (s : Sent) (x : Statement) → Among x (stated (sent ++ s ∷ [])) → Among x (stated sent) ⊎ Among x (stated_in s.content)
stated-either sent s x there = among_either x (stated sent) (stated_in s.content) (subst (λ (xs : List Statement). Among x xs) (stated-end sent s) there)

-- what is among some is among more
pub among-all : (few more : List Statement) → ((x : Statement) → Among x few → Among x more) → AreAmong few more
among-all few more all = each_from (λ (x : Statement). Among x more) few all

-- what a content that was sent states has been stated
pub content_stated : (sent : List Sent) (c : Content) (x : Statement) → HasContent sent c → Among x (stated_in c) → Among x (stated sent)
content_stated [] c x has there = absurd has
content_stated (s ∷ sent) c x (inl here) there = among_left x (stated_in s.content) (stated sent) (subst (λ (y : Content). Among x (stated_in y)) (sym here) there)
content_stated (s ∷ sent) c x (inr later) there = among_right x (stated_in s.content) (stated sent) (content_stated sent c x later there)

-- so has all that stands in what may come to a node
pub stated_event : {S : Type 0} (w : World S) (h : Host S) (secret : List ℕ) (event : NodeEvent) → secret ≡ group_secret → MayRead w h event → IsStatedEvent secret (stated w.sent) event
stated_event w h secret (Arrive bytes) shared may = λ m read.
    subst (λ (k : List ℕ). IsStated k (stated w.sent) m) (sym shared)
    (among-all (statements group_secret m) (stated w.sent) (λ x there. content_stated w.sent (contents.Message m) x (may m read) there))
stated_event w h secret Tick shared may = tt
stated_event w h secret Deliver shared may = tt
stated_event w h secret (Firm count) shared may = tt

-- it is closed: what stands in it has been stated

message_of : Content → List Message
message_of (contents.Message m) = m ∷ []
message_of (contents.Raw bytes) = []

messages_of : List Sent → List Message
messages_of sent = flat_map (λ (s : Sent). message_of s.content) sent

message_states : (c : Content) → flat_map (statements group_secret) (message_of c) ≡ stated_in c
unfolding message_of
message_states (contents.Message m) = append-nil (statements group_secret m)
message_states (contents.Raw bytes) = refl

stated_messages : (sent : List Sent) → flat_map (statements group_secret) (messages_of sent) ≡ stated sent
unfolding messages_of
stated_messages [] = refl
stated_messages (s ∷ sent) =
    flat_map-append (statements group_secret) (message_of s.content) (flat_map (λ (t : Sent). message_of t.content) sent)
    ∙ (ap (λ (xs : List Statement). xs ++ flat_map (statements group_secret) (flat_map (λ (t : Sent). message_of t.content) sent)) (message_states s.content)
    ∙ ap (λ (xs : List Statement). stated_in s.content ++ xs) (stated_messages sent))

pub stated_closed : (sent : List Sent) → IsClosed group_secret (stated sent)
stated_closed sent = subst (λ (xs : List Statement). IsClosed group_secret xs) (stated_messages sent) (closed group_secret (messages_of sent))

-- what is firm

-- what became firm at a host, in all lives
abbrev pub firm_of : {S : Type 0} → Host S → List LogEntry
firm_of h = h.life.diary

-- what is firm at a host shows a statement, where it is its member's and that is not faulty
abbrev pub ShowsOwn : {S : Type 0} → List ℕ → Statement → Host S → Type 0
ShowsOwn faulty x h = signer_of x ≡ Member h.node.id → is_among faulty h.node.id ≡ false → IsShown digest_of (firm_of h) x

-- a member whose statement it is has a host, or is faulty
abbrev pub IsOfHost : {S : Type 0} → List ℕ → List (Host S) → Statement → Type 0
IsOfHost faulty hosts x = (member : ℕ) → signer_of x ≡ Member member → (is_among faulty member ≡ true) ⊎ (list_any (λ k. k == member) (names hosts) ≡ true)

-- a statement that its member's host shows, if the member is not faulty
abbrev pub IsShownAt : {S : Type 0} → List ℕ → List (Host S) → Statement → Type 0
IsShownAt faulty hosts x = Each (ShowsOwn faulty x) hosts × IsOfHost faulty hosts x

-- so it is with all that has been stated
abbrev pub AllShown : {S : Type 0} → List ℕ → List Statement → List (Host S) → Type 0
AllShown faulty stated hosts = (x : Statement) → Among x stated → IsShownAt faulty hosts x

-- a content states nothing but what has been stated or is shown
abbrev pub StatesShown : {S : Type 0} → List ℕ → List Statement → List (Host S) → Content → Type 0
StatesShown faulty stated hosts content = (x : Statement) → Among x (stated_in content) → Among x stated ⊎ IsShownAt faulty hosts x

-- who is not among more is not among fewer
not_fewer : (few more : List ℕ) (id : ℕ) → ((member : ℕ) → is_among few member ≡ true → is_among more member ≡ true) → is_among more id ≡ false → is_among few id ≡ false
not_fewer few more id grows none = by (is_among few id) refl
  where
    both : true ≡ false → ⊥
    both same = cc

    by : (t : Bool) → is_among few id ≡ t → t ≡ false
    by true is = absurd (both (sym (grows id is) ∙ none))
    by false is = refl

-- it stays so where more members are faulty
pub shown-faulty : {S : Type 0} (faulty more : List ℕ) (stated : List Statement) (hosts : List (Host S)) → ((member : ℕ) → is_among faulty member ≡ true → is_among more member ≡ true) → AllShown faulty stated hosts
    → AllShown more stated hosts
shown-faulty faulty more stated hosts grows all x there = (
  each-weaken (ShowsOwn faulty x) (ShowsOwn more x) (λ h shows who correct. shows who (not_fewer faulty more h.node.id grows correct)) hosts (all x there).0,
  λ member who. ⊎_elim (λ is. inl (grows member is)) (λ named. inr named) ((all x there).1 member who),
)

-- where more is sent
pub shown-sent : {S : Type 0} (faulty : List ℕ) (sent : List Sent) (s : Sent) (hosts : List (Host S)) → StatesShown faulty (stated sent) hosts s.content → AllShown faulty (stated sent) hosts
    → AllShown faulty (stated (sent ++ s ∷ [])) hosts
shown-sent {S = S} faulty sent s hosts states all x there =
    ⊎_elim {C = IsShownAt faulty hosts x} (λ old. all x old) (λ new. ⊎_elim {C = IsShownAt faulty hosts x} (λ old. all x old) (λ shows. shows) (states x new)) (stated-either sent s x there)

-- hosts keep their names
pub ids-set : {S : Type 0} (hs : List (Host S)) (i : ℕ) (h h' : Host S) → slice_get hs i ≡ Some h → h'.node.id ≡ h.node.id → map (λ y. y.node.id) (slice_set hs i h') ≡ map (λ y. y.node.id) hs
ids-set [] i h h' at same = absurd (cc)
ids-set {S = S} (x ∷ hs) zero h h' at same = ap (λ y. y ∷ map (λ z. z.node.id) hs) (same ∙ sym (ap (λ (z : Host S). z.node.id) (some_equal x h at)))
ids-set (x ∷ hs) (suc i) h h' at same = ap (λ ys. x.node.id ∷ ys) (ids-set hs i h h' at same)

-- and where a host has a longer book, of which more is firm
pub record Firmer {S : Type 0} (h h' : Host S) : Type 0 where
  pub named : h'.node.id ≡ h.node.id
  pub book : IsFront (firm_of h) (firm_of h')

shows-firmer : {S : Type 0} (faulty : List ℕ) (x : Statement) (h h' : Host S) → Firmer h h' → ShowsOwn faulty x h → ShowsOwn faulty x h'
shows-firmer faulty x h h' f shows who correct =
    IsShown-front digest_of (firm_of h) (firm_of h') x f.book
    (shows (who ∙ ap (λ (i : ℕ). Member i) f.named) (sym (ap (λ (i : ℕ). is_among faulty i) f.named) ∙ correct))

pub shown-set : {S : Type 0} (faulty : List ℕ) (stated : List Statement) (hosts : List (Host S)) (i : ℕ) (h h' : Host S) → slice_get hosts i ≡ Some h → Firmer h h' → AllShown faulty stated hosts
    → AllShown faulty stated (slice_set hosts i h')
shown-set {S = S} faulty stated hosts i h h' at f all x there =
    let each : Each (ShowsOwn faulty x) hosts = (all x there).0 in (
      each_set (ShowsOwn faulty x) hosts i h' each (shows-firmer faulty x h h' f (get hosts i each at)),
      λ member who. subst (λ (ids : List ℕ). (is_among faulty member ≡ true) ⊎ (list_any (λ k. k == member) ids ≡ true)) (sym (ids-set hosts i h h' at f.named)) ((all x there).1 member who),
    )
  where
    get : (hs : List (Host S)) (j : ℕ) → Each (ShowsOwn faulty x) hs → slice_get hs j ≡ Some h → ShowsOwn faulty x h
    get [] j each at = absurd (cc)
    get (g ∷ hs) zero each at = subst (ShowsOwn faulty x) (some_equal g h at) each.0
    get (g ∷ hs) (suc j) each at = get hs j each.1 at

-- what one host shows, is shown at all, as each has its own member

-- a host's name is among the names
pub named_at : {S : Type 0} (hs : List (Host S)) (i : ℕ) (h : Host S) → slice_get hs i ≡ Some h → list_any (λ y. y == h.node.id) (map (λ g. g.node.id) hs) ≡ true
named_at [] i h at = absurd (cc)
named_at {S = S} (g ∷ hs) zero h at = first (g.node.id == h.node.id) (list_any (λ y. y == h.node.id) (map (λ k. k.node.id) hs)) (eq-eqb g.node.id h.node.id (ap (λ (k : Host S). k.node.id) (some_equal g h at)))
  where
    first : (a b : Bool) → a ≡ true → (a || b) ≡ true
    first true b is = refl
    first false b is = absurd (cc)
named_at (g ∷ hs) (suc i) h at = later (g.node.id == h.node.id) (list_any (λ y. y == h.node.id) (map (λ k. k.node.id) hs)) (named_at hs i h at)
  where
    later : (a b : Bool) → b ≡ true → (a || b) ≡ true
    later true b is = refl
    later false b is = is

-- so no other host has it
pub not_later : (a id : ℕ) (ids : List ℕ) → a ≡ id → list_any (λ y. y == a) ids ≡ false → list_any (λ y. y == id) ids ≡ true → ⊥
not_later a id ids same none some = let found = subst (λ (k : ℕ). list_any (λ y. y == k) ids ≡ true) (sym same) some in cc

pub members_same : (a b : ℕ) → Member a ≡ Member b → a ≡ b
members_same a b same = cc

-- none of some hosts has it
shows_none : {S : Type 0} (faulty : List ℕ) (x : Statement) (id : ℕ) (hs : List (Host S)) → signer_of x ≡ Member id → list_any (λ y. y == id) (map (λ g. g.node.id) hs) ≡ false → Each (ShowsOwn faulty x) hs
shows_none faulty x id [] who none = tt
shows_none faulty x id (g ∷ hs) who none =
    let parts = or_parts (g.node.id == id) (list_any (λ y. y == id) (map (λ k. k.node.id) hs)) none in
    (λ own correct. absurd (no_other (sym (eq-eqb g.node.id id (members_same g.node.id id (sym own ∙ who))) ∙ parts.0)), shows_none faulty x id hs who parts.1)
  where
    no_other : true ≡ false → ⊥
    no_other is = cc

pub shown_own : {S : Type 0} (faulty : List ℕ) (x : Statement) (hs : List (Host S)) (i : ℕ) (h : Host S) → Distinct (map (λ g. g.node.id) hs) → slice_get hs i ≡ Some h → signer_of x ≡ Member h.node.id
    → IsShown digest_of (firm_of h) x → Each (ShowsOwn faulty x) hs
shown_own faulty x [] i h once at who shown = absurd (cc)
shown_own {S = S} faulty x (g ∷ hs) zero h once at who shown =
    let same : g ≡ h = some_equal g h at in
    let own : signer_of x ≡ Member g.node.id = who ∙ ap (λ (k : Host S). Member k.node.id) (sym same) in
    (λ mine correct. subst (λ (k : Host S). IsShown digest_of (firm_of k) x) (sym same) shown, shows_none faulty x g.node.id hs own once.0)
shown_own {S = S} faulty x (g ∷ hs) (suc i) h once at who shown = (
  λ mine correct. absurd (not_later g.node.id h.node.id (map (λ k. k.node.id) hs) (members_same g.node.id h.node.id (sym mine ∙ who)) once.0 (named_at hs i h at)),
  shown_own faulty x hs i h once.1 at who shown,
)

-- it is of that host
pub own_host : {S : Type 0} (faulty : List ℕ) (x : Statement) (hs : List (Host S)) (i : ℕ) (h : Host S) → slice_get hs i ≡ Some h → signer_of x ≡ Member h.node.id → IsOfHost faulty hs x
own_host {S = S} faulty x hs i h at who = λ member is.
    inr (subst (λ (k : ℕ). list_any (λ y. y == k) (names hs) ≡ true) (members_same h.node.id member (sym who ∙ is)) (named_at hs i h at))

-- so where there is a host of a new member, which has stated nothing
pub shown-added : {S : Type 0} (faulty : List ℕ) (stated : List Statement) (hosts : List (Host S)) (i : ℕ) (new : Host S) → list_any (λ k. k == new.node.id) (names hosts) ≡ false → AllShown faulty stated hosts
    → AllShown faulty stated (insert hosts i new)
shown-added {S = S} faulty stated hosts i new none all x there =
    let more : names (insert hosts i new) ≡ insert (names hosts) i new.node.id = map_insert (λ (h : Host S). h.node.id) hosts i new in (
      each_insert (ShowsOwn faulty x) hosts i new (all x there).0
          (λ who correct. absurd (⊎_elim {C = ⊥} (λ is. both (sym is ∙ correct)) (λ named. both (sym named ∙ none)) ((all x there).1 new.node.id who))),
      λ member who. subst (λ (ids : List ℕ). (is_among faulty member ≡ true) ⊎ (list_any (λ k. k == member) ids ≡ true)) (sym more)
          (⊎_elim {C = (is_among faulty member ≡ true) ⊎ (list_any (λ k. k == member) (insert (names hosts) i new.node.id) ≡ true)} (λ is. inl is)
          (λ named. inr (any_insert (λ k. k == member) (names hosts) i new.node.id named)) ((all x there).1 member who)),
    )
  where
    both : true ≡ false → ⊥
    both same = cc

-- what a node lets go

shorter_take : (n k : ℕ) (es : List LogEntry) → n ≤ k → IsFront (take n es) (take k es)
shorter_take n k es le = subst (λ (xs : List LogEntry). IsFront (take n es) (take k xs)) (append-nil es) (take-longer n k es [] le)

-- the diary of a life that began with no entry
shown_whole : {S : Type 0} (stated : List Statement) (view : View) (n : Node S) (d : List LogEntry) (x : Held) → IsSound stated view n → take n.firm n.entries ≡ d → Among x n.held → x.needs ≤ n.firm
    → Each (λ s. Among s stated ⊎ ((signer_of s ≡ Member n.id) × IsShown digest_of d s)) (statements n.secret x.message)
shown_whole {S = S} stated view n d x is firm there low =
    each-weaken (λ (s : Statement). Among s stated ⊎ ((signer_of s ≡ Member n.id) × IsShown digest_of (take x.needs n.entries) s)) (λ (s : Statement). Among s stated ⊎ ((signer_of s ≡ Member n.id) × IsShown digest_of d s))
    (λ s own. ⊎_elim {C = Among s stated ⊎ ((signer_of s ≡ Member n.id) × IsShown digest_of d s)} (λ old. inl old)
    (λ mine. inr (mine.0, subst (λ (es : List LogEntry). IsShown digest_of es s) firm (IsShown-front digest_of (take x.needs n.entries) (take n.firm n.entries) s (shorter_take x.needs n.firm n.entries low) mine.1))) own)
    (statements n.secret x.message) (each_among (IsHeld n.secret n.id stated n.entries) n.held x is.held there).shown

-- what is firm in a life that began with some entries of a diary
pub firm_parts : {S : Type 0} (n : Node S) (first later d : List LogEntry) → d ≡ first ++ later → take n.firm n.entries ≡ cut_at n.opening d → (0 < n.opening → HasMade first n.opening)
    → take n.firm n.entries ≡ cut_at n.opening first ++ later
firm_parts n first later d both firm made = firm ∙ (ap (λ (es : List LogEntry). cut_at n.opening es) both ∙ cut_more n.opening first later made)

-- the diary of a life that began with some
shown_behind : {S : Type 0} (stated : List Statement) (view : View) (n : Node S) (first later d : List LogEntry) (x : Held) → IsSound stated view n → IsSoundBook n.secret stated n.replica.views first → d ≡ first ++ later
    → take n.firm n.entries ≡ cut_at n.opening d → n.restored ≡ length (cut_at n.opening first) → (0 < n.opening → HasMade first n.opening) → n.firm ≤ length n.entries → (first ≡ [] → ⊥) → Among x n.held → x.needs ≤ n.firm
    → Each (λ s. Among s stated ⊎ ((signer_of s ≡ Member n.id) × IsShown digest_of d s)) (statements n.secret x.message)
shown_behind {S = S} stated view n first later d x is book both firm count made most some there low =
    let cut : List LogEntry = cut_at n.opening first in
    let rest : List LogEntry = drop n.firm n.entries in
    let parts : take n.firm n.entries ≡ cut ++ later = firm_parts n first later d both firm made in
    let entries : n.entries ≡ cut ++ (later ++ rest) =
    sym (take-append-drop n.firm n.entries) ∙ (ap (λ (es : List LogEntry). es ++ rest) parts ∙ append_assoc cut later rest) in
    let taken = length-take-le n.firm n.entries most in
    let long : length (take n.firm n.entries) ≡ length cut + length later = ap (λ (es : List LogEntry). length es) parts ∙ length-append cut later in
    subst (λ (es : List LogEntry). Each (λ s. Among s stated ⊎ ((signer_of s ≡ Member n.id) × IsShown digest_of es s)) (statements n.secret x.message))
    (ap (λ (es : List LogEntry). first ++ es) (take-append_seam later rest) ∙ sym both)
    (shown_written stated view n first (later ++ rest) (length later) x is book entries count made some there (omega (arith, low, taken, long, count)))

-- each statement of a message that a running node holds, if it waits for firm entries alone, has been stated, or is the member's own and shown by its diary
pub running_shown : {S : Type 0} (stated : List Statement) (view : View) (n : Node S) (first later d : List LogEntry) (x : Held) → IsSound stated view n → IsSoundBook n.secret stated n.replica.views first → d ≡ first ++ later
    → take n.firm n.entries ≡ cut_at n.opening d → n.restored ≡ length (cut_at n.opening first) → (0 < n.opening → HasMade first n.opening) → n.firm ≤ length n.entries → Among x n.held → x.needs ≤ n.firm
    → Each (λ s. Among s stated ⊎ ((signer_of s ≡ Member n.id) × IsShown digest_of d s)) (statements n.secret x.message)
running_shown {S = S} stated view n [] later d x is book both firm count made most there low =
    shown_whole stated view n d x is (firm ∙ whole n.opening (λ some. none (made some))) there low
  where
    none : HasMade [] n.opening → ⊥
    none has = has.there

    whole : (k : ℕ) → (0 < k → ⊥) → cut_at k d ≡ d
    whole zero none = refl
    whole (suc k) none = absurd (none (omega arith))
running_shown {S = S} stated view n (e ∷ es) later d x is book both firm count made most there low =
    shown_behind stated view n (e ∷ es) later d x is book both firm count made most (λ none. absurd cc) there low

-- what is held and leaves states what has been stated, or what is shown
leaving_shows : {S : Type 0} (faulty : List ℕ) (stated : List Statement) (hosts : List (Host S)) (i : ℕ) (h : Host S) (held : Held) → Distinct (map (λ g. g.node.id) hosts) → slice_get hosts i ≡ Some h
    → Each (λ s. Among s stated ⊎ ((signer_of s ≡ Member h.node.id) × IsShown digest_of (firm_of h) s)) (statements group_secret held.message) → StatesShown faulty stated hosts (contents.Message held.message)
leaving_shows {S = S} faulty T hosts i h held once at each x there =
    ⊎_elim {C = Among x T ⊎ IsShownAt faulty hosts x} (λ old. inl old) (λ own. inr (shown_own faulty x hosts i h once at own.0 own.1, own_host faulty x hosts i h at own.0))
    (each_among (λ (s : Statement). Among s T ⊎ ((signer_of s ≡ Member h.node.id) × IsShown digest_of (firm_of h) s)) (statements group_secret held.message) x each there)

-- so it is with all that leave
pub leave_shown : {S : Type 0} (faulty : List ℕ) (stated : List Statement) (hosts : List (Host S)) (i : ℕ) (h : Host S) (firm : ℕ) (held : List Held) → Distinct (map (λ g. g.node.id) hosts) → slice_get hosts i ≡ Some h
    → ((x : Held) → Among x held → x.needs ≤ firm → Each (λ s. Among s stated ⊎ ((signer_of s ≡ Member h.node.id) × IsShown digest_of (firm_of h) s)) (statements group_secret x.message))
    → Each (λ x. StatesShown faulty stated hosts (contents.Message x.message)) (leaving firm held)
leave_shown faulty T hosts i h firm [] once at shown = tt
leave_shown {S = S} faulty T hosts i h firm (x ∷ xs) once at shown =
    either_by (λ (hs : List Held). Each (λ y. StatesShown faulty T hosts (contents.Message y.message)) hs) (nat_le x.needs firm) (x ∷ leaving firm xs) []
    (λ is. (
      leaving_shows faulty T hosts i h x once at (shown x (inl refl) (leb-true x.needs firm is)),
      leave_shown faulty T hosts i h firm xs once at (λ y there low. shown y (inr there) low),
    )) (λ waits. tt)

-- witnessed

-- few are faulty
pub few_faulty : (view : View) (faulty : List ℕ) → is_view view ≡ true → too_many view faulty ≡ false → FewFaulty view (is_among faulty)
unfolding is_view
few_faulty v faulty is few =
    let a = and_true (nat_le v.number 1023 && nat_le 1 v.start && nat_le v.start (2 ^ 63) && nat_le v.f 10 && nat_le (3 * v.f + 1) (length v.members) && nat_le (length v.members) 31) (ascends 0 v.members) is in
    let b = and_true (nat_le v.number 1023 && nat_le 1 v.start && nat_le v.start (2 ^ 63) && nat_le v.f 10 && nat_le (3 * v.f + 1) (length v.members)) (nat_le (length v.members) 31) a.0 in
    let c = and_true (nat_le v.number 1023 && nat_le 1 v.start && nat_le v.start (2 ^ 63) && nat_le v.f 10) (nat_le (3 * v.f + 1) (length v.members)) b.0 in
    record { room = leb-true (3 * v.f + 1) (length v.members) c.1; few = ltb-false v.f (length (filter (is_among faulty) v.members)) few }

-- a host of the group whose diary is sound
pub record HostStands {S : Type 0} (w : World S) (h : Host S) : Type 0 where
  pub lawful : Lawful 0 0 h.life.diary
  pub ranged : AreRanged (views_after w.view w.chosen) h.life.diary
  pub backed : (v : View) → IsInForce w v → Each (IsBacked group_secret digest_of v (stated w.sent)) h.life.diary

-- what holds of each host's firm entries, holds of a member's diary
by_host : {S : Type 0} (P : List LogEntry → Type 0) → P [] → (hosts : List (Host S)) → Each (λ h. P (firm_of h)) hosts → (member : ℕ) → P (diary_of (host_of hosts member))
by_host P none [] each member = none
by_host {S = S} P none (h ∷ hs) each member =
    either (λ (found : Option (Host S)). P (diary_of found)) (h.node.id == member) (Some h) (host_of hs member) each.0 (by_host P none hs each.1 member)

-- what each host shows of its own, a member's diary shows
shown_at : {S : Type 0} (faulty : List ℕ) (x : Statement) (hosts : List (Host S)) (member : ℕ) → Each (ShowsOwn faulty x) hosts → list_any (λ y. y == member) (map (λ h. h.node.id) hosts) ≡ true
    → signer_of x ≡ Member member → is_among faulty member ≡ false → IsShown digest_of (diary_of (host_of hosts member)) x
shown_at faulty x [] member each there who correct = absurd (cc)
shown_at {S = S} faulty x (h ∷ hs) member each there who correct =
    either_by (λ (found : Option (Host S)). IsShown digest_of (diary_of found) x) (h.node.id == member) (Some h) (host_of hs member)
    (λ is. let same = eqb-true h.node.id member is in
    each.0 (who ∙ ap (λ (i : ℕ). Member i) (sym same)) (ap (λ (i : ℕ). is_among faulty i) same ∙ correct))
    (λ isnt. shown_at faulty x hs member each.1 (rest (h.node.id == member) (list_any (λ y. y == member) (map (λ g. g.node.id) hs)) isnt there) who correct)
  where
    rest : (a b : Bool) → a ≡ false → (a || b) ≡ true → b ≡ true
    rest true b none is = absurd (cc)
    rest false b none is = is

none_lawful : Lawful 0 0 []
none_lawful before entry after split = absurd (apart before split)
  where
    apart : (before : List LogEntry) → [] ≡ before ++ entry ∷ after → ⊥
    apart [] same = cc
    apart (e ∷ es) same = cc

-- no entry is out of range
none_ranged : (views : List View) → AreRanged views []
none_ranged views before entry after split = absurd (apart before split)
  where
    apart : (before : List LogEntry) → [] ≡ before ++ entry ∷ after → ⊥
    apart [] same = cc
    apart (e ∷ es) same = cc

-- where all hosts are such, and show what has been stated, each member's diary does
pub witness-of : {S : Type 0} (w : World S) → Each (HostStands w) w.hosts → AllShown w.faulty (stated w.sent) w.hosts → (member : ℕ) → IsWitness w member
witness-of {S = S} w hosts all member = record {
  lawful = by_host (λ (es : List LogEntry). Lawful 0 0 es) none_lawful w.hosts
      (each-weaken (HostStands w) (λ (h : Host S). Lawful 0 0 (firm_of h)) (λ h is. is.lawful) w.hosts hosts) member;
  ranged = by_host (AreRanged (views_after w.view w.chosen)) (none_ranged (views_after w.view w.chosen)) w.hosts
      (each-weaken (HostStands w) (λ (h : Host S). AreRanged (views_after w.view w.chosen) (firm_of h)) (λ h is. is.ranged) w.hosts hosts) member;
  backed = λ v force. by_host (Each (IsBacked group_secret digest_of v (stated w.sent))) tt w.hosts
      (each-weaken (HostStands w) (λ (h : Host S). Each (IsBacked group_secret digest_of v (stated w.sent)) (firm_of h)) (λ h is. is.backed v force) w.hosts hosts) member;
  shown = λ x there who correct. shown_at w.faulty x w.hosts member (all x there).0 (named x there who correct) who correct;
}
  where
    both : true ≡ false → ⊥
    both same = cc

    named : (x : Statement) → Among x (stated w.sent) → signer_of x ≡ Member member → is_among w.faulty member ≡ false → list_any (λ k. k == member) (names w.hosts) ≡ true
    named x there who correct =
        ⊎_elim {C = list_any (λ k. k == member) (names w.hosts) ≡ true} (λ gone. absurd (both (sym gone ∙ correct))) (λ here. here) ((all x there).1 member who)

-- and where few of a view in force are faulty, it is witnessed there
pub witnessing : {S : Type 0} (w : World S) (v : View) → IsInForce w v → is_view v ≡ true → too_many v w.faulty ≡ false → ((member : ℕ) → IsWitness w member)
    → Witnessed group_secret digest_of v (is_among w.faulty) (diary w) (stated w.sent)
witnessing w v force viewed few each =
    record {
      few = few_faulty v w.faulty viewed few;
      lawful = λ member correct. (each member).lawful;
      backed = λ member correct. (each member).backed v force;
      shown = λ member correct x there who. (each member).shown x there who correct.correct;
      closed = stated_closed w.sent;
    }
