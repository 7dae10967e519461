-- What was sent, what was accepted and the diaries only grow.
use Rattle.std.proofs.Common.{◌≡◌, ℕ, zero, suc, ◌≤◌, ◌==◌, Bool, true, false, List, [], ◌∷◌, length, refl, sym, cond, Some, subst, take, ap, ◌∙◌, Option, None, is_some, eqb-true}
use Rattle.node_rules.specs.Nodes.{view_of}
use Rattle.std.specs.Prelude.{slice_get, slice_set, insert}
use Rattle.smart_statements.specs.declared.entry.NodeEvent.{NodeEvent}
use Rattle.smart_service.specs.Services.{Meaning}
use Rattle.vote_book.specs.declared.entry.LogEntry.{LogEntry}
use Rattle.node_rules.specs.Steps.{Outcome, step_of, leaving}
use Rattle.client_quorum.specs.declared.client.Client.{Client}
use Rattle.client_quorum.specs.declared.client.Word.{Word}
use Rattle.client_quorum.specs.declared.client.Acceptance.{Acceptance}
use Rattle.client_quorum.specs.declared.client.Heard.{Heard}
use Rattle.world_rules.specs.Clients.{heard_word}
use Rattle.world_rules.specs.Secrets.{group_secret}
use Rattle.world_rules.specs.Stated.{diary_of, diary}
use Rattle.world_rules.specs.Worlds.{Course, course_of, Host, World, host_of, posts, stepped, host_after, host_crashed, host_resumed, acceptance_in, hearing, parts_held, new_host}
use Rattle.world_rules.specs.declared.line.Line.{Line}
use Rattle.world_rules.specs.declared.message.Sent.{Sent}
use Rattle.world_laws.specs.Promises.{world_at}
use Rattle.world_laws.proofs.Keeps.{ask_of, asked_by, by-posts, KeepsAll, keeps-world_after, signed_by, after_call, node_resumed, from_node, from_client, from_script, keeps-sends_all, IsNew, added}
use Rattle.world_laws.proofs.Fronts.{front-same, front-append}
use Rattle.world_laws.proofs.Reopens.{from_named}
use Rattle.world_laws.proofs.Past.{world-more}
use Rattle.replica_laws.proofs.Follows.{follows-step}
use Rattle.agreement_laws.proofs.Lists.{some_equal}
use Rattle.world_rules.specs.declared.line.Header.{Header}
use Rattle.world_laws.proofs.Names.{names, none_named}
use Rattle.std.specs.List.{list_any}
use Rattle.std.proofs.lemmas.Bool.{or_parts}

-- what was sent and what was accepted

record Grown {S : Type 0} (sent : List Sent) (accepted : List Acceptance) (w : World S) : Type 0 where
  has_sent : take (length sent) w.sent ≡ sent
  has_accepted : take (length accepted) w.accepted ≡ accepted

grown-posts : {S : Type 0} (sent : List Sent) (accepted : List Acceptance) (w : World S) (s : Sent) → Grown sent accepted w → Grown sent accepted (posts w s)
grown-posts {S = S} sent accepted w s is =
    by-posts (λ (v : World S). Grown sent accepted v) w s (λ ending. record { has_sent = is.has_sent; has_accepted = is.has_accepted })
    (λ free room. record { has_sent = front-append sent w.sent (s ∷ []) is.has_sent; has_accepted = is.has_accepted })

grown-stepped : {S : Type 0} (course : Course S) (sent : List Sent) (accepted : List Acceptance) (w : World S) (i : ℕ) (h : Host S) (o : Outcome S) → Grown sent accepted w → Grown sent accepted (stepped course w i h o)
unfolding stepped
grown-stepped {S = S} course sent accepted w i h o is =
    keeps-sends_all (λ (v : World S). Grown sent accepted v) h.node.id (view_of o.node) (λ v held grown. grown-posts sent accepted v (from_node v h.node.id (view_of o.node) held) grown) _ (leaving o.node.firm o.node.held)
    (record { has_sent = is.has_sent; has_accepted = is.has_accepted })

grown-hearing : {S : Type 0} (sent : List Sent) (accepted : List Acceptance) (w : World S) (i : ℕ) (c : Client) (a : Word) (h : Heard) → Grown sent accepted w → Grown sent accepted (hearing w i c a h)
unfolding hearing
grown-hearing sent accepted w i c a h is = record { has_sent = is.has_sent; has_accepted = front-append accepted w.accepted (acceptance_in h) is.has_accepted }

-- each event keeps what they began with
keeps-grown : {S : Type 0} (course : Course S) (sent : List Sent) (accepted : List Acceptance) → KeepsAll course (Grown {S = S} sent accepted)
keeps-grown course sent accepted =
    record {
      kept = record {
        event = λ w i h event up at may is. grown-stepped course sent accepted w i h (course.step h.node event) is;
        disk = λ w i h up at is. record { has_sent = is.has_sent; has_accepted = is.has_accepted };
        crash = λ w i h left up at may is. record { has_sent = is.has_sent; has_accepted = is.has_accepted };
        hear = λ w i c x a on at has read is. grown-hearing sent accepted w i c a (heard_word c a) is;
        ask = λ w i c op at free few brief is. grown-posts sent accepted (asked_by w i c op) (from_client c (ask_of c op)) (record { has_sent = is.has_sent; has_accepted = is.has_accepted });
        again = λ w i c q at waits is. grown-posts sent accepted w (from_client c (signed_by c q)) is;
        learn = λ w i j c d at other is. record { has_sent = is.has_sent; has_accepted = is.has_accepted };
        inject = λ w x read fine is. grown-posts sent accepted w (from_script x) is;
        declare = λ w faulty rogue ending how is. record { has_sent = is.has_sent; has_accepted = is.has_accepted };
        same = λ w mark told is. record { has_sent = is.has_sent; has_accepted = is.has_accepted };
        meet = λ w texts on is. record { has_sent = is.has_sent; has_accepted = is.has_accepted };
      };
      resume = λ w i h down at is. record { has_sent = is.has_sent; has_accepted = is.has_accepted };
      add = λ w i member on new is. record { has_sent = is.has_sent; has_accepted = is.has_accepted };
    }

grown-at : {S : Type 0} (m : Meaning S) (g : Header) (ls : List Line) (j k : ℕ) → j ≤ k → Grown (world_at m g ls j).sent (world_at m g ls j).accepted (world_at m g ls k)
grown-at {S = S} m g ls j k le =
    let w : World S = world_at m g ls j in
    let later = world-more m g ls j k le in
    subst (λ (v : World S). Grown w.sent w.accepted v) (sym later.1)
    (keeps-world_after (course_of m) (λ (v : World S). Grown w.sent w.accepted v) (keeps-grown (course_of m) w.sent w.accepted) w later.0 (record { has_sent = front-same w.sent; has_accepted = front-same w.accepted }))

-- of two fronts of a script, what was sent after the shorter is a front of what was sent after the longer, and so is what was accepted
pub sent-grows : {S : Type 0} (m : Meaning S) (g : Header) (ls : List Line) (j k : ℕ) → j ≤ k → take (length (world_at m g ls j).sent) (world_at m g ls k).sent ≡ (world_at m g ls j).sent
sent-grows m g ls j k le = (grown-at m g ls j k le).has_sent

pub accepted-grows : {S : Type 0} (m : Meaning S) (g : Header) (ls : List Line) (j k : ℕ) → j ≤ k
    → take (length (world_at m g ls j).accepted) (world_at m g ls k).accepted ≡ (world_at m g ls j).accepted
accepted-grows m g ls j k le = (grown-at m g ls j k le).has_accepted

-- diaries

-- the diary of a member of some hosts begins with a list
abbrev Begins : {S : Type 0} → List LogEntry → ℕ → List (Host S) → Type 0
Begins front member hosts = take (length front) (diary_of (host_of hosts member)) ≡ front

-- another host in one's place, whose diary begins with what that of the other did
diary-set : {S : Type 0} (front : List LogEntry) (member : ℕ) (hs : List (Host S)) (i : ℕ) (h h' : Host S) → slice_get hs i ≡ Some h → h'.node.id ≡ h.node.id
    → (take (length front) h.life.diary ≡ front → take (length front) h'.life.diary ≡ front) → Begins front member hs → Begins front member (slice_set hs i h')
diary-set front member [] i h h' at name grows is = absurd (cc)
diary-set {S = S} front member (g ∷ hs) zero h h' at name grows is =
    subst (λ (id : ℕ). take (length front) (diary_of (cond (id == member) (Some h') (host_of hs member))) ≡ front) (sym name)
    (here (h.node.id == member) (subst (λ (x : Host S). take (length front) (diary_of (cond (x.node.id == member) (Some x) (host_of hs member))) ≡ front) (some_equal g h at) is))
  where
    here : (t : Bool) → take (length front) (diary_of (cond t (Some h) (host_of hs member))) ≡ front → take (length front) (diary_of (cond t (Some h') (host_of hs member))) ≡ front
    here true own = grows own
    here false other = other
diary-set {S = S} front member (g ∷ hs) (suc i) h h' at name grows is = later (g.node.id == member) (λ rest. diary-set front member hs i h h' at name grows rest) is
  where
    later : (t : Bool) → (Begins front member hs → Begins front member (slice_set hs i h')) → take (length front) (diary_of (cond t (Some g) (host_of hs member))) ≡ front
        → take (length front) (diary_of (cond t (Some g) (host_of (slice_set hs i h') member))) ≡ front
    later true goes own = own
    later false goes rest = goes rest

-- messages that leave
hosts-posts : {S : Type 0} (w : World S) (s : Sent) → (posts w s).hosts ≡ w.hosts
hosts-posts {S = S} w s = by-posts (λ (v : World S). v.hosts ≡ w.hosts) w s (λ ending. refl) (λ free room. refl)

begins-posts : {S : Type 0} (front : List LogEntry) (member : ℕ) (w : World S) (s : Sent) → Begins front member w.hosts → Begins front member (posts w s).hosts
begins-posts {S = S} front member w s is = subst (λ (hosts : List (Host S)). Begins front member hosts) (sym (hosts-posts w s)) is

-- a node's step
begins-stepped : {S : Type 0} (m : Meaning S) (front : List LogEntry) (member : ℕ) (w : World S) (i : ℕ) (h : Host S) (event : NodeEvent) → slice_get w.hosts i ≡ Some h → Begins front member w.hosts
    → Begins front member (stepped (course_of m) w i h (step_of m h.node event)).hosts
unfolding stepped
begins-stepped {S = S} m front member w i h event at is =
    let o : Outcome S = step_of m h.node event in
    keeps-sends_all (λ (v : World S). Begins front member v.hosts) h.node.id (view_of o.node) (λ v held begins. begins-posts front member v (from_node v h.node.id (view_of o.node) held) begins) _ (leaving o.node.firm o.node.held)
    (diary-set front member w.hosts i h (host_after (course_of m) h o) at (follows-step m h.node event) (λ own. front-append front h.life.diary _ own) is)

-- a client hears
begins-hearing : {S : Type 0} (front : List LogEntry) (member : ℕ) (w : World S) (i : ℕ) (c : Client) (a : Word) (h : Heard) → Begins front member w.hosts → Begins front member (hearing w i c a h).hosts
unfolding hearing
begins-hearing front member w i c a h is = is

-- a new node's member has nothing firm, as it had before

host_none : {S : Type 0} (hosts : List (Host S)) (member : ℕ) → list_any (λ k. k == member) (names hosts) ≡ false → host_of hosts member ≡ None
host_none [] member none = refl
host_none {S = S} (g ∷ hs) member none =
    let parts = or_parts (g.node.id == member) (list_any (λ k. k == member) (names hs)) none in
    ap (λ (t : Bool). cond t (Some g) (host_of hs member)) parts.0 ∙ host_none hs member parts.1

own_insert : {S : Type 0} (hosts : List (Host S)) (i : ℕ) (h : Host S) (member : ℕ) → (h.node.id == member) ≡ true → list_any (λ k. k == member) (names hosts) ≡ false → host_of (insert hosts i h) member ≡ Some h
own_insert hosts zero h member own none = ap (λ (t : Bool). cond t (Some h) (host_of hosts member)) own
own_insert [] (suc i) h member own none = ap (λ (t : Bool). cond t (Some h) None) own
own_insert {S = S} (g ∷ hs) (suc i) h member own none =
    let parts = or_parts (g.node.id == member) (list_any (λ k. k == member) (names hs)) none in
    ap (λ (t : Bool). cond t (Some g) (host_of (insert hs i h) member)) parts.0 ∙ own_insert hs i h member own parts.1

other_insert : {S : Type 0} (hosts : List (Host S)) (i : ℕ) (h : Host S) (member : ℕ) → (h.node.id == member) ≡ false → host_of (insert hosts i h) member ≡ host_of hosts member
other_insert hosts zero h member other = ap (λ (t : Bool). cond t (Some h) (host_of hosts member)) other
other_insert [] (suc i) h member other = ap (λ (t : Bool). cond t (Some h) None) other
other_insert {S = S} (g ∷ hs) (suc i) h member other = ap (λ (found : Option (Host S)). cond (g.node.id == member) (Some g) found) (other_insert hs i h member other)

diary_insert : {S : Type 0} (hosts : List (Host S)) (i : ℕ) (h : Host S) (member : ℕ) → h.life.diary ≡ [] → list_any (λ k. k == h.node.id) (names hosts) ≡ false
    → diary_of (host_of (insert hosts i h) member) ≡ diary_of (host_of hosts member)
diary_insert {S = S} hosts i h member empty none = by (h.node.id == member) refl
  where
    by : (t : Bool) → (h.node.id == member) ≡ t → diary_of (host_of (insert hosts i h) member) ≡ diary_of (host_of hosts member)
    by true own =
        let here : list_any (λ k. k == member) (names hosts) ≡ false = subst (λ (id : ℕ). list_any (λ k. k == id) (names hosts) ≡ false) (eqb-true h.node.id member own) none in
        ap (λ (found : Option (Host S)). diary_of found) (own_insert hosts i h member own here) ∙ (empty ∙ sym (ap (λ (found : Option (Host S)). diary_of found) (host_none hosts member here)))
    by false other = ap (λ (found : Option (Host S)). diary_of found) (other_insert hosts i h member other)

begins-added : {S : Type 0} (m : Meaning S) (front : List LogEntry) (member : ℕ) (w : World S) (i new : ℕ) → IsNew w new → Begins front member w.hosts → Begins front member (added (course_of m) w i new).hosts
begins-added m front member w i new is begins =
    subst (λ (es : List LogEntry). take (length front) es ≡ front)
    (sym (diary_insert w.hosts i (new_host m w new) member refl (none_named w.hosts new (ap (λ (found : Option ℕ). is_some found) is.none)))) begins

-- each event keeps what a diary began with
keeps-diary : {S : Type 0} (m : Meaning S) (front : List LogEntry) (member : ℕ) → KeepsAll (course_of m) (λ w. Begins front member w.hosts)
keeps-diary m front member =
    record {
      kept = record {
        event = λ w i h event up at may is. begins-stepped m front member w i h event at is;
        disk = λ w i h up at is. diary-set front member w.hosts i h (after_call (course_of m) h) at refl (λ own. own) is;
        crash = λ w i h left up at may is. diary-set front member w.hosts i h (host_crashed (course_of m) h left) at refl (λ own. front-append front h.life.diary _ own) is;
        hear = λ w i c x a on at has read is. begins-hearing front member w i c a (heard_word c a) is;
        ask = λ w i c op at free few brief is. begins-posts front member (asked_by w i c op) (from_client c (ask_of c op)) is;
        again = λ w i c q at waits is. begins-posts front member w (from_client c (signed_by c q)) is;
        learn = λ w i j c d at other is. is;
        inject = λ w x read fine is. begins-posts front member w (from_script x) is;
        declare = λ w faulty rogue ending how is. is;
        same = λ w mark told is. is;
        meet = λ w texts on is. is;
      };
      resume = λ w i h down at is. diary-set front member w.hosts i h (host_resumed h (node_resumed (course_of m) w h)) at
          (from_named m group_secret h.node.id w.view w.period (parts_held h)) (λ own. own) is;
      add = λ w i new on is begins. begins-added m front member w i new is begins;
    }

-- of two fronts of a script, a member's diary after the shorter is a front of its diary after the longer
pub diaries-grow : {S : Type 0} (m : Meaning S) (g : Header) (ls : List Line) (j k : ℕ) → j ≤ k → (member : ℕ)
    → take (length (diary (world_at m g ls j) member)) (diary (world_at m g ls k) member) ≡ diary (world_at m g ls j) member
diaries-grow {S = S} m g ls j k le member =
    let w : World S = world_at m g ls j in
    let later = world-more m g ls j k le in
    subst (λ (v : World S). take (length (diary w member)) (diary v member) ≡ diary w member) (sym later.1)
    (keeps-world_after (course_of m) (λ (v : World S). Begins (diary w member) member v.hosts) (keeps-diary m (diary w member) member) w later.0 (front-same (diary w member)))
