-- Recorded runs of one group, over its service: what holds of each node of a member's trail.
use Rattle.std.proofs.Common.{◌≡◌, inl, inr, ℕ, zero, suc, ◌^◌, ◌<◌, ◌≤◌, ◌==◌, Bool, true, false, List, [], ◌∷◌, Ok, refl, subst, arith, None}
use Rattle.smart_base.specs.Cuts.{IsBytes}
use Rattle.smart_base.specs.Lists.{Each}
use Rattle.smart_base.specs.Views.{View, is_view}
use Rattle.smart_statements.specs.Spelling.{IsSigner}
use Rattle.smart_statements.specs.declared.entry.NodeEvent.TheVariants.{Arrive, Tick, Deliver, Firm}
use Rattle.smart_messages.specs.Messages.{decoded}
use Rattle.smart_messages.specs.declared.message.Message.{Message}
use Rattle.smart_service.specs.Services.{Meaning}
use Rattle.snapshot_form.specs.Snapshots.{snapshot_text}
use Rattle.vote_book.specs.Books.{Among}
use Rattle.replica_rules.specs.Replicas.{empty}
use Rattle.node_rules.specs.Nodes.{Node}
use Rattle.agreement_laws.specs.Statements.{Statement}
use Rattle.agreement_laws.proofs.Lists.{each_among, each_from}
use Rattle.node_laws.specs.Restored.{IsSoundBook}
use Rattle.node_laws.specs.Sound.{IsStated}
use Rattle.node_laws.proofs.Restored.{book_sound}
use Rattle.replica_laws.specs.Sending.{RestsOn}
use Rattle.replica_laws.proofs.Onward.{Longer}
use Rattle.replica_laws.proofs.Small.{IsBrief}
use Rattle.trail.specs.declared.event.Addressed.{Addressed}
use Rattle.trail.specs.declared.event.TrailEvent.{TrailEvent}
use Rattle.trail.specs.declared.event.TrailEvent.TheVariants.{Happens, Send, Lost, Polls, End}
use Rattle.trail_rules.specs.Replays.{arrivals, sends}
use Rattle.audit_rules.specs.declared.recorded.Recorded.{Recorded}
use Rattle.audit_rules.specs.Audits.{damage_over, first_node, is_client}
use Rattle.audit_rules.specs.Coherence.{IsFirstBook, LeavesOver}
use Rattle.trail_agreement.specs.Deliveries.{AreSpelled, FewInEach, IsNodeOf, IsSpelled, NoCollision, book_of, last_node}
use Rattle.trail_agreement.specs.Excuses.{AreSentBut}
use Rattle.trail_agreement.proofs.Beginning.{right-first}
use Rattle.trail_agreement.proofs.Nodes.{at_last, books_grow, through}
use Rattle.trail_agreement.proofs.Runs.{IsRight, MayArrive, right-after}
use Rattle.trail_agreement.proofs.Sends.{sends_rest}
use Rattle.trail_agreement.proofs.Shown.{MayCome, all_stated, came_stated}

-- ---- what comes in a trail

-- bytes that may come
abbrev BytesMay : List ℕ → List Statement → List ℕ → Type 0
BytesMay secret stated bytes = IsBytes bytes × ((m : Message) → decoded bytes ≡ Ok m → IsStated secret stated m)

one_may : (secret : List ℕ) (stated : List Statement) (e : TrailEvent) (events : List TrailEvent) → ((bytes : List ℕ) → Among bytes (arrivals (e ∷ events)) → BytesMay secret stated bytes) → MayArrive stated secret e
one_may secret stated (Happens (Arrive bytes)) events all = let may = all bytes (inl refl) in (may.1, may.0)
one_may secret stated (Happens Tick) events all = (tt, tt)
one_may secret stated (Happens Deliver) events all = (tt, tt)
one_may secret stated (Happens (Firm count)) events all = (tt, tt)
one_may secret stated (Send a) events all = tt
one_may secret stated (Lost a) events all = tt
one_may secret stated (Polls count) events all = tt
one_may secret stated End events all = tt

rest_may : (secret : List ℕ) (stated : List Statement) (e : TrailEvent) (events : List TrailEvent) → ((bytes : List ℕ) → Among bytes (arrivals (e ∷ events)) → BytesMay secret stated bytes)
    → (bytes : List ℕ) → Among bytes (arrivals events) → BytesMay secret stated bytes
rest_may secret stated (Happens (Arrive came)) events all bytes there = all bytes (inr there)
rest_may secret stated (Happens Tick) events all bytes there = all bytes there
rest_may secret stated (Happens Deliver) events all bytes there = all bytes there
rest_may secret stated (Happens (Firm count)) events all bytes there = all bytes there
rest_may secret stated (Send a) events all bytes there = all bytes there
rest_may secret stated (Lost a) events all bytes there = all bytes there
rest_may secret stated (Polls count) events all bytes there = all bytes there
rest_may secret stated End events all bytes there = all bytes there

events_may : (secret : List ℕ) (stated : List Statement) (events : List TrailEvent) → ((bytes : List ℕ) → Among bytes (arrivals events) → BytesMay secret stated bytes) → Each (MayArrive stated secret) events
events_may secret stated [] all = tt
events_may secret stated (e ∷ events) all = (one_may secret stated e events all, events_may secret stated events (rest_may secret stated e events all))

-- ---- over a service

-- a member's trail that replays over a service, from the empty replica
pub record IsOver {S : Type 0} (m : Meaning S) (t : Recorded) : Type 0 where
  pub leaves : LeavesOver m t
  pub whole : damage_over m t ≡ None
  pub snapshot : t.opening.snapshot ≡ snapshot_text m (empty m t.opening.view)
  pub first : IsFirstBook t.entries

-- recorded runs of a group with a service, a secret and a first view, of which all that the law asks holds
pub record IsGroup {S : Type 0} (m : Meaning S) (faulty : ℕ → Bool) (trails : List Recorded) (secret : List ℕ) (view : View) : Type 0 where
  pub brief : IsBrief m
  pub viewed : is_view view ≡ true
  pub spelled : AreSpelled trails
  pub sent : Each (AreSentBut faulty trails) trails
  pub secrets : (t : Recorded) → Among t trails → t.opening.secret ≡ secret
  pub views : (t : Recorded) → Among t trails → t.opening.view ≡ view
  pub over : (t : Recorded) → Among t trails → is_client t ≡ false → IsOver m t
  pub few : FewInEach m faulty view trails
  pub apart : NoCollision m trails

-- a node of a member's trail
pub record IsMembers {S : Type 0} (m : Meaning S) (trails : List Recorded) (t : Recorded) (x : Node S) : Type 0 where
  pub there : Among t trails
  pub member : is_client t ≡ false
  pub at : IsNodeOf m (first_node m t) t.events x

member_signs : (member : ℕ) → (member == 0) ≡ false → member < 2 ^ 16 → IsSigner 1 member
member_signs member some low = (least member some, low)
  where
    least : (k : ℕ) → (k == 0) ≡ false → 1 ≤ k
    least zero is = absurd (cc)
    least (suc k) is = omega arith

module _ {S : Type 0} (m : Meaning S) (faulty : ℕ → Bool) (trails : List Recorded) (secret : List ℕ) (view : View) (g : IsGroup m faulty trails secret view) where
  abbrev stated : List Statement
  stated = all_stated secret trails

  pub may_come : Each (MayCome faulty trails secret) trails
  may_come =
      each_from (MayCome faulty trails secret) trails
      (λ t there. let of = each_among IsSpelled trails t g.spelled.each there in
      record { secret_is = g.secrets t there; bytes = of.came; sent = each_among (AreSentBut faulty trails) trails t g.sent there; fits = of.sent })

  pub may_arrive : (t : Recorded) → Among t trails → Each (MayArrive stated secret) t.events
  may_arrive t there =
      events_may secret stated t.events
      (λ bytes arrived.
      (each_among IsBytes (arrivals t.events) bytes (each_among IsSpelled trails t g.spelled.each there).came arrived, λ x read. came_stated secret trails t bytes x there arrived read))

  -- each member's node is right throughout
  pub right_first : (t : Recorded) → Among t trails → is_client t ≡ false → IsRight m stated secret view t.opening.member (first_node m t)
  right_first t there member =
      let of = each_among IsSpelled trails t g.spelled.each there in
      let o = g.over t there member in
      let right : IsRight m stated t.opening.secret t.opening.view t.opening.member (first_node m t) =
      right-first m stated t (member_signs t.opening.member member of.member) of.view o.snapshot o.whole o.first in
      subst (λ (v : View). IsRight m stated secret v t.opening.member (first_node m t)) (g.views t there)
      (subst (λ (k : List ℕ). IsRight m stated k t.opening.view t.opening.member (first_node m t)) (g.secrets t there) right)

  pub right_at : (t : Recorded) (x : Node S) → IsMembers m trails t x → IsRight m stated secret view t.opening.member x
  right_at t x of =
      through m (MayArrive stated secret) (λ (y : Node S). IsRight m stated secret view t.opening.member y) (first_node m t) t.events (may_arrive t of.there) (right_first t of.there of.member)
      (λ y e at behind may is. right-after m g.brief stated secret view t.opening.member y e is may) x of.at

  -- the last one is one of them, and their books begin its book
  pub last_there : (t : Recorded) → Among t trails → is_client t ≡ false → IsMembers m trails t (last_node m t)
  last_there t there member = record { there = there; member = member; at = at_last m (first_node m t) t.events }

  pub book_grows : (t : Recorded) (x : Node S) → IsMembers m trails t x → Longer x.entries (book_of m t)
  book_grows t x of = books_grow m g.brief stated secret view t.opening.member (first_node m t) t.events (right_first t of.there of.member) (may_arrive t of.there) x of.at

  pub right_last : (t : Recorded) → Among t trails → is_client t ≡ false → IsRight m stated secret view t.opening.member (last_node m t)
  right_last t there member = right_at t (last_node m t) (last_there t there member)

  -- that book is sound by the views that the last one knows, and all that was sent rests on it
  pub sound_book : (t : Recorded) → Among t trails → is_client t ≡ false → IsSoundBook secret stated (last_node m t).replica.views (book_of m t)
  sound_book t there member =
      let right = right_last t there member in
      subst (λ (k : List ℕ). IsSoundBook k stated (last_node m t).replica.views (book_of m t)) right.fit.shared (book_sound stated view (last_node m t) right.sound right.opening)

  pub all_rests : (t : Recorded) → Among t trails → is_client t ≡ false → Each (λ (a : Addressed). RestsOn (book_of m t) a.message) (sends t.events)
  all_rests t there member =
      sends_rest m g.brief stated secret view t.opening.member (first_node m t) t.events (right_first t there member) (may_arrive t there) (g.over t there member).leaves
      (each_among IsSpelled trails t g.spelled.each there).sent
