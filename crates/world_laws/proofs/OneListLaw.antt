-- One list holds throughout a script.
use Rattle.std.proofs.Common.{◌≡◌, ℕ, false, List, [], ◌∷◌, take, refl, sym, subst, Option, Some, None, inl, arith}
use Rattle.std.specs.Prelude.{map}
use Rattle.smart_base.specs.declared.party.Party.TheVariants.{Member}
use Rattle.smart_base.specs.Lists.{Each}
use Rattle.smart_statements.specs.Forms.{SignedBy}
use Rattle.smart_statements.specs.Batches.{Batch}
use Rattle.smart_statements.specs.declared.statement.Answer.{Answer}
use Rattle.smart_messages.specs.Messages.{batch_in}
use Rattle.smart_messages.specs.declared.message.Message.TheVariants.{Reply}
use Rattle.smart_messages.specs.declared.message.Message.TheVariants as changes
use Rattle.smart_statements.specs.declared.statement.Ballot.{Ballot}
use Rattle.smart_statements.specs.declared.report.Mark.{Mark}
use Rattle.agreement_laws.proofs.Lists.{each_append, each_both}
use Rattle.smart_messages.specs.declared.message.Message.{Message}
use Rattle.smart_service.specs.Services.{Meaning}
use Rattle.vote_book.specs.Books.{Among}
use Rattle.agreement_laws.specs.Statements as statements
use Rattle.agreement_laws.specs.Statements.{Statement, signer_of, requests_of, said}
use Rattle.node_rules.specs.declared.node.Held.{Held}
use Rattle.world_rules.specs.Premises.{is_among}
use Rattle.world_rules.specs.Stated.{stated}
use Rattle.world_rules.specs.Worlds.{course_of, Host, World, begun}
use Rattle.world_rules.specs.Plays.{lines_told}
use Rattle.world_laws.specs.Promises.{IsHeader, AreStatementsRight, IsAnswered, IsKept, IsRightStatement, numbers_from, OneList, OneListThroughout, world_at, IsRight}
use Rattle.world_rules.specs.declared.line.Line.{Line}
use Rattle.world_laws.proofs.Keeps.{KeepsAll, keeps-world_after}
use Rattle.world_laws.proofs.Kept.{all_recover, replied_kept, request_within}
use Rattle.world_laws.specs.Sending.{QuorumReplied}
use Rattle.client_quorum.specs.declared.client.Acceptance.{Acceptance}
use Rattle.replica_laws.proofs.Small.{IsBrief}
use Rattle.world_laws.proofs.Snapshots.{AreRestorable, IsRestorable}
use Rattle.world_laws.proofs.Unforged.{member_states}
use Rattle.world_laws.proofs.Borne.{RightBorne}
use Rattle.world_laws.proofs.Replied.{right-borne-kept, reply_there, Replied, keeps-replied, replied-begun}
use Rattle.world_laws.proofs.Addressed.{AllAddressed, addressed-after}
use Rattle.world_laws.proofs.Borne.{borne-begun}
use Rattle.world_laws.proofs.Chosen.{are_restorable, ChosenRight, right-witness}
use Rattle.world_laws.proofs.ChosenKept.{right-reads, chosen-aligned, chosen-prefix, witnessed-after}
use Rattle.world_laws.proofs.Grows.{list-grows, view-stays, period-stays}
use Rattle.replica_laws.specs.Lines.{HeldRight, HoldsViews, ReplyRight, ViewAmong}
use Rattle.world_laws.proofs.Replies.{RepliesRight, reply_stated, keeps-replies, replies-begun}
use Rattle.world_laws.proofs.Asked.{RequestsAsked, asked-after}
use Rattle.world_laws.proofs.Asking.{ClientsRight, right-after}
use Rattle.snapshot_form.specs.Replicas.{IsOfClients}
use Rattle.world_laws.proofs.Accepted.{AcceptedTold, Telling, executed-right, keeps-told, told-begun, accepted-right}
use Rattle.replica_laws.specs.Lines.{IsExecuted}
use Rattle.world_laws.proofs.Told.{lines-answered, lines-tell_all}
use Rattle.world_laws.proofs.Added.{nodes-added, nodes-grow}
use Rattle.world_laws.proofs.Declared.{faulty-declared, rogue-declared}
use Rattle.world_laws.proofs.ClientNames.{numbers-after}
use Rattle.world_laws.proofs.Growing.{sent-grows, accepted-grows, diaries-grow}
use Rattle.world_laws.proofs.Teaching.{has-taught}
use Rattle.world_laws.proofs.Delivering.{deliveries-told}
use Rattle.world_laws.proofs.Restarting.{restarts-told}
use Rattle.world_laws.proofs.Resumed.{has-restarted}
use Rattle.world_laws.proofs.Witnessing.{members_same}
use Rattle.world_laws.proofs.Past.{past-known}
use Rattle.world_rules.specs.declared.line.Header.{Header}
use Rattle.world_laws.proofs.ToldViews.{stated_among}
use Rattle.world_laws.proofs.ClientViews.{right-trusted, known-begun}
use Rattle.replica_rules.specs.Replicas.{view_at, views_after}
use Rattle.world_rules.specs.InForce.{IsInForce}

-- the list is right, all replies tell of it, clients keep replies that were sent, and accepted replies tell of the list
abbrev pub Heard : {S : Type 0} → Meaning S → World S → Type 0
Heard m w = (RightBorne m w × RepliesRight m w) × Replied w

abbrev pub ToldRight : {S : Type 0} → Meaning S → World S → Type 0
ToldRight m w = Heard m w × AcceptedTold m w

-- so a reply of a member that is not faulty tells an execution, in whosever message it was sent
stated_executed : {S : Type 0} (m : Meaning S) (w : World S) → Heard m w → (r : SignedBy Answer) → Among (statements.Replied r) (stated w.sent) → is_among w.faulty r.signer ≡ false
    → IsExecuted m w.view w.chosen r.statement
stated_executed m w is r there correct =
    let right : ChosenRight m w = is.0.0.0.0.0 in
    reply_stated m w r.signer r is.0.1 (member_states w r.signer r right.0.0.fit.sent is.0.0.1.sent.own right.0.1 correct refl there)

telling : {S : Type 0} (m : Meaning S) (w : World S) → Heard m w → Telling m w
telling m w is =
    let right : ChosenRight m w = is.0.0.0.0.0 in
    record {
      reads = right-reads m w right;
      keeps = is.1.clients;
      knows = is.0.0.0.1.views;
      few = (right-trusted m w is.0.0.0.0).few;
      executed = λ r has tagged correct. stated_executed m w is r (reply_there w.sent r has tagged) correct;
    }

-- what a message says that tells no view or one of the list, and is no reply or a right one, is right
asked_right : {S : Type 0} (m : Meaning S) (w : World S) (batch : Batch) → Each (IsRightStatement m w) (map (λ q. statements.Asked q) batch)
asked_right m w [] = tt
asked_right m w (q ∷ qs) = (tt, asked_right m w qs)

asked_right_if : {S : Type 0} (m : Meaning S) (w : World S) (batch : Option Batch) → Each (IsRightStatement m w) (requests_of batch)
asked_right_if m w None = tt
asked_right_if m w (Some batch) = asked_right m w batch

voted_right : {S : Type 0} (m : Meaning S) (w : World S) (ballots : List (SignedBy Ballot)) → Each (IsRightStatement m w) (map (λ b. statements.Voted b) ballots)
voted_right m w [] = tt
voted_right m w (b ∷ bs) = (tt, voted_right m w bs)

marked_right : {S : Type 0} (m : Meaning S) (w : World S) (marks : List (SignedBy Mark)) → Each (IsRightStatement m w) (map (λ k. statements.Marked k) marks)
marked_right m w [] = tt
marked_right m w (k ∷ ks) = (tt, marked_right m w ks)

right_message : {S : Type 0} (m : Meaning S) (w : World S) (x : Message) → Each IsOfClients w.chosen → RequestsAsked w → ViewAmong (views_after w.view w.chosen) x → ReplyRight m w.view w.chosen x → Each (IsRightStatement m w) (said x)
right_message m w (Reply a) of requests untold right = (executed-right m w a.statement of requests right, tt)
right_message m w (changes.Decision d) of requests untold right =
    each_append (IsRightStatement m w) (map (λ b. statements.Voted b) d.accepts) (map (λ q. statements.Asked q) d.batch) (voted_right m w d.accepts) (asked_right m w d.batch)
right_message m w (changes.StateOffer o) of requests untold right = each_append (IsRightStatement m w) (map (λ k. statements.Marked k) o.marks) [] (marked_right m w o.marks) tt
right_message m w (changes.StateAsk a) of requests untold right = tt
right_message m w (changes.StatePart p) of requests untold right = tt
right_message m w (changes.ViewTold i) of requests among right = (among, tt)
right_message m w x of requests untold right = (tt, asked_right_if m w (batch_in x))

-- what members have stated that are not faulty is right
right_stated : {S : Type 0} (m : Meaning S) (w : World S) → Heard m w → RequestsAsked w → (s : Statement) (member : ℕ) → Among s (stated w.sent) → signer_of s ≡ Member member → is_among w.faulty member ≡ false
    → IsRightStatement m w s
right_stated m w is requests (statements.Replied a) member there signer correct =
    executed-right m w a.statement is.0.0.0.0.0.1.of requests (stated_executed m w is a there (subst (λ (k : ℕ). is_among w.faulty k ≡ false) (sym (members_same a.signer member signer)) correct))
right_stated m w is requests (statements.Informed i) member there signer correct =
    let right : ChosenRight m w = is.0.0.0.0.0 in
    stated_among w i right.0.0.fit.sent right.0.1 is.0.0.0.0.1 (subst (λ (k : ℕ). is_among w.faulty k ≡ false) (sym (members_same i.signer member signer)) correct) there
right_stated m w is requests _ member there signer correct = tt

-- so is what nodes hold
all_right : {S : Type 0} (m : Meaning S) (w : World S) → Heard m w → RequestsAsked w → AreStatementsRight m w
all_right {S = S} m w is requests =
    record {
      held = each_both (λ (h : Host S). HoldsViews (views_after w.view w.chosen) h.node) (λ (h : Host S). HeldRight m w.view w.chosen h.node) (λ (h : Host S). Each (λ x. Each (IsRightStatement m w) (said x.message)) h.node.held)
          (λ h among held. each_both (λ (x : Held). ViewAmong (views_after w.view w.chosen) x.message) (λ (x : Held). ReplyRight m w.view w.chosen x.message) (λ (x : Held). Each (IsRightStatement m w) (said x.message))
          (λ x none right. right_message m w x.message is.0.0.0.0.0.1.of requests none right) h.node.held among held) w.hosts is.0.0.0.0.1.held is.0.1.held;
      sent = right_stated m w is requests;
    }

-- each event keeps that
pub keeps-told_right : {S : Type 0} (m : Meaning S) → IsBrief m → IsRestorable m → KeepsAll (course_of m) (ToldRight m)
keeps-told_right m brief service =
    keeps-told m (Heard m) (telling m)
    (keeps-replied m (λ w. RightBorne m w × RepliesRight m w) (λ w is. is.0) (keeps-replies m (RightBorne m) (right-borne-kept m brief service) (λ w is. chosen-aligned m w is.0.0.0)))

-- so it holds after each line of a script
pub told_right-at : {S : Type 0} (m : Meaning S) → IsBrief m → IsRestorable m → (g : Header) → IsHeader g → (ls : List Line) (k : ℕ) → ToldRight m (world_at m g ls k)
told_right-at m brief service g is ls k =
    keeps-world_after (course_of m) (ToldRight m) (keeps-told_right m brief service) (begun m g) (take k ls)
    ((((known-begun m g is, borne-begun m g is), replies-begun m g), replied-begun m g), told-begun m g)

-- the view of an accepted reply's place is in force: the list has a request there
there_in_force : {S : Type 0} (m : Meaning S) (w : World S) (a : Acceptance) → IsRight m w a → IsInForce w (view_at w.view w.chosen a.place)
there_in_force m w a is =
    let above = is.right.above in
    record { place = a.place; low = omega (arith, above); within = inl (request_within w.chosen a.place a.index is.right.request is.right.request_is); is = refl }

-- one list holds after each line of a script
one_list-of : {S : Type 0} (m : Meaning S) → IsRestorable m → (w : World S) → RequestsAsked w → ClientsRight w → map (λ c. c.id) w.clients ≡ numbers_from 1025 0 → ToldRight m w → AllAddressed w → OneList m w
one_list-of m service w requests clients numbers is addressed =
    let chosen : ChosenRight m w = is.0.0.0.0.0.0 in
    let restorable : AreRestorable m w.view w.chosen = are_restorable m w service chosen.1 in
    let right : Each (IsRight m w) w.accepted = accepted-right m w chosen.1.of requests clients is.1 in
    record {
      members = chosen.1.ids.members;
      nodes = chosen.1.ids.once;
      clients = numbers;
      known = is.0.0.0.0.1.views;
      hosts = chosen-prefix m w chosen;
      right = all_right m w is.0 requests;
      recovers = all_recover m w restorable chosen;
      witness = right-witness m w chosen.1;
      accepted = right;
      quorums = record { each = is.0.1.accepted };
      kept = each_both (QuorumReplied (views_after w.view w.chosen) w.faulty w.sent) (IsRight m w) (λ (a : Acceptance). IsKept m w a.place)
          (λ a told is_right. replied_kept m w a restorable chosen is.0.0.0.1.sent told (sym is_right.right.view_is) (there_in_force m w a is_right)) w.accepted is.0.1.accepted right;
      apart = clients.all.apart;
      firm = is.0.0.0.1.sent;
      addressed = addressed.sent;
    }

pub one_list-at : {S : Type 0} (m : Meaning S) → IsBrief m → IsRestorable m → (g : Header) → IsHeader g → (ls : List Line) (k : ℕ) → OneList m (world_at m g ls k)
one_list-at m brief service g is ls k =
    one_list-of m service (world_at m g ls k) (asked-after m brief service g (take k ls) is) (right-after m (course_of m) g (take k ls)) (numbers-after m g (take k ls)) (told_right-at m brief service g is ls k)
    (addressed-after m brief service g (take k ls) is)

-- each line that told of an accepted reply until then tells its answer
pub told-at : {S : Type 0} (m : Meaning S) → IsBrief m → IsRestorable m → (g : Header) → IsHeader g → (ls : List Line) (k : ℕ)
    → Each (IsAnswered m g.view (world_at m g ls k).chosen) (lines_told (course_of m) (begun m g) (take k ls))
told-at m brief service g is ls k = lines-answered m g (take k ls) (told_right-at m brief service g is ls k).1

-- one list holds throughout a script and only grows, and the lines of accepted replies tell its answers
pub one_list-throughout : {S : Type 0} (m : Meaning S) → IsBrief m → IsRestorable m → (g : Header) → IsHeader g → (ls : List Line) → OneListThroughout m g ls
one_list-throughout m brief service g is ls = record {
  one_list = one_list-at m brief service g is ls;
  viewed = λ k. view-stays m (begun m g) (take k ls);
  period = λ k. period-stays m (begun m g) (take k ls);
  nodes = nodes-added m g ls;
  nodes_grow = nodes-grow m g ls;
  faulty = faulty-declared m g ls;
  rogue = rogue-declared m g ls;
  grows = list-grows m g ls;
  sent_grows = sent-grows m g ls;
  accepted_grows = accepted-grows m g ls;
  diaries_grow = diaries-grow m g ls;
  told = told-at m brief service g is ls;
  told_all = λ k. lines-tell_all m g (take k ls);
  told_deliveries = λ k. deliveries-told m g (take k ls) is;
  told_restarts = λ k. restarts-told m brief service g (take k ls) is;
  restarted = λ k member line. has-restarted m g ls k member line (one_list-at m brief service g is ls k).recovers;
  taught = has-taught m g ls;
  past_known = past-known m g ls;
  witnessed = λ k. witnessed-after m brief service g (take k ls) is;
}
