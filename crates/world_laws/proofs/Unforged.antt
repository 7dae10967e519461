-- What a script injects is forged by nobody: each statement in it is of one who is excused, or stands in a message of its signer's own.
use Rattle.replica_rules.specs.Replicas.{views_after}
use Rattle.std.proofs.Common.{◌≡◌, ⊎_elim, ℕ, ◌++◌, ◌&&◌, ◌||◌, Bool, true, false, not, List, [], ◌∷◌, refl, sym, ap, ◌∙◌, subst, eqb-true, inl, inr, ◌⊎◌, Option, Some, None}
use Rattle.node_rules.specs.Nodes.{view_of}
use Rattle.std.specs.Prelude.{map}
use Rattle.std.specs.List.{list_any}
use Rattle.smart_base.specs.Lists.{Each}
use Rattle.smart_base.specs.Views.{View}
use Rattle.smart_base.specs.declared.party.Party.{Party}
use Rattle.smart_base.specs.declared.party.Party.TheVariants as parties
use Rattle.smart_statements.specs.Forms.{SignedBy}
use Rattle.smart_statements.specs.Batches.{Batch}
use Rattle.smart_statements.specs.declared.statement.Request.{Request}
use Rattle.smart_statements.specs.declared.statement.Ballot.{Ballot}
use Rattle.smart_statements.specs.declared.statement.Answer.{Answer}
use Rattle.smart_statements.specs.declared.report.Mark.{Mark}
use Rattle.smart_statements.specs.declared.report.Report.{Report}
use Rattle.smart_statements.specs.declared.report.Evidence.{Evidence}
use Rattle.smart_statements.specs.declared.report.Evidence.TheVariants as evidence
use Rattle.smart_statements.specs.declared.report.LockCertificate.{LockCertificate}
use Rattle.smart_messages.specs.Messages.{batch_in, decision_in}
use Rattle.smart_messages.specs.declared.message.Message.TheVariants.{Ask, Propose, Vote, Reply}
use Rattle.smart_messages.specs.declared.message.Message.TheVariants as changes
use Rattle.smart_messages.specs.declared.message.Message.{Message}
use Rattle.transfer_form.specs.declared.transfer.ProvenBatch.{ProvenBatch}
use Rattle.vote_book.specs.Books.{Among}
use Rattle.vote_book.proofs.Tested.{passing}
use Rattle.node_rules.specs.Steps.{Outcome, leaving}
use Rattle.agreement_laws.specs.Statements.{Statement, Asked, Voted, Reported, Synced, Marked, Replied, signer_of, within, in_report, parts_of_evidence, parts_of_lock, requests_of, own, proof_in, said}
use Rattle.agreement_laws.proofs.Lists.{among_either, each_among, given, within_one, each_end}
use Rattle.world_rules.specs.Premises.{Claim, claim_of, claims, same_claim, is_among, is_from, is_stated, is_excused, is_forgery, is_forged}
use Rattle.world_rules.specs.Worlds.{Course, Host, World, posts, stepped, hearing}
use Rattle.world_rules.specs.declared.message.Content.{Content}
use Rattle.world_rules.specs.declared.message.Content.TheVariants as contents
use Rattle.world_rules.specs.declared.message.Origin.{Origin}
use Rattle.world_rules.specs.declared.message.Origin.TheVariants as origins
use Rattle.world_rules.specs.declared.message.Sent.{Sent}
use Rattle.world_laws.specs.Sending.{IsNodes, IsClients, IsOwnSent, IsForTarget, IsAskOf}
use Rattle.world_rules.specs.Stated.{stated_in, stated}
use Rattle.world_laws.proofs.Keeps.{IsRead, ask_of, asked_by, by-posts, KeepsAll, keeps-sends_all, signed_by, from_node, from_client, from_script}
use Rattle.world_laws.proofs.Stating.{Proper, claims_stated, same_claim-one, message_proper, IsSaid, message_says}
use Rattle.smart_base.proofs.SameLists.{and_true}
use Rattle.smart_base.proofs.ViewFacts.{each-weaken}
use Rattle.std.proofs.lemmas.Bool.{or_parts}

-- what is injected

-- a content that a script injects is not forged
abbrev pub IsFine : List ℕ → List ℕ → List Sent → Origin → Content → Type 0
IsFine faulty rogue sent (origins.Node id) x = Unit {0}
IsFine faulty rogue sent (origins.Client id) x = Unit {0}
IsFine faulty rogue sent origins.Script x = is_forged faulty rogue sent x ≡ false

-- nothing that was sent is
pub record Unforged {S : Type 0} (w : World S) : Type 0 where
  pub each : Each (λ s. IsFine w.faulty w.rogue w.sent s.origin s.content) w.sent

-- more are excused, and more is stated

-- a test that passes on what was sent, passes with one more
pub any_more : (p : Sent → Bool) (sent : List Sent) (s : Sent) → list_any p sent ≡ true → list_any p (sent ++ s ∷ []) ≡ true
any_more p [] s is = absurd (cc)
any_more p (t ∷ sent) s is = or_more (p t) (any_more p sent s) is
  where
    or_more : (a : Bool) → (list_any p sent ≡ true → list_any p (sent ++ s ∷ []) ≡ true) → (a || list_any p sent) ≡ true → (a || list_any p (sent ++ s ∷ [])) ≡ true
    or_more true more is = refl
    or_more false more is = more is

-- a claim is no forgery where its signer is excused, or it is stated
either_fine : (a b : Bool) → (not a && not b) ≡ false → (a ≡ true) ⊎ (b ≡ true)
either_fine true b none = inl refl
either_fine false true none = inr refl
either_fine false false none = absurd (cc)

excused_fine : (a b : Bool) → a ≡ true → (not a && not b) ≡ false
excused_fine true b is = refl
excused_fine false b is = absurd (cc)

stated_fine : (a b : Bool) → b ≡ true → (not a && not b) ≡ false
stated_fine true true is = refl
stated_fine false true is = refl
stated_fine a false is = absurd (cc)

-- where no claim is a forgery, none is where fewer are
none_more : (p q : Claim → Bool) → ((c : Claim) → p c ≡ false → q c ≡ false) → (cs : List Claim) → list_any p cs ≡ false → list_any q cs ≡ false
none_more p q more [] none = refl
none_more p q more (c ∷ cs) none =
    let parts = or_parts (p c) (list_any p cs) none in
    neither (q c) (list_any q cs) (more c parts.0) (none_more p q more cs parts.1)
  where
    neither : (a b : Bool) → a ≡ false → b ≡ false → (a || b) ≡ false
    neither true b na nb = absurd (cc)
    neither false b na nb = nb

-- who is excused stays so where more are faulty or rogue
excused_more : (faulty rogue faulty' rogue' : List ℕ) → ((member : ℕ) → is_among faulty member ≡ true → is_among faulty' member ≡ true) → ((client : ℕ) → is_among rogue client ≡ true → is_among rogue' client ≡ true)
    → (who : Party) → is_excused faulty rogue who ≡ true → is_excused faulty' rogue' who ≡ true
excused_more faulty rogue faulty' rogue' more_faulty more_rogue (parties.Member id) is = more_faulty id is
excused_more faulty rogue faulty' rogue' more_faulty more_rogue (parties.Client id) is = more_rogue id is

-- a claim is no forgery where more are excused and more is stated
fine_claim : (faulty rogue faulty' rogue' : List ℕ) (sent sent' : List Sent) → ((who : Party) → is_excused faulty rogue who ≡ true → is_excused faulty' rogue' who ≡ true)
    → ((c : Claim) → is_stated sent c ≡ true → is_stated sent' c ≡ true) → (c : Claim) → is_forgery faulty rogue sent c ≡ false → is_forgery faulty' rogue' sent' c ≡ false
fine_claim faulty rogue faulty' rogue' sent sent' excused more c fine =
    ⊎_elim (λ is. excused_fine (is_excused faulty' rogue' c.signer) (is_stated sent' c) (excused c.signer is))
    (λ is. stated_fine (is_excused faulty' rogue' c.signer) (is_stated sent' c) (more c is))
    (either_fine (is_excused faulty rogue c.signer) (is_stated sent c) fine)

-- so a content is not forged there
fine_more : (faulty rogue faulty' rogue' : List ℕ) (sent sent' : List Sent) → ((who : Party) → is_excused faulty rogue who ≡ true → is_excused faulty' rogue' who ≡ true)
    → ((c : Claim) → is_stated sent c ≡ true → is_stated sent' c ≡ true) → (o : Origin) (x : Content) → IsFine faulty rogue sent o x → IsFine faulty' rogue' sent' o x
unfolding is_forged
fine_more faulty rogue faulty' rogue' sent sent' excused more (origins.Node id) x fine = tt
fine_more faulty rogue faulty' rogue' sent sent' excused more (origins.Client id) x fine = tt
fine_more faulty rogue faulty' rogue' sent sent' excused more origins.Script x fine =
    none_more (is_forgery faulty rogue sent) (is_forgery faulty' rogue' sent') (fine_claim faulty rogue faulty' rogue' sent sent' excused more) (claims x) fine

-- events

-- something is sent that is not forged
unforged-posts : {S : Type 0} (w : World S) (s : Sent) → IsFine w.faulty w.rogue w.sent s.origin s.content → Unforged w → Unforged (posts w s)
unforged-posts {S = S} w s fine is =
    let more : (o : Origin) (x : Content) → IsFine w.faulty w.rogue w.sent o x → IsFine w.faulty w.rogue (w.sent ++ s ∷ []) o x =
    fine_more w.faulty w.rogue w.faulty w.rogue w.sent (w.sent ++ s ∷ []) (λ who is. is) (λ c. any_more _ w.sent s) in
    by-posts (λ (v : World S). Unforged v) w s (λ ending. record { each = is.each })
    (λ free room. record {
      each = each_end (λ (t : Sent). IsFine w.faulty w.rogue (w.sent ++ s ∷ []) t.origin t.content) w.sent s
          (each-weaken (λ (t : Sent). IsFine w.faulty w.rogue w.sent t.origin t.content) (λ (t : Sent). IsFine w.faulty w.rogue (w.sent ++ s ∷ []) t.origin t.content)
          (λ t. more t.origin t.content) w.sent is.each)
          (more s.origin s.content fine);
    })

-- a node's step
unforged-stepped : {S : Type 0} (course : Course S) (w : World S) (i : ℕ) (h : Host S) (o : Outcome S) → Unforged w → Unforged (stepped course w i h o)
unfolding stepped
unforged-stepped {S = S} course w i h o is =
    keeps-sends_all (λ (v : World S). Unforged v) h.node.id (view_of o.node) (λ v held. unforged-posts v (from_node v h.node.id (view_of o.node) held) tt) _ (leaving o.node.firm o.node.held) (record { each = is.each })

-- whatever happens, nothing is forged
pub keeps-unforged : {S : Type 0} (course : Course S) → KeepsAll course Unforged
unfolding hearing
keeps-unforged course =
    record {
      kept = record {
        event = λ w i h event up at may is. unforged-stepped course w i h (course.step h.node event) is;
        disk = λ w i h up at is. record { each = is.each };
        crash = λ w i h left up at may is. record { each = is.each };
        hear = λ w i c x a on at has read is. record { each = is.each };
        ask = λ w i c op at free few brief is. unforged-posts (asked_by w i c op) (from_client c (ask_of c op)) tt (record { each = is.each });
        again = λ w i c q at waits is. unforged-posts w (from_client c (signed_by c q)) tt is;
        learn = λ w i j c d at other is. record { each = is.each };
        inject = λ w x read fine is. unforged-posts w (from_script x) fine is;
        declare = λ w faulty rogue ending how is.
            record {
              each = each-weaken (λ (s : Sent). IsFine w.faulty w.rogue w.sent s.origin s.content) (λ (s : Sent). IsFine faulty rogue w.sent s.origin s.content)
                  (λ s. fine_more w.faulty w.rogue faulty rogue w.sent w.sent (excused_more w.faulty w.rogue faulty rogue how.more_faulty how.more_rogue) (λ c is. is) s.origin s.content)
                  w.sent is.each;
            };
        same = λ w mark told is. record { each = is.each };
        meet = λ w texts on is. record { each = is.each };
      };
      resume = λ w i h down at is. record { each = is.each };
      add = λ w i member on new is. record { each = is.each };
    }

-- what has been stated

-- a statement stands in something that was sent
pub record Stands (sent : List Sent) (x : Statement) : Type 0 where
  pub message : Sent
  pub there : Among message sent
  pub states : Among x (stated_in message.content)

-- what has been stated does
pub stated_stands : (sent : List Sent) (x : Statement) → Among x (stated sent) → Stands sent x
stated_stands [] x there = absurd there
stated_stands (s ∷ sent) x there =
    ⊎_elim (λ here. record { message = s; there = inl refl; states = here })
    (λ later. let rest = stated_stands sent x later in record { message = rest.message; there = inr rest.there; states = rest.states })
    (among_either x (stated_in s.content) (stated sent) there)

-- what is claimed alike among statements
claim_found : (c : Claim) (xs : List Statement) → list_any (same_claim c) (map claim_of xs) ≡ true → (x : Statement) × Among x xs × (same_claim c (claim_of x) ≡ true)
claim_found c [] some = absurd (cc)
claim_found c (x ∷ xs) some =
    ⊎_elim (λ here. (x, inl refl, here)) (λ later. let rest = claim_found c xs later in (rest.0, inr rest.1, rest.2)) (or_either (same_claim c (claim_of x)) (list_any (same_claim c) (map claim_of xs)) some)
  where
    or_either : (a b : Bool) → (a || b) ≡ true → (a ≡ true) ⊎ (b ≡ true)
    or_either true b is = inl refl
    or_either false b is = inr is

-- each statement in a content that is read is proper
pub content_proper : (x : Content) (s : Statement) → IsRead x → Among s (stated_in x) → Proper s
content_proper (contents.Message m) s fits there = message_proper m s fits there
content_proper (contents.Raw bytes) s is there = absurd there

-- a statement stands in a message that its signer has sent
pub record IsOwnStated (sent : List Sent) (x : Statement) : Type 0 where
  pub stands : Stands sent x
  pub from : is_from (signer_of x) stands.message.origin ≡ true

-- a statement whose claim is stated does
pub claim_own : (sent : List Sent) (x : Statement) → Each (λ s. IsRead s.content) sent → Proper x → is_stated sent (claim_of x) ≡ true → IsOwnStated sent x
claim_own sent x read proper is =
    let found = passing (λ (s : Sent). is_from (claim_of x).signer s.origin && list_any (same_claim (claim_of x)) (claims s.content)) sent is in
    let parts = and_true (is_from (claim_of x).signer found.value.origin) (list_any (same_claim (claim_of x)) (claims found.value.content)) found.passes in
    let other = claim_found (claim_of x) (stated_in found.value.content)
    (subst (λ (cs : List Claim). list_any (same_claim (claim_of x)) cs ≡ true) (claims_stated found.value.content) parts.1) in
    let one : x ≡ other.0 = same_claim-one x other.0 proper
    (content_proper found.value.content other.0 (each_among (λ (s : Sent). IsRead s.content) sent found.value read found.there) other.1) other.2 in
    record {
      stands = record { message = found.value; there = found.there; states = subst (λ (y : Statement). Among y (stated_in found.value.content)) (sym one) other.1 };
      from = parts.0;
    }

-- a claim of a content that is not forged is of one who is excused, or it is stated
none_claims : (p : Claim → Bool) (xs : List Statement) (x : Statement) → list_any p (map claim_of xs) ≡ false → Among x xs → p (claim_of x) ≡ false
none_claims p [] x none there = absurd there
none_claims p (y ∷ ys) x none (inl is) = subst (λ (z : Statement). p (claim_of z) ≡ false) (sym is) (or_parts (p (claim_of y)) (list_any p (map claim_of ys)) none).0
none_claims p (y ∷ ys) x none (inr there) = none_claims p ys x (or_parts (p (claim_of y)) (list_any p (map claim_of ys)) none).1 there

-- so a statement in it that is read is of one who is excused, or stands in a message that its signer has sent
pub fine_own : (faulty rogue : List ℕ) (sent : List Sent) (content : Content) (x : Statement) → is_forged faulty rogue sent content ≡ false → Each (λ s. IsRead s.content) sent → IsRead content
    → Among x (stated_in content) → (is_excused faulty rogue (signer_of x) ≡ true) ⊎ IsOwnStated sent x
unfolding is_forged
fine_own faulty rogue sent content x fine reads read there =
    let none : is_forgery faulty rogue sent (claim_of x) ≡ false = none_claims (is_forgery faulty rogue sent) (stated_in content) x
    (subst (λ (cs : List Claim). list_any (is_forgery faulty rogue sent) cs ≡ false) (claims_stated content) fine) there in
    ⊎_elim (λ is. inl is) (λ is. inr (claim_own sent x reads (content_proper content x read there) is))
    (either_fine (is_excused faulty rogue (claim_of x).signer) (is_stated sent (claim_of x)) none)

-- a member's statements

-- whom a member's statement is from, is that member's node
pub from_member : (id : ℕ) (o : Origin) → is_from (parties.Member id) o ≡ true → o ≡ origins.Node id
from_member id (origins.Node other) is = ap (λ (k : ℕ). origins.Node k) (sym (eqb-true id other is))
from_member id (origins.Client other) is = absurd (cc)
from_member id origins.Script is = absurd (cc)

-- a member's statement stands in a message that its node has sent
pub record NodeStates (sent : List Sent) (id : ℕ) (x : Statement) : Type 0 where
  pub message : Sent
  pub there : Among message sent
  pub from : message.origin ≡ origins.Node id
  pub states : Among x (stated_in message.content)

-- a content that states a reply is that reply

alone : (s x : Statement) → Among x (within s) → within s ≡ s ∷ [] → x ≡ s
alone s x there none = ⊎_elim (λ (is : x ≡ s). is) (λ never. absurd never) (subst (λ (xs : List Statement). Among x xs) none there)

no_vote : (a : SignedBy Answer) (votes : List (SignedBy Ballot)) → Among (Replied a) (map Voted votes) → ⊥
no_vote a votes there = let found = given Voted votes (Replied a) there in other found.value found.is
  where
    other : (b : SignedBy Ballot) → Replied a ≡ Voted b → ⊥
    other b same = cc

no_mark : (a : SignedBy Answer) (items : List (SignedBy Mark)) → Among (Replied a) (map Marked items) → ⊥
no_mark a items there = let found = given Marked items (Replied a) there in other found.value found.is
  where
    other : (m : SignedBy Mark) → Replied a ≡ Marked m → ⊥
    other m same = cc

no_request : (a : SignedBy Answer) (batch : Batch) → Among (Replied a) (map Asked batch) → ⊥
no_request a batch there = let found = given Asked batch (Replied a) there in other found.value found.is
  where
    other : (q : SignedBy Request) → Replied a ≡ Asked q → ⊥
    other q same = cc

no_evidence : (a : SignedBy Answer) (e : Evidence) → Among (Replied a) (parts_of_evidence e) → ⊥
no_evidence a evidence.Nothing there = there
no_evidence a (evidence.Decided p) there = no_vote a p.accepts there
no_evidence a (evidence.Marked m) there = no_mark a m.marks there

no_lock : (a : SignedBy Answer) (lock : Option LockCertificate) → Among (Replied a) (parts_of_lock lock) → ⊥
no_lock a None there = there
no_lock a (Some l) there = no_vote a l.writes there

no_report : (a : SignedBy Answer) (r : SignedBy Report) → Among (Replied a) (in_report r) → ⊥
no_report a r (inl same) = cc
no_report a r (inr there) = ⊎_elim (λ e. no_evidence a r.statement.evidence e) (λ l. no_lock a r.statement.lock l) (among_either (Replied a) (parts_of_evidence r.statement.evidence) (parts_of_lock r.statement.lock) there)

-- a reply stands in itself alone
reply_within : (a : SignedBy Answer) (s : Statement) → Among (Replied a) (within s) → s ≡ Replied a
reply_within a (Reported r) there = absurd (no_report a r there)
reply_within a (Synced y) (inl same) = sym same
reply_within a (Synced y) (inr there) = let found = within_one in_report y.statement.collect (Replied a) there in absurd (no_report a found.value found.within)
reply_within a s there = sym (alone s (Replied a) there refl)

no_requests : (a : SignedBy Answer) (batch : Option Batch) → Among (Replied a) (requests_of batch) → ⊥
no_requests a None there = there
no_requests a (Some batch) there = no_request a batch there

-- a message that its sender states as a reply is that reply
reply_own : (m : Message) (a : SignedBy Answer) → Among (Replied a) (own m) → m ≡ Reply a
reply_own (Ask q) a (inl is) = absurd (cc)
reply_own (Ask q) a (inr none) = absurd none
reply_own (Propose p) a (inl is) = absurd (cc)
reply_own (Propose p) a (inr none) = absurd none
reply_own (Vote b) a (inl is) = absurd (cc)
reply_own (Vote b) a (inr none) = absurd none
reply_own (changes.Stop s) a (inl is) = absurd (cc)
reply_own (changes.Stop s) a (inr none) = absurd none
reply_own (changes.StopData r) a (inl is) = absurd (cc)
reply_own (changes.StopData r) a (inr none) = absurd none
reply_own (changes.Sync s) a (inl is) = absurd (cc)
reply_own (changes.Sync s) a (inr none) = absurd none
reply_own (changes.Decision d) a there = absurd there
reply_own (Reply r) a (inl is) =
    let named : Replied a ≡ Replied r = is in
    let same : r ≡ a = cc in
    ap (λ (x : SignedBy Answer). Reply x) same
reply_own (Reply r) a (inr none) = absurd none
reply_own (changes.Mark m) a (inl is) = absurd (cc)
reply_own (changes.Mark m) a (inr none) = absurd none
reply_own (changes.StateAsk s) a there = absurd there
reply_own (changes.StateOffer o) a there = let found = given Marked o.marks (Replied a) there in let is = found.is in absurd (cc)
reply_own (changes.StatePart p) a there = absurd there
reply_own (changes.ViewTold i) a (inl is) = absurd (cc)
reply_own (changes.ViewTold i) a (inr none) = absurd none

-- no vote that is shown is a reply
no_proof : (a : SignedBy Answer) (d : Option ProvenBatch) → Among (Replied a) (proof_in d) → ⊥
no_proof a None there = there
no_proof a (Some d) there = let found = given Voted d.accepts (Replied a) there in let is = found.is in cc

-- a message that says a reply is that reply
reply_said : (m : Message) (a : SignedBy Answer) → Among (Replied a) (said m) → m ≡ Reply a
reply_said m a there =
    ⊎_elim (λ first. reply_own m a first)
    (λ rest. ⊎_elim (λ shown. absurd (no_proof a (decision_in m) shown)) (λ asked. absurd (no_requests a (batch_in m) asked))
    (among_either (Replied a) (proof_in (decision_in m)) (requests_of (batch_in m)) rest))
    (among_either (Replied a) (own m) (proof_in (decision_in m) ++ requests_of (batch_in m)) there)

pub reply_content : (x : Content) (a : SignedBy Answer) → Among (Replied a) (stated_in x) → x ≡ contents.Message (Reply a)
reply_content (contents.Message m) a there =
    let is : IsSaid m (Replied a) = message_says m (Replied a) there in
    ap (λ (y : Message). contents.Message y) (reply_said m a (subst (λ (s : Statement). Among s (said m)) (reply_within a is.part is.inside) is.said_there))
reply_content (contents.Raw bytes) a there = absurd there

-- a reply that a node has sent as its own names it as its signer, and no client sends one
node_reply : (id : ℕ) (to : List Party) (c : Content) (a : SignedBy Answer) → IsNodes id to c → c ≡ contents.Message (Reply a) → a.signer ≡ id
node_reply id to c a own is = (subst (λ (x : Content). IsForTarget id own.target x) is own.own).0

client_reply : (views : List View) (id : ℕ) (to : List Party) (c : Content) (a : SignedBy Answer) → IsClients views id to c → c ≡ contents.Message (Reply a) → ⊥
client_reply views id to c a own is = subst (λ (x : Content). IsAskOf id x) is own.own

-- a reply of a member that is not faulty stands in a message that its own node has sent, in whosever message it stands
pub member_states : {S : Type 0} (w : World S) (id : ℕ) (a : SignedBy Answer) → Each (λ s. IsRead s.content) w.sent → Each (λ s. IsOwnSent (views_after w.view w.chosen) s.origin s.to s.content) w.sent → Unforged w
    → is_among w.faulty id ≡ false → a.signer ≡ id → Among (Replied a) (stated w.sent) → NodeStates w.sent id (Replied a)
member_states {S = S} w id a read own fine correct who there =
    let x : Statement = Replied a in
    let found = stated_stands w.sent x there in
    by found.message.origin found (each_among (λ (t : Sent). IsOwnSent (views_after w.view w.chosen) t.origin t.to t.content) w.sent found.message own found.there)
    (each_among (λ (t : Sent). IsFine w.faulty w.rogue w.sent t.origin t.content) w.sent found.message fine.each found.there) refl
  where
    no_other : true ≡ false → ⊥
    no_other is = cc

    here : (found : Stands w.sent (Replied a)) → found.message.origin ≡ origins.Node id → NodeStates w.sent id (Replied a)
    here found from = record { message = found.message; there = found.there; from = from; states = found.states }

    by : (o : Origin) (found : Stands w.sent (Replied a)) → IsOwnSent (views_after w.view w.chosen) o found.message.to found.message.content → IsFine w.faulty w.rogue w.sent o found.message.content → found.message.origin ≡ o → NodeStates w.sent id (Replied a)
    by (origins.Node j) found own fine is =
        here found (is ∙ ap (λ (k : ℕ). origins.Node k) (sym (node_reply j found.message.to found.message.content a own (reply_content found.message.content a found.states)) ∙ who))
    by (origins.Client j) found own fine is = absurd (client_reply (views_after w.view w.chosen) j found.message.to found.message.content a own (reply_content found.message.content a found.states))
    by origins.Script found own fine is =
        ⊎_elim (λ excused. absurd (no_other (sym (subst (λ (k : ℕ). is_among w.faulty k ≡ true) who excused) ∙ correct)))
        (λ mine. here mine.stands (from_member id mine.stands.message.origin (subst (λ (k : ℕ). is_from (parties.Member k) mine.stands.message.origin ≡ true) who mine.from)))
        (fine_own w.faulty w.rogue w.sent found.message.content (Replied a) fine read (each_among (λ (t : Sent). IsRead t.content) w.sent found.message read found.there) found.states)
