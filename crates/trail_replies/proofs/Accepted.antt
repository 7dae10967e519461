-- Each reply that a client accepts by its trail came as bytes, bears its member's tag, and is to the request that waited.
use Rattle.std.proofs.Common.{◌≡◌, ℕ, nat_le, Bool, true, false, not, cond, ◌==◌, List, [], ◌∷◌, ◌++◌, refl, ap, subst, inl, eqb-true, Option, Some, None, Result, Ok, Err}
use Rattle.std.specs.Option.{option_to_list}
use Rattle.smart_base.specs.Lists.{Each}
use Rattle.smart_base.specs.Views.{View, quorum}
use Rattle.smart_base.proofs.SameLists.{and_true}
use Rattle.smart_base.proofs.ViewFacts.{each-weaken}
use Rattle.smart_statements.specs.Forms.{SignedBy}
use Rattle.smart_statements.specs.Kinds.{answers}
use Rattle.smart_statements.specs.declared.entry.NodeEvent.TheVariants.{Arrive, Tick, Deliver, Firm}
use Rattle.smart_statements.specs.declared.statement.Answer.{Answer}
use Rattle.smart_statements.specs.declared.statement.Request.{Request}
use Rattle.smart_messages.specs.Messages.{decoded}
use Rattle.smart_messages.specs.declared.message.Message.{Message}
use Rattle.smart_messages.specs.declared.message.Message.TheVariants.{Reply}
use Rattle.smart_messages.specs.declared.message.Message.TheVariants as changes
use Rattle.smart_messages.specs.declared.regency.ViewInfo.{ViewInfo}
use Rattle.vote_book.specs.Books.{Among}
use Rattle.replica_rules.specs.Seals.{is_verified}
use Rattle.agreement_laws.proofs.Lists.{among_left, among_right, each_append, some_equal}
use Rattle.client_quorum.specs.Clients.{acceptance, have, heard, heard_unless, is_waited_for, known, why_ignored}
use Rattle.client_quorum.specs.Quorums.{accepted_in}
use Rattle.client_quorum.specs.Readings.{heard_bytes, heard_read, word_read}
use Rattle.client_quorum.specs.ViewWords.{told, told_unless, why_untold}
use Rattle.client_quorum.specs.declared.client.Acceptance.{Acceptance}
use Rattle.client_quorum.specs.declared.client.Client.{Client}
use Rattle.client_quorum.specs.declared.client.Heard.{Heard}
use Rattle.client_quorum.specs.declared.client.Heard.TheVariants as hears
use Rattle.client_quorum.specs.declared.client.Ignored.{Ignored}
use Rattle.client_quorum.specs.declared.client.Ignored.TheVariants as reasons
use Rattle.client_seat.specs.Asks.{acceptances, accepted_by, client_after}
use Rattle.trail.specs.declared.event.TrailEvent.{TrailEvent}
use Rattle.trail.specs.declared.event.TrailEvent.TheVariants.{Happens, Send, Lost, Polls, End}
use Rattle.trail_rules.specs.Replays.{arrivals, came_by}

-- ---- a reply

-- what a client accepts is a reply with its member's tag, to the request that waits
pub record Accepts (secret : List ℕ) (c : Client) (r : SignedBy Answer) (a : Acceptance) : Type 0 where
  pub tagged : is_verified answers secret r ≡ true
  pub request : Request
  pub waits : c.waiting ≡ Some request
  pub client_is : request.client ≡ r.statement.client
  pub seq_is : request.seq ≡ r.statement.seq
  pub is : a ≡ acceptance request r.statement

-- where no reason applies, the first does not, and none of the others
test_passed : {A : Type 0} (t : Bool) (x : A) (rest : Option A) → cond (not t) (Some x) rest ≡ None → (t ≡ true) × (rest ≡ None)
test_passed true x rest none = (refl, none)
test_passed false x rest none = absurd (cc)

-- a reply is accepted where enough members gave it
where_enough : (t : Bool) (x a : Acceptance) (count need : ℕ) → cond t (hears.Accepted x) (hears.Counted count need) ≡ hears.Accepted a → a ≡ x
where_enough true x a count need same = cc
where_enough false x a count need same = absurd (cc)

accepts_unless : (secret : List ℕ) (c : Client) (r : SignedBy Answer) (a : Acceptance) (why : Option Ignored) (waiting : Option Request) (found : Option View) → why_ignored secret c r ≡ why → c.waiting ≡ waiting
    → heard_unless c r why waiting found ≡ hears.Accepted a → Accepts secret c r a
unfolding why_ignored
accepts_unless secret c r a (Some why) waiting found fine waits same = absurd (cc)
accepts_unless secret c r a None None found fine waits same = absurd (cc)
accepts_unless secret c r a None (Some q) None fine waits same = absurd (cc)
accepts_unless secret c r a None (Some q) (Some v) fine waits same =
    let tag = test_passed (is_verified answers secret r) reasons.BadTag _ fine in
    let one = test_passed (is_waited_for c.waiting r.statement) reasons.Settled _ tag.1 in
    let own = and_true (q.client == r.statement.client) (q.seq == r.statement.seq) (subst (λ (w : Option Request). is_waited_for w r.statement ≡ true) waits one.0) in
    record {
      tagged = tag.0;
      request = q;
      waits = waits;
      client_is = eqb-true q.client r.statement.client own.0;
      seq_is = eqb-true q.seq r.statement.seq own.1;
      is = where_enough (nat_le (quorum v) (have v (c.replies ++ r ∷ []) r.statement)) (acceptance q r.statement) a (have v (c.replies ++ r ∷ []) r.statement) (quorum v) same;
    }

accepts_reply : (secret : List ℕ) (c : Client) (r : SignedBy Answer) (a : Acceptance) → heard secret c r ≡ hears.Accepted a → Accepts secret c r a
unfolding heard
accepts_reply secret c r a same = accepts_unless secret c r a (why_ignored secret c r) c.waiting (known c r.statement.view) refl refl same

-- no statement of a view is accepted
none_told : (secret : List ℕ) (c : Client) (i : SignedBy ViewInfo) (a : Acceptance) → told secret c i ≡ hears.Accepted a → ⊥
unfolding told
none_told secret c i a same = by (why_untold secret c i) same
  where
    by_count : (t : Bool) (number count need : ℕ) → cond t (hears.Moved number) (hears.Viewed count need) ≡ hears.Accepted a → ⊥
    by_count true number count need same = cc
    by_count false number count need same = cc

    by : (why : Option Ignored) → told_unless c i why ≡ hears.Accepted a → ⊥
    by (Some why) same = cc
    by None same = by_count _ _ _ _ same

-- ---- bytes

-- a reply that came as bytes, and is accepted
pub record Takes (secret : List ℕ) (c : Client) (bytes : List ℕ) (a : Acceptance) : Type 0 where
  pub reply : SignedBy Answer
  pub read : decoded bytes ≡ Ok (Reply reply)
  pub accepts : Accepts secret c reply a

is_accepted : (h : Heard) (a : Acceptance) → accepted_in h ≡ Some a → h ≡ hears.Accepted a
is_accepted (hears.Counted count need) a is = absurd (cc)
is_accepted (hears.Accepted x) a is = ap (λ (y : Acceptance). hears.Accepted y) (some_equal x a is)
is_accepted (hears.Viewed count need) a is = absurd (cc)
is_accepted (hears.Moved number) a is = absurd (cc)
is_accepted (hears.Ignored why) a is = absurd (cc)

takes_read : (secret : List ℕ) (c : Client) (bytes : List ℕ) (read : Result Message ℕ) (a : Acceptance) → decoded bytes ≡ read → accepted_in (heard_read secret c (word_read read)) ≡ Some a → Takes secret c bytes a
takes_read secret c bytes (Err at) a is same = absurd (cc)
takes_read secret c bytes (Ok (Reply r)) a is same = record { reply = r; read = is; accepts = accepts_reply secret c r a (is_accepted (heard secret c r) a same) }
takes_read secret c bytes (Ok (changes.ViewTold i)) a is same = absurd (none_told secret c i a (is_accepted (told secret c i) a same))
takes_read secret c bytes (Ok (changes.Ask q)) a is same = absurd (cc)
takes_read secret c bytes (Ok (changes.Propose p)) a is same = absurd (cc)
takes_read secret c bytes (Ok (changes.Vote b)) a is same = absurd (cc)
takes_read secret c bytes (Ok (changes.Stop s)) a is same = absurd (cc)
takes_read secret c bytes (Ok (changes.StopData r)) a is same = absurd (cc)
takes_read secret c bytes (Ok (changes.Sync s)) a is same = absurd (cc)
takes_read secret c bytes (Ok (changes.Decision d)) a is same = absurd (cc)
takes_read secret c bytes (Ok (changes.Mark k)) a is same = absurd (cc)
takes_read secret c bytes (Ok (changes.StateAsk s)) a is same = absurd (cc)
takes_read secret c bytes (Ok (changes.StateOffer o)) a is same = absurd (cc)
takes_read secret c bytes (Ok (changes.StatePart p)) a is same = absurd (cc)

-- what is accepted by an event came in it, and is accepted by that client
pub record TakesBy (secret : List ℕ) (c : Client) (came : List (List ℕ)) (a : Acceptance) : Type 0 where
  pub bytes : List ℕ
  pub there : Among bytes came
  pub takes : Takes secret c bytes a

pub taken_by : (secret : List ℕ) (c : Client) (e : TrailEvent) → Each (TakesBy secret c (came_by e)) (option_to_list (accepted_by secret c e))
taken_by secret c (Happens (Arrive bytes)) = by (accepted_in (heard_bytes secret c bytes)) refl
  where
    by : (o : Option Acceptance) → accepted_in (heard_bytes secret c bytes) ≡ o → Each (TakesBy secret c (bytes ∷ [])) (option_to_list o)
    by None is = tt
    by (Some a) is = (record { bytes = bytes; there = inl refl; takes = takes_read secret c bytes (decoded bytes) a refl is }, tt)
taken_by secret c (Happens Tick) = tt
taken_by secret c (Happens Deliver) = tt
taken_by secret c (Happens (Firm count)) = tt
taken_by secret c (Send a) = tt
taken_by secret c (Lost a) = tt
taken_by secret c (Polls count) = tt
taken_by secret c End = tt

-- ---- all events

-- what is accepted came among these bytes
pub record HasCome (secret : List ℕ) (came : List (List ℕ)) (a : Acceptance) : Type 0 where
  pub client : Client
  pub by : TakesBy secret client came a

come_more : (secret : List ℕ) (came more : List (List ℕ)) (a : Acceptance) → HasCome secret more a → HasCome secret (came ++ more) a
come_more secret came more a has = record { client = has.client; by = record { bytes = has.by.bytes; there = among_right has.by.bytes came more has.by.there; takes = has.by.takes } }

come_first : (secret : List ℕ) (c : Client) (came more : List (List ℕ)) (a : Acceptance) → TakesBy secret c came a → HasCome secret (came ++ more) a
come_first secret c came more a taken = record { client = c; by = record { bytes = taken.bytes; there = among_left taken.bytes came more taken.there; takes = taken.takes } }

pub all_come : (secret : List ℕ) (c : Client) (events : List TrailEvent) → Each (HasCome secret (arrivals events)) (acceptances secret c events)
all_come secret c [] = tt
all_come secret c (e ∷ events) =
    let first : List Acceptance = option_to_list (accepted_by secret c e) in
    let rest : List Acceptance = acceptances secret (client_after secret c e) events in
    each_append (HasCome secret (came_by e ++ arrivals events)) first rest
    (each-weaken (TakesBy secret c (came_by e)) (HasCome secret (came_by e ++ arrivals events)) (come_first secret c (came_by e) (arrivals events)) first (taken_by secret c e))
    (each-weaken (HasCome secret (arrivals events)) (HasCome secret (came_by e ++ arrivals events)) (come_more secret (came_by e) (arrivals events)) rest (all_come secret (client_after secret c e) events))
