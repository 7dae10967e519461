-- What came of a member was sent by it, so its book shows it.
use Rattle.std.proofs.Common.{◌≡◌, inl, inr, ℕ, Bool, true, false, cond, List, [], ◌∷◌, Result, Ok, Err, refl, ap, sym, ◌∙◌, subst, eqb-true}
use Rattle.std.specs.Prelude.{map, filter}
use Rattle.std.specs.List.{flat_map}
use Rattle.smart_base.specs.Cuts.{IsBytes}
use Rattle.smart_base.specs.Lists.{Each}
use Rattle.smart_base.specs.declared.party.Party.{Party}
use Rattle.smart_base.specs.declared.party.Party.TheVariants.{Member, Client}
use Rattle.smart_messages.specs.Messages.{decoded, Fits}
use Rattle.smart_messages.specs.declared.message.Message.{Message}
use Rattle.smart_messages.specs.declared.message.Sealed.{Sealed}
use Rattle.smart_messages.proofs.Messages.{FitsStatement, decoded_is, one_seal}
use Rattle.vote_book.specs.Books.{Among}
use Rattle.vote_book.specs.declared.entry.LogEntry.{LogEntry}
use Rattle.vote_book.proofs.Tested.{passing}
use Rattle.replica_rules.specs.Seals.{digest_of}
use Rattle.agreement_laws.specs.Statements.{Statement, IsClosed, own, sealed_of, signer_of, statements, statements_in, verifies}
use Rattle.agreement_laws.specs.Diaries.{IsShown}
use Rattle.agreement_laws.proofs.Closed.{closed}
use Rattle.agreement_laws.proofs.Lists.{among_filtered, among_flat, among_map, each_among, each_from, given, within_one}
use Rattle.node_laws.specs.Sound.{IsStated}
use Rattle.replica_laws.specs.Sending.{RestsOn}
use Rattle.trail.specs.declared.event.Addressed.{Addressed}
use Rattle.trail_rules.specs.Replays.{arrivals, sends}
use Rattle.audit_rules.specs.declared.recorded.Recorded.{Recorded}
use Rattle.audit_rules.specs.Audits.{has_sent, is_by, is_member, is_of, made_by, made_with, same_sealed, sealed_in}
use Rattle.trail_agreement.specs.Excuses.{AreSentBut, IsSentBut, is_excused}
use Rattle.trail_agreement.proofs.Stated.{made_fits, same_sealed-is, stands_fits}

-- ---- what came

-- the message that bytes are, if they are one
abbrev pub message_of : Result Message ℕ → List Message
message_of (Ok m) = m ∷ []
message_of (Err at) = []

-- the messages that came in trails
abbrev pub came_in : Recorded → List Message
came_in t = flat_map (λ (bytes : List ℕ). message_of (decoded bytes)) (arrivals t.events)

abbrev pub all_came : List Recorded → List Message
all_came trails = flat_map came_in trails

-- all that stands in what came in trails, and verifies
abbrev pub all_stated : List ℕ → List Recorded → List Statement
all_stated secret trails = flat_map (statements secret) (all_came trails)

pub stated_closed : (secret : List ℕ) (trails : List Recorded) → IsClosed secret (all_stated secret trails)
stated_closed secret trails = closed secret (all_came trails)

one_there : (m : Message) (read : Result Message ℕ) → read ≡ Ok m → Among m (message_of read)
one_there m read same = subst (λ (r : Result Message ℕ). Among m (message_of r)) (sym same) (inl refl)

-- what came in one of them has been stated
pub came_stated : (secret : List ℕ) (trails : List Recorded) (t : Recorded) (bytes : List ℕ) (m : Message) → Among t trails → Among bytes (arrivals t.events) → decoded bytes ≡ Ok m
    → IsStated secret (all_stated secret trails) m
came_stated secret trails t bytes m there arrived read =
    let came : Among m (came_in t) = among_flat (λ (b : List ℕ). message_of (decoded b)) (arrivals t.events) bytes m arrived (one_there m (decoded bytes) read) in
    let all : Among m (all_came trails) = among_flat came_in trails t m there came in
    each_from (λ (s : Statement). Among s (all_stated secret trails)) (statements secret m) (λ s inside. among_flat (statements secret) (all_came trails) m s all inside)

-- ---- what is stated came

-- what a filter leaves passes its test
among_passes : {A : Type 0} (p : A → Bool) (xs : List A) (y : A) → Among y (filter p xs) → p y ≡ true
among_passes p [] y there = absurd there
among_passes {A} p (x ∷ xs) y there = by (p x) refl (λ later. among_passes p xs y later) there
  where
    by : (t : Bool) → p x ≡ t → (Among y (filter p xs) → p y ≡ true) → Among y (cond t (x ∷ filter p xs) (filter p xs)) → p y ≡ true
    by true is rest (inl same) = subst (λ (z : A). p z ≡ true) (sym same) is
    by true is rest (inr later) = rest later
    by false is rest later = rest later

-- a statement in bytes that came in a trail, and verifies
pub record Came (secret : List ℕ) (trails : List Recorded) (s : Statement) : Type 0 where
  pub trail : Recorded
  pub there : Among trail trails
  pub bytes : List ℕ
  pub arrived : Among bytes (arrivals trail.events)
  pub message : Message
  pub read : decoded bytes ≡ Ok message
  pub inside : Among s (statements_in message)
  pub verified : verifies secret s ≡ true

read_one : (m : Message) (read : Result Message ℕ) → Among m (message_of read) → read ≡ Ok m
read_one m (Ok x) (inl is) = ap (λ (y : Message). Ok y) (sym is)
read_one m (Ok x) (inr none) = absurd none
read_one m (Err at) none = absurd none

came_from : (secret : List ℕ) (trails : List Recorded) (s : Statement) → Among s (all_stated secret trails) → Came secret trails s
came_from secret trails s there =
    let message = within_one (statements secret) (all_came trails) s there in
    let trail = within_one came_in trails message.value message.there in
    let bytes = within_one (λ (b : List ℕ). message_of (decoded b)) (arrivals trail.value.events) message.value trail.within in
    record {
      trail = trail.value;
      there = trail.there;
      bytes = bytes.value;
      arrived = bytes.there;
      message = message.value;
      read = read_one message.value (decoded bytes.value) bytes.within;
      inside = among_filtered (verifies secret) (statements_in message.value) s message.within;
      verified = among_passes (verifies secret) (statements_in message.value) s message.within;
    }

-- ---- what was sent

-- a statement that is the own one of a message in a Send of a member's trail
pub record IsMade (trails : List Recorded) (member : ℕ) (s : Sealed) : Type 0 where
  pub trail : Recorded
  pub there : Among trail trails
  pub member_is : trail.opening.member ≡ member
  pub send : Addressed
  pub sent : Among send (sends trail.events)
  pub statement : Statement
  pub made : Among statement (own send.message)
  pub sealed_is : sealed_of statement ≡ s

of_member : (member : ℕ) (id : ℕ) (who : Party) → who ≡ Member id → is_of member who ≡ true → member ≡ id
of_member member id (Member x) same is = let one : x ≡ id = name_one x id same in sym (eqb-true x member is) ∙ one
  where
    name_one : (a b : ℕ) → Member a ≡ Member b → a ≡ b
    name_one a b both = cc
of_member member id (Client x) same is = absurd (cc)

sent_made : (trails : List Recorded) (member : ℕ) (s : Sealed) → s.who ≡ Member member → has_sent trails s ≡ true → IsMade trails member s
sent_made trails member s who has =
    let found = passing (same_sealed s) (flat_map made_by trails) has in
    let same : s ≡ found.value = same_sealed-is s found.value found.passes in
    let trail = within_one made_by trails found.value found.there in
    let send = within_one (λ (a : Addressed). made_with trail.value.opening.member a.message) (sends trail.value.events) found.value trail.within in
    let made = given sealed_of (own send.value.message) found.value (among_filtered (is_by trail.value.opening.member) (map sealed_of (own send.value.message)) found.value send.within) in
    let by = among_passes (is_by trail.value.opening.member) (map sealed_of (own send.value.message)) found.value send.within in
    record {
      trail = trail.value;
      there = trail.there;
      member_is = of_member trail.value.opening.member member found.value.who (ap (λ (x : Sealed). x.who) (sym same) ∙ who) by;
      send = send.value;
      sent = send.there;
      statement = made.value;
      made = made.there;
      sealed_is = sym made.is ∙ sym same;
    }

-- ---- what came and was sent is shown

-- what came in a trail as bytes, and was sent if it verifies
pub record MayCome (faulty : ℕ → Bool) (trails : List Recorded) (secret : List ℕ) (t : Recorded) : Type 0 where
  pub secret_is : t.opening.secret ≡ secret
  pub bytes : Each IsBytes (arrivals t.events)
  pub sent : AreSentBut faulty trails t
  pub fits : Each (λ (a : Addressed). Fits a.message) (sends t.events)

is_member-of : (member : ℕ) (who : Party) → who ≡ Member member → is_member who ≡ true
is_member-of member (Member x) same = refl
is_member-of member (Client x) same = absurd (cc)

excused-of : (faulty : ℕ → Bool) (member : ℕ) (who : Party) → who ≡ Member member → faulty member ≡ false → is_excused faulty who ≡ false
excused-of faulty member who same correct = ap (λ (p : Party). is_excused faulty p) same ∙ correct

sealed_there : (m : Message) (read : Result Message ℕ) (s : Statement) → read ≡ Ok m → Among s (statements_in m) → Among (sealed_of s) (sealed_in read)
sealed_there m read s same there = subst (λ (r : Result Message ℕ). Among (sealed_of s) (sealed_in r)) (sym same) (among_map sealed_of (statements_in m) s there)

-- a member's statement that came is in a Send of its trail
pub stated_made : (faulty : ℕ → Bool) (secret : List ℕ) (trails : List Recorded) (member : ℕ) (s : Statement) → faulty member ≡ false → Each (MayCome faulty trails secret) trails → (c : Came secret trails s) → signer_of s ≡ Member member
    → IsMade trails member (sealed_of s)
stated_made faulty secret trails member s correct may c who =
    let of = each_among (MayCome faulty trails secret) trails c.trail may c.there in
    let sealed = each_among (λ bytes. Each (IsSentBut faulty trails c.trail.opening.secret) (sealed_in (decoded bytes))) (arrivals c.trail.events) c.bytes of.sent c.arrived in
    let sent : IsSentBut faulty trails c.trail.opening.secret (sealed_of s) =
    each_among (IsSentBut faulty trails c.trail.opening.secret) (sealed_in (decoded c.bytes)) (sealed_of s) sealed (sealed_there c.message (decoded c.bytes) s c.read c.inside) in
    sent_made trails member (sealed_of s) who
    (sent (is_member-of member (sealed_of s).who who) (excused-of faulty member (sealed_of s).who who correct) (subst (λ (k : List ℕ). verifies k s ≡ true) (sym of.secret_is) c.verified))

-- so a book on which all Sends of its trail rest shows it
pub stated_shown : (faulty : ℕ → Bool) (secret : List ℕ) (trails : List Recorded) (member : ℕ) (s : Statement) (book : Recorded → List LogEntry) → faulty member ≡ false → Each (MayCome faulty trails secret) trails
    → ((t : Recorded) → Among t trails → t.opening.member ≡ member → Each (λ (a : Addressed). RestsOn (book t) a.message) (sends t.events)) → Among s (all_stated secret trails)
    → signer_of s ≡ Member member → (t : Recorded) × Among t trails × (t.opening.member ≡ member) × IsShown digest_of (book t) s
stated_shown faulty secret trails member s book correct may rests there who =
    let c : Came secret trails s = came_from secret trails s there in
    let made : IsMade trails member (sealed_of s) = stated_made faulty secret trails member s correct may c who in
    let of = each_among (MayCome faulty trails secret) trails c.trail may c.there in
    let own_of = each_among (MayCome faulty trails secret) trails made.trail may made.there in
    let read = decoded_is c.bytes c.message (each_among IsBytes (arrivals c.trail.events) c.bytes of.bytes c.arrived) c.read in
    let fits : FitsStatement s = stands_fits c.message s read.0.content_fits c.inside in
    let sent_fits : Fits made.send.message = each_among (λ (a : Addressed). Fits a.message) (sends made.trail.events) made.send own_of.fits made.sent in
    let one : made.statement ≡ s = one_seal made.statement s (made_fits made.send.message made.statement sent_fits.content_fits made.made) fits made.sealed_is in
    let rest : RestsOn (book made.trail) made.send.message =
    each_among (λ (a : Addressed). RestsOn (book made.trail) a.message) (sends made.trail.events) made.send (rests made.trail made.there made.member_is) made.sent in (
      made.trail,
      made.there,
      made.member_is,
      subst (λ (x : Statement). IsShown digest_of (book made.trail) x) one (each_among (IsShown digest_of (book made.trail)) (own made.send.message) made.statement rest made.made),
    )
