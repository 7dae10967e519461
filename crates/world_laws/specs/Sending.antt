-- The senders of messages, and the entries that messages rest on.
use Rattle.std.specs.Prelude.{ℕ, ◌+◌, ◌≡◌, ◌<◌, ◌≤◌, ◌⊎◌, ◌==◌, Bool, false, ◌&&◌, ◌||◌, List, [], ◌∷◌, length, filter, Option, IsSomeAnd, Ok, Err, option_and_then, true}
use Rattle.smart_base.specs.declared.party.Party.TheVariants as parties
use Rattle.smart_base.specs.declared.party.Party.{Party}
use Rattle.std.specs.List.{list_any}
use Rattle.smart_base.specs.Lists.{Each, same_bytes}
use Rattle.smart_base.specs.Views.{View, weight_of, quorum}
use Rattle.smart_base.specs.declared.limits.TheConstants.{MESSAGE_BYTES}
use Rattle.smart_statements.specs.Forms.{SignedBy}
use Rattle.smart_statements.specs.Kinds.{answers}
use Rattle.smart_messages.specs.Messages.{spelling, decoded, request_in, reply_in, some_of}
use Rattle.smart_statements.specs.declared.statement.Request.{Request}
use Rattle.smart_statements.specs.declared.statement.Answer.{Answer}
use Rattle.smart_messages.specs.declared.message.Message.{Message}
use Rattle.vote_book.specs.declared.entry.LogEntry.{LogEntry}
use Rattle.replica_rules.specs.Seals.{is_verified}
use Rattle.node_rules.specs.declared.node.Target.{Target}
use Rattle.node_rules.specs.declared.node.Target.TheVariants as targets
use Rattle.replica_laws.specs.Sending.{IsOwn, NamesUpTo, RestsOn, orders, IsGenuine}
use Rattle.world_rules.specs.Secrets.{group_secret}
use Rattle.world_rules.specs.Premises.{is_among, bytes_of, same_party}
use Rattle.client_quorum.specs.Quorums.{after_words}
use Rattle.client_quorum.specs.Readings.{word_in, word_read}
use Rattle.world_rules.specs.Worlds.{Host, World, heard_by}
use Rattle.client_quorum.specs.declared.client.Client.{Client}
use Rattle.client_quorum.specs.declared.client.Word.{Word}
use Rattle.client_quorum.specs.declared.client.Word.TheVariants as words
use Rattle.client_quorum.specs.declared.client.Acceptance.{Acceptance}
use Rattle.world_rules.specs.declared.message.Content.{Content}
use Rattle.world_rules.specs.declared.message.Content.TheVariants as contents
use Rattle.world_rules.specs.declared.message.Origin.{Origin}
use Rattle.world_rules.specs.declared.message.Origin.TheVariants as origins
use Rattle.world_rules.specs.declared.message.Sent.{Sent}
use Rattle.world_rules.specs.Injections.{message_in}
use Rattle.vote_book.specs.Books.{Among}
use Rattle.replica_rules.specs.Replicas.{view_at, views_after}
use Rattle.smart_statements.specs.Batches.{Batch}

-- a content that a node may send for a target: a message of its own, or a client's request that it passes on to one member
abbrev pub IsForTarget : ℕ → Target → Content → Type 0
IsForTarget id target (contents.Message message) = IsOwn id target message
IsForTarget id target (contents.Raw bytes) = ⊥

-- A content that a node may send to some parties: they are those that hear its target in a view, where some clients
-- have asked. What comes to a node may be forged, so this need be no view of a list. In a play it is (`IsAddressed`).
pub record IsNodes (id : ℕ) (to : List Party) (content : Content) : Type 0 where
  pub view : View
  pub asked : List ℕ
  pub target : Target
  pub addressed : to ≡ heard_by view asked target
  pub own : IsForTarget id target content

-- A message that is a request with a client's signature. INTERIM(reads): a client sends nothing else.
abbrev pub IsRequestOf : ℕ → Message → Type 0
IsRequestOf id message = IsSomeAnd (request_in message) (λ q. q.signer ≡ id)

-- a content that is a request with a client's signature
abbrev pub IsAskOf : ℕ → Content → Type 0
IsAskOf id (contents.Message message) = IsRequestOf id message
IsAskOf id (contents.Raw bytes) = ⊥

-- a content that a client may send to some parties: a request of its own, to the members of one of some views
pub record IsClients (views : List View) (id : ℕ) (to : List Party) (content : Content) : Type 0 where
  pub view : View
  pub known : Among view views
  pub addressed : to ≡ heard_by view [] targets.View
  pub own : IsAskOf id content

-- a content that its origin may send in some views: nodes and clients send their own messages, nodes pass on clients' requests, and what a script injects
-- is for nobody
abbrev pub IsOwnSent : List View → Origin → List Party → Content → Type 0
IsOwnSent views (origins.Node id) to content = IsNodes id to content
IsOwnSent views (origins.Client id) to content = IsClients views id to content
IsOwnSent views origins.Script to content = to ≡ []

-- a content that names no later view than one of a number; no mark and no ask for state in it names a place past one
abbrev pub IsNamedUpTo : ℕ → ℕ → Content → Type 0
IsNamedUpTo number place (contents.Message message) = NamesUpTo number place message
IsNamedUpTo number place (contents.Raw bytes) = ⊥

-- A node's content as it was addressed in a play, by the view in force behind a place of the list. Its members hear what is for members. Those of
-- some clients hear what is for all clients, each of which has asked. The content names no later view. No mark and no ask for state names a place
-- past that one.
pub record IsAddressed (first : View) (list : List Batch) (asked : List ℕ) (id : ℕ) (to : List Party) (content : Content) : Type 0 where
  pub place : ℕ
  pub reached : place ≤ length list
  pub clients : List ℕ
  pub have_asked : Each (λ client. Among client asked) clients
  pub target : Target
  pub addressed : to ≡ heard_by (view_at first list (place + 1)) clients target
  pub own : IsForTarget id target content
  pub named : IsNamedUpTo (view_at first list (place + 1)).number place content

-- such a content, if a node sent it
abbrev pub IsAddressedFrom : View → List Batch → List ℕ → Origin → List Party → Content → Type 0
IsAddressedFrom first list asked (origins.Node id) to content = IsAddressed first list asked id to content
IsAddressedFrom first list asked (origins.Client id) to content = Unit {0}
IsAddressedFrom first list asked origins.Script to content = Unit {0}

-- bytes that are read as no message
pub record IsUnread (bytes : List ℕ) : Type 0 where
  pub at : ℕ
  pub unread : decoded bytes ≡ Err at

-- A message that its bytes are read as, if they are at most 1,048,576. More bytes are read as no message. A message that orders requests is
-- always read as itself.
pub record IsReadIfShort (message : Message) : Type 0 where
  pub ordering : orders message ≡ true → decoded (spelling message) ≡ Ok message
  pub short : length (spelling message) ≤ MESSAGE_BYTES → decoded (spelling message) ≡ Ok message
  pub long : MESSAGE_BYTES < length (spelling message) → IsUnread (spelling message)

-- a content that is read for what it is: a message as itself within the limit, and bytes that are no message as none
abbrev pub IsReadAs : Content → Type 0
IsReadAs (contents.Message message) = IsReadIfShort message
IsReadAs (contents.Raw bytes) = IsUnread bytes

-- the reply that a content is, if it is one
abbrev pub reply_of : Content → Option (SignedBy Answer)
reply_of content = option_and_then reply_in (message_in content)

-- the member's word that a content is, if it is one
abbrev pub word_of : Content → Option Word
word_of content = option_and_then word_in (message_in content)

-- a content that a client reads as the reply or the statement of a view that it is, or as none
abbrev pub IsHeardAs : Content → Type 0
IsHeardAs content = word_read (decoded (bytes_of content)) ≡ word_of content

-- a content that is a genuine message: it is read from its bytes, and its tags are those that its signers make
abbrev pub IsGenuineContent : Content → Type 0
IsGenuineContent (contents.Message message) = IsGenuine group_secret message
IsGenuineContent (contents.Raw bytes) = ⊥

-- a content that is genuine if a node or a client sent it; for what a script injects nothing is claimed
abbrev pub IsGenuineFrom : Origin → Content → Type 0
IsGenuineFrom (origins.Node id) content = IsGenuineContent content
IsGenuineFrom (origins.Client id) content = IsGenuineContent content
IsGenuineFrom origins.Script content = Unit {0}

-- a world in which everything sent is read for what it is, and what nodes and clients sent is genuine
pub record AllGenuine {S : Type 0} (w : World S) : Type 0 where
  pub read : Each (λ s. IsReadAs s.content) w.sent
  pub heard : Each (λ s. IsHeardAs s.content) w.sent
  pub genuine : Each (λ s. IsGenuineFrom s.origin s.content) w.sent

-- the replies that an acceptance rests on

-- a reply that is the accepted one
abbrev pub is_reply : Acceptance → SignedBy Answer → Bool
is_reply a r =
    (r.statement.client == a.request.client) && (r.statement.seq == a.request.seq) && (r.statement.view == a.view)
    && (r.statement.place == a.place) && (r.statement.index == a.index) && same_bytes r.statement.reply a.reply

-- a member that gave the accepted reply: a reply in a list names it as signer, bears its tag and is the accepted one
abbrev pub has_given : List (SignedBy Answer) → Acceptance → ℕ → Bool
has_given replies a member = list_any (λ r. (r.signer == member) && is_verified answers group_secret r && is_reply a r) replies

-- the client after it has heard words, in order
abbrev pub hears_all : Client → List Word → Client
hears_all c ws = after_words group_secret c ws

-- the replies among words
abbrev pub replies_in : List Word → List (SignedBy Answer)
replies_in [] = []
replies_in (words.Reply a ∷ ws) = a ∷ replies_in ws
replies_in (words.View i ∷ ws) = replies_in ws

-- an acceptance of a reply to a given request, in one of some views; the members of the view that gave the reply are a quorum
pub record IsGiven (views : List View) (q : Request) (replies : List (SignedBy Answer)) (a : Acceptance) : Type 0 where
  pub view : View
  pub known : Among view views
  pub request : a.request ≡ q
  pub stated : a.view ≡ view.number
  pub enough : quorum view ≤ weight_of view (filter (has_given replies a) view.members)

-- an origin that is a member's node
abbrev pub is_of : ℕ → Origin → Bool
is_of member (origins.Node id) = id == member
is_of member (origins.Client id) = false
is_of member origins.Script = false

-- addressees among which a client is
abbrev pub is_for : ℕ → List Party → Bool
is_for client to = list_any (same_party (parties.Client client)) to

-- a content that is a member's reply with its tag, and the accepted one
abbrev pub is_reply_of : ℕ → Acceptance → Content → Bool
is_reply_of member a content =
    some_of (λ (r : SignedBy Answer). (r.signer == member) && is_verified answers group_secret r && is_reply a r) (reply_of content)

-- a member that sent a client the accepted reply; if the member is faulty, a script may have injected it
abbrev pub has_replied : List ℕ → List Sent → Acceptance → ℕ → Bool
has_replied faulty sent a member =
    list_any (λ s. is_reply_of member a s.content && (is_among faulty member || (is_of member s.origin && is_for a.request.client s.to))) sent

-- an acceptance whose reply a quorum of members has sent, in the view that it states, one of some views
pub record QuorumReplied (views : List View) (faulty : List ℕ) (sent : List Sent) (a : Acceptance) : Type 0 where
  pub view : View
  pub known : Among view views
  pub stated : a.view ≡ view.number
  pub enough : quorum view ≤ weight_of view (filter (has_replied faulty sent a) view.members)

-- a world in which a quorum has sent each accepted reply, in a view of the list
pub record QuorumsReplied {S : Type 0} (w : World S) : Type 0 where
  pub each : Each (QuorumReplied (views_after w.view w.chosen) w.faulty w.sent) w.accepted

-- the entries that a message rests on

-- a content that is a message and rests on entries of a book
abbrev pub IsRested : List LogEntry → Content → Type 0
IsRested entries (contents.Message message) = RestsOn entries message
IsRested entries (contents.Raw bytes) = ⊥

-- a host of a member whose firm entries, over all its lives, bear a content
pub record Bears {S : Type 0} (id : ℕ) (content : Content) (h : Host S) : Type 0 where
  pub member : h.node.id ≡ id
  pub rested : IsRested h.life.diary content

-- a content that a host of a member among these bears
abbrev pub IsBorneAt : {S : Type 0} → List (Host S) → ℕ → Content → Type 0
IsBorneAt [] id content = ⊥
IsBorneAt (h ∷ hosts) id content = Bears id content h ⊎ IsBorneAt hosts id content

-- a content that firm entries bear, if a node sent it
abbrev pub IsBorne : {S : Type 0} → List (Host S) → Origin → Content → Type 0
IsBorne hosts (origins.Node id) content = IsBorneAt hosts id content
IsBorne hosts (origins.Client id) content = Unit {0}
IsBorne hosts origins.Script content = Unit {0}

-- A world in which each message is one that its origin may send. A node's vote, reply or report rests on entries that became firm there.
pub record SentFirm {S : Type 0} (w : World S) : Type 0 where
  pub own : Each (λ s. IsOwnSent (views_after w.view w.chosen) s.origin s.to s.content) w.sent
  pub borne : Each (λ s. IsBorne w.hosts s.origin s.content) w.sent
