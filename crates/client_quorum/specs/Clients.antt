-- What a client asks, and when it accepts a reply.
use Rattle.std.specs.Prelude.{ℕ, ◌≡◌, ◌+◌, ◌==◌, nat_le, Bool, false, not, ◌&&◌, List, [], ◌∷◌, ◌++◌, filter, if◌then◌else◌, Option, Some, None, option_map, max}
use Rattle.std.specs.List.{list_any}
use Rattle.smart_base.specs.Lists.{same_bytes}
use Rattle.smart_base.specs.Views.{View, weight_of, quorum, is_member}
use Rattle.smart_statements.specs.Forms.{SignedBy}
use Rattle.smart_statements.specs.Kinds.{answers}
use Rattle.smart_statements.specs.declared.statement.Request.{Request}
use Rattle.smart_statements.specs.declared.statement.Answer.{Answer}
use Rattle.certificates.specs.Collects.{view_numbered}
use Rattle.replica_rules.specs.Seals.{is_verified}
use Rattle.client_quorum.specs.declared.asking.AskError.{AskError}
use Rattle.client_quorum.specs.declared.asking.AskError.TheVariants.{Busy, NoMemory}
use Rattle.client_quorum.specs.declared.client.Client.{Client}
use Rattle.client_quorum.specs.declared.client.Acceptance.{Acceptance}
use Rattle.client_quorum.specs.declared.client.Ignored.{Ignored}
use Rattle.client_quorum.specs.declared.client.Ignored.TheVariants as reasons
use Rattle.client_quorum.specs.declared.client.Heard.{Heard}
use Rattle.client_quorum.specs.declared.client.Heard.TheVariants as hears

-- a client that has not asked, and knows one view
abbrev pub fresh : View → ℕ → Client
fresh view id = record { id = id; last = 0; waiting = None; seen = 0; replies = []; views = view ∷ []; infos = [] }

-- the view of a number, if the client knows it
abbrev pub known : Client → ℕ → Option View
known c number = view_numbered c.views number

-- the next request of a client: its number, and the greatest place that the client knows
abbrev pub request_of : Client → List ℕ → Request
request_of c op = record { client = c.id; seq = c.last + 1; after = c.seen; op = op }

-- the client after it has learned of a place
abbrev pub learning : Client → ℕ → Client
learning c place = record c { seen = max c.seen place }

-- the client after it has asked: the request waits for its reply
abbrev pub asking : Client → Request → Client
asking c q = record c { last = q.seq; waiting = Some q; replies = [] }

-- the reason for which a client does not ask: a request waits, whose number is told, or want of memory
abbrev pub Refuses : Client → AskError → Type 0
Refuses c (Busy seq) = option_map (λ q. q.seq) c.waiting ≡ Some seq
Refuses c NoMemory = c.waiting ≡ None

-- two replies that are the same but for the member
abbrev pub same_answer : Answer → Answer → Bool
same_answer a b = (a.view == b.view) && (a.place == b.place) && (a.index == b.index) && same_bytes a.reply b.reply

-- a member that gave a reply
abbrev pub has_answer : List (SignedBy Answer) → Answer → ℕ → Bool
has_answer replies a member = list_any (λ r. (r.signer == member) && same_answer r.statement a) replies

-- the weight of the members that gave a reply
abbrev pub have : View → List (SignedBy Answer) → Answer → ℕ
have v replies a = weight_of v (filter (has_answer replies a) v.members)

-- a reply to the waiting request
abbrev pub is_waited_for : Option Request → Answer → Bool
is_waited_for None a = false
is_waited_for (Some q) a = (q.client == a.client) && (q.seq == a.seq)

-- the first reason for which a client does not count a reply to its waiting request: by the view that the reply states, if the client knows it
abbrev pub why_uncounted : Option View → Client → SignedBy Answer → Option Ignored
why_uncounted None c a = Some reasons.UnknownView
why_uncounted (Some v) c a =
    if not (is_member v a.signer) then Some reasons.Stranger
    else if list_any (λ r. r.signer == a.signer) c.replies then Some reasons.Repeated
    else None

-- the first reason for which a client ignores a reply
unfoldable pub why_ignored : List ℕ → Client → SignedBy Answer → Option Ignored
why_ignored secret c a =
    if not (is_verified answers secret a) then Some reasons.BadTag
    else if not (is_waited_for c.waiting a.statement) then Some reasons.Settled
    else why_uncounted (known c a.statement.view) c a

-- the acceptance of a reply to a request
abbrev pub acceptance : Request → Answer → Acceptance
acceptance q a = record { request = q; view = a.view; place = a.place; index = a.index; reply = a.reply }

-- What a client makes of a reply that counts: it accepts the reply if a quorum has given it, this member among them. They are members of the
-- view that the reply states.
abbrev pub count_heard : View → Client → SignedBy Answer → Request → Heard
count_heard v c a q =
    if nat_le (quorum v) (have v (c.replies ++ a ∷ []) a.statement)
    then hears.Accepted (acceptance q a.statement)
    else hears.Counted (have v (c.replies ++ a ∷ []) a.statement) (quorum v)

-- what a client makes of a reply, by the reason to ignore it, by the request that waits and by the view that the reply states
abbrev pub heard_unless : Client → SignedBy Answer → Option Ignored → Option Request → Option View → Heard
heard_unless c a (Some why) waiting found = hears.Ignored why
heard_unless c a None None found = hears.Ignored reasons.Settled
heard_unless c a None (Some q) None = hears.Ignored reasons.UnknownView
heard_unless c a None (Some q) (Some v) = count_heard v c a q

-- what a client makes of a reply
unfoldable pub heard : List ℕ → Client → SignedBy Answer → Heard
heard secret c a = heard_unless c a (why_ignored secret c a) c.waiting (known c a.statement.view)

-- the client after it heard a reply
abbrev pub after_heard : Client → SignedBy Answer → Heard → Client
after_heard c a (hears.Counted count need) = record c { replies = c.replies ++ a ∷ [] }
after_heard c a (hears.Accepted acceptance) = record c { waiting = None; seen = max c.seen a.statement.place; replies = [] }
after_heard c a (hears.Viewed count need) = c
after_heard c a (hears.Moved number) = c
after_heard c a (hears.Ignored why) = c
