-- What a client accepts, and what a member's word does to it.
use Rattle.std.proofs.Common.{◌≡◌, ℕ, ◌++◌, ◌==◌, Bool, true, false, not, List, [], ◌∷◌, refl, cond, max, Option, Some, None, nat_le, subst, eqb-true, inl, inr, ◌⊎◌}
use Rattle.std.specs.List.{list_any}
use Rattle.smart_base.specs.Views.{View, quorum, is_member}
use Rattle.smart_statements.specs.Forms.{SignedBy}
use Rattle.smart_statements.specs.Kinds.{answers}
use Rattle.smart_statements.specs.declared.statement.Request.{Request}
use Rattle.smart_statements.specs.declared.statement.Answer.{Answer}
use Rattle.smart_messages.specs.declared.regency.ViewInfo.{ViewInfo}
use Rattle.replica_rules.specs.Seals.{is_verified}
use Rattle.world_rules.specs.Secrets.{group_secret}
use Rattle.client_quorum.specs.Clients as clients
use Rattle.client_quorum.specs.Clients.{have, is_waited_for, known, acceptance, why_uncounted, heard_unless, after_heard}
use Rattle.client_quorum.specs.Readings.{after_word}
use Rattle.client_quorum.specs.ViewWords as tellings
use Rattle.client_quorum.specs.ViewWords.{why_untold, told_unless, after_told}
use Rattle.world_rules.specs.Clients.{why_ignored, heard, told, heard_word}
use Rattle.world_rules.specs.Worlds.{acceptance_in, told_heard}
use Rattle.client_quorum.specs.declared.client.Client.{Client}
use Rattle.client_quorum.specs.declared.client.Acceptance.{Acceptance}
use Rattle.client_quorum.specs.declared.client.Ignored.{Ignored}
use Rattle.client_quorum.specs.declared.client.Ignored.TheVariants as reasons
use Rattle.client_quorum.specs.declared.client.Heard.{Heard}
use Rattle.client_quorum.specs.declared.client.Heard.TheVariants as hears
use Rattle.client_quorum.specs.declared.client.Word.{Word}
use Rattle.client_quorum.specs.declared.client.Word.TheVariants as words
use Rattle.node_laws.proofs.Views.{HasNumber, numbered_has}
use Rattle.smart_base.proofs.SameLists.{and_true}
use Rattle.world_laws.proofs.Keeps.{IsAside}

-- the reply bears its member's tag and counts for the request that waits, in the view that it states
pub record CountsFor (v : View) (c : Client) (a : SignedBy Answer) (q : Request) : Type 0 where
  pub tagged : is_verified answers group_secret a ≡ true
  pub waits : c.waiting ≡ Some q
  pub client : q.client ≡ a.statement.client
  pub seq : q.seq ≡ a.statement.seq
  pub view : known c a.statement.view ≡ Some v
  pub member : is_member v a.signer ≡ true
  pub first : list_any (λ r. r.signer == a.signer) c.replies ≡ false

-- what was accepted is the reply to the request that waits, and a quorum gave it, in a view that the client knows
pub record Accepts (c : Client) (a : SignedBy Answer) (acc : Acceptance) : Type 0 where
  pub request : Request
  pub view : View
  pub counts : CountsFor view c a request
  pub is : acc ≡ acceptance request a.statement
  pub enough : nat_le (quorum view) (have view (c.replies ++ a ∷ []) a.statement) ≡ true

-- where no reason applies, the first does not, and none of the others
test_passed : {A : Type 0} (t : Bool) (x : A) (rest : Option A) → cond (not t) (Some x) rest ≡ None → (t ≡ true) × (rest ≡ None)
test_passed true x rest none = (refl, none)
test_passed false x rest none = absurd (cc)

-- where the last reason gives none, its test has failed
test_failed : {A : Type 0} (t : Bool) (x : A) → cond t (Some x) None ≡ None → t ≡ false
test_failed true x none = absurd (cc)
test_failed false x none = refl

-- a reply that no reason ignores counts for the request that waits
pub counts_where_not_ignored : (v : View) (c : Client) (a : SignedBy Answer) (q : Request) → c.waiting ≡ Some q → known c a.statement.view ≡ Some v → why_ignored c a ≡ None → CountsFor v c a q
unfolding clients.why_ignored
counts_where_not_ignored v c a q waits view none =
    let tag = test_passed (is_verified answers group_secret a) reasons.BadTag _ none in
    let one = test_passed (is_waited_for c.waiting a.statement) reasons.Settled _ tag.1 in
    let counted : why_uncounted (Some v) c a ≡ None = subst (λ (found : Option View). why_uncounted found c a ≡ None) view one.1 in
    let two = test_passed (is_member v a.signer) reasons.Stranger _ counted in
    let own = and_true (q.client == a.statement.client) (q.seq == a.statement.seq) (subst (λ (waiting : Option Request). is_waited_for waiting a.statement ≡ true) waits one.0) in
    record {
      tagged = tag.0;
      waits = waits;
      client = eqb-true q.client a.statement.client own.0;
      seq = eqb-true q.seq a.statement.seq own.1;
      view = view;
      member = two.0;
      first = test_failed (list_any (λ r. r.signer == a.signer) c.replies) reasons.Repeated two.1;
    }

-- the view is one that the client knows, of the number that the reply states
pub counts_has : (v : View) (c : Client) (a : SignedBy Answer) (q : Request) → CountsFor v c a q → HasNumber c.views a.statement.view v
counts_has v c a q counts = numbered_has c.views a.statement.view v counts.view

-- a reply is accepted where enough members gave it
accepted_where_enough : (t : Bool) (x acc : Acceptance) (count need : ℕ) → cond t (hears.Accepted x) (hears.Counted count need) ≡ hears.Accepted acc → (t ≡ true) × (acc ≡ x)
accepted_where_enough true x acc count need same = (refl, cc)
accepted_where_enough false x acc count need same = absurd (cc)

-- what is accepted, by reason, by waiting request and by view
accepts_unless : (c : Client) (a : SignedBy Answer) (acc : Acceptance) (why : Option Ignored) (waiting : Option Request) (found : Option View) → why_ignored c a ≡ why → c.waiting ≡ waiting
    → known c a.statement.view ≡ found → heard_unless c a why waiting found ≡ hears.Accepted acc → Accepts c a acc
accepts_unless c a acc (Some why) waiting found fine waits view same = absurd (cc)
accepts_unless c a acc None None found fine waits view same = absurd (cc)
accepts_unless c a acc None (Some q) None fine waits view same = absurd (cc)
accepts_unless c a acc None (Some q) (Some v) fine waits view same =
    let enough = accepted_where_enough (nat_le (quorum v) (have v (c.replies ++ a ∷ []) a.statement)) (acceptance q a.statement) acc (have v (c.replies ++ a ∷ []) a.statement) (quorum v) same in
    record { request = q; view = v; counts = counts_where_not_ignored v c a q waits view fine; is = enough.1; enough = enough.0 }

-- a client accepts nothing but a reply to its waiting request, and that where a quorum of members gave it
pub accepts_waiting : (c : Client) (a : SignedBy Answer) (acc : Acceptance) → heard c a ≡ hears.Accepted acc → Accepts c a acc
unfolding clients.heard
accepts_waiting c a acc same = accepts_unless c a acc (why_ignored c a) c.waiting (known c a.statement.view) refl refl refl same

-- it accepts no statement of a view
none_told : (c : Client) (i : SignedBy ViewInfo) (acc : Acceptance) → told c i ≡ hears.Accepted acc → ⊥
unfolding tellings.told
none_told c i acc same = by (why_untold group_secret c i) same
  where
    by_count : (t : Bool) (number have need : ℕ) → cond t (hears.Moved number) (hears.Viewed have need) ≡ hears.Accepted acc → ⊥
    by_count true number have need same = cc
    by_count false number have need same = cc

    by : (why : Option Ignored) → told_unless c i why ≡ hears.Accepted acc → ⊥
    by (Some why) same = cc
    by None same = by_count _ _ _ _ same

-- ---- what a word does

-- The client stays as it is, but for the replies, the views and the statements of views that it keeps. It accepts nothing, and tells nothing of
-- what it knows.
pub record Stays (c : Client) (h : Heard) (after : Client) : Type 0 where
  pub replies : List (SignedBy Answer)
  pub views : List View
  pub infos : List (SignedBy ViewInfo)
  pub next : after ≡ record c { replies = replies; views = views; infos = infos }
  pub none : acceptance_in h ≡ []
  pub line : (id : ℕ) → IsAside (told_heard id h)

-- the word is a reply, and the client accepts it
pub record Takes (c : Client) (word : Word) (h : Heard) (after : Client) : Type 0 where
  pub reply : SignedBy Answer
  pub word_is : word ≡ words.Reply reply
  pub acceptance : Acceptance
  pub heard_is : h ≡ hears.Accepted acceptance
  pub accepts : Accepts c reply acceptance
  pub next : after ≡ record c { waiting = None; seen = max c.seen reply.statement.place; replies = [] }

abbrev pub Does : Client → Word → Heard → Client → Type 0
Does c word h after = Stays c h after ⊎ Takes c word h after

same-stays : (c : Client) (h : Heard) → acceptance_in h ≡ [] → ((id : ℕ) → IsAside (told_heard id h)) → Stays c h c
same-stays c h none line = record { replies = c.replies; views = c.views; infos = c.infos; next = refl; none = none; line = line }

reply_does : (c : Client) (a : SignedBy Answer) (h : Heard) → heard c a ≡ h → Does c (words.Reply a) h (after_heard c a h)
reply_does c a (hears.Counted count need) is = inl (record { replies = c.replies ++ a ∷ []; views = c.views; infos = c.infos; next = refl; none = refl; line = λ id. tt })
reply_does c a (hears.Accepted acc) is = inr (record { reply = a; word_is = refl; acceptance = acc; heard_is = refl; accepts = accepts_waiting c a acc is; next = refl })
reply_does c a (hears.Viewed count need) is = inl (same-stays c (hears.Viewed count need) refl (λ id. tt))
reply_does c a (hears.Moved number) is = inl (same-stays c (hears.Moved number) refl (λ id. tt))
reply_does c a (hears.Ignored why) is = inl (same-stays c (hears.Ignored why) refl (λ id. tt))

view_does : (c : Client) (i : SignedBy ViewInfo) (h : Heard) → told c i ≡ h → Does c (words.View i) h (after_told c i h)
view_does c i (hears.Counted count need) is = inl (same-stays c (hears.Counted count need) refl (λ id. tt))
view_does c i (hears.Accepted acc) is = absurd (none_told c i acc is)
view_does c i (hears.Viewed count need) is =
    inl (record { replies = c.replies; views = c.views; infos = tellings.with_info c.infos i; next = refl; none = refl; line = λ id. tt })
view_does c i (hears.Moved number) is =
    inl (record { replies = c.replies; views = c.views ++ i.statement.view ∷ []; infos = tellings.with_info c.infos i; next = refl; none = refl; line = λ id. tt })
view_does c i (hears.Ignored why) is = inl (same-stays c (hears.Ignored why) refl (λ id. tt))

-- each word does one of both
pub word_does : (c : Client) (word : Word) → Does c word (heard_word c word) (after_word c word (heard_word c word))
word_does c (words.Reply a) = reply_does c a (heard c a) refl
word_does c (words.View i) = view_does c i (told c i) refl
