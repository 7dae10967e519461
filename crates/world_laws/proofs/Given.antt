-- What a client accepts, a quorum of members gave it, whatever it hears.
use Rattle.std.proofs.Common.{◌≡◌, ℕ, ◌≤◌, ◌++◌, ◌==◌, Bool, true, false, not, ◌&&◌, List, [], ◌∷◌, length, filter, refl, ap, ◌∙◌, sym, arith, cond, Option, Some, None, nat_le, subst, eq-eqb, eqb-true, inl, inr}
use Rattle.std.proofs.lemmas.Bool.{leb-true, or_left, or_right, and_from}
use Rattle.std.specs.List.{list_any}
use Rattle.smart_base.specs.Lists.{Each, same_bytes}
use Rattle.smart_base.specs.Views.{View, weight_of, quorum}
use Rattle.smart_statements.specs.Forms.{SignedBy}
use Rattle.smart_statements.specs.Kinds as kinds
use Rattle.smart_statements.specs.declared.statement.Request.{Request}
use Rattle.smart_statements.specs.declared.statement.Answer.{Answer}
use Rattle.smart_messages.specs.Regencies.{view_infos}
use Rattle.smart_messages.specs.declared.regency.ViewInfo.{ViewInfo}
use Rattle.replica_rules.specs.Seals.{is_verified}
use Rattle.world_rules.specs.Secrets.{group_secret}
use Rattle.client_quorum.specs.Clients as clients
use Rattle.client_quorum.specs.Clients.{asking, same_answer, has_answer, have, is_waited_for, known, acceptance, heard_unless, after_heard}
use Rattle.client_quorum.specs.Readings.{after_word}
use Rattle.client_quorum.specs.ViewWords as tellings
use Rattle.client_quorum.specs.ViewWords.{with_info, why_untold, told_unless, after_told}
use Rattle.world_rules.specs.Clients.{why_ignored, heard, told, heard_word}
use Rattle.client_quorum.specs.declared.client.Client.{Client}
use Rattle.client_quorum.specs.declared.client.Word.{Word}
use Rattle.client_quorum.specs.declared.client.Word.TheVariants as words
use Rattle.client_quorum.specs.declared.client.Acceptance.{Acceptance}
use Rattle.client_quorum.specs.declared.client.Ignored.{Ignored}
use Rattle.client_quorum.specs.declared.client.Heard.{Heard}
use Rattle.client_quorum.specs.declared.client.Heard.TheVariants as hears
use Rattle.world_laws.specs.Sending.{is_reply, has_given, hears_all, replies_in, IsGiven}
use Rattle.world_laws.proofs.Hearing.{CountsFor, Accepts, counts_where_not_ignored, accepts_waiting, counts_has}
use Rattle.smart_base.proofs.SameLists.{and_true}
use Rattle.agreement_laws.proofs.Lists.{either, some_equal, each_end, or_true}
use Rattle.smart_base.proofs.ViewFacts.{each-weaken}

-- a reply that a client keeps is one that counts as given, with its signer's tag, to the request that waits
pub record IsKept (Given : SignedBy Answer → Type 0) (waiting : Option Request) (r : SignedBy Answer) : Type 0 where
  pub given : Given r
  pub tagged : is_verified kinds.answers group_secret r ≡ true
  pub waited_for : is_waited_for waiting r.statement ≡ true

-- all replies that it keeps are
abbrev pub ClientKeeps : (SignedBy Answer → Type 0) → Client → Type 0
ClientKeeps Given c = Each (IsKept Given c.waiting) c.replies

-- counting

-- where more pass, the filter leaves no fewer
pub filter_more : {A : Type 0} (p q : A → Bool) → ((x : A) → p x ≡ true → q x ≡ true) → (xs : List A) → length (filter p xs) ≤ length (filter q xs)
filter_more p q more [] = omega arith
filter_more p q more (x ∷ xs) = one (p x) (q x) (more x) (filter_more p q more xs)
  where
    one : (a b : Bool) → (a ≡ true → b ≡ true) → length (filter p xs) ≤ length (filter q xs) → length (cond a (x ∷ filter p xs) (filter p xs)) ≤ length (cond b (x ∷ filter q xs) (filter q xs))
    one true true more le = omega (arith, le)
    one true false more le = absurd (no (more refl))
      where
        no : false ≡ true → ⊥
        no is = cc
    one false true more le = omega (arith, le)
    one false false more le = le

-- a client hears

-- two tests more in front
with_two : (a b c d e f : Bool) → a ≡ true → b ≡ true → (c && d && e && f) ≡ true → (a && b && c && d && e && f) ≡ true
with_two true true c d e f ea eb is = is
with_two true false c d e f ea eb is = absurd (cc)
with_two false b c d e f ea eb is = absurd (cc)

-- a member gave the accepted reply where the client keeps one of its that is equal
kept_reply : (Given : SignedBy Answer → Type 0) (test : ℕ → Bool) (q : Request) (a : Answer) → ((r : SignedBy Answer) → Given r → is_verified kinds.answers group_secret r ≡ true → r.statement.client ≡ q.client → is_reply (acceptance q a) r ≡ true → test r.signer ≡ true)
    → (member : ℕ) (replies : List (SignedBy Answer)) → Each (IsKept Given (Some q)) replies → has_answer replies a member ≡ true → test member ≡ true
kept_reply Given test q a gives member [] kept is = absurd (cc)
kept_reply Given test q a gives member (r ∷ rs) kept is =
    elim (or_true ((r.signer == member) && same_answer r.statement a) (has_answer rs a member) is) [
      | inl here ↦ this here
      | inr later ↦ kept_reply Given test q a gives member rs kept.1 later
    ]
  where
    this : ((r.signer == member) && same_answer r.statement a) ≡ true → test member ≡ true
    this here =
        let parts = and_true (r.signer == member) (same_answer r.statement a) here in
        let waited = and_true (q.client == r.statement.client) (q.seq == r.statement.seq) kept.0.waited_for in
        let client : r.statement.client ≡ q.client = sym (eqb-true q.client r.statement.client waited.0) in
        let seq : r.statement.seq ≡ q.seq = sym (eqb-true q.seq r.statement.seq waited.1) in
        subst (λ (k : ℕ). test k ≡ true) (eqb-true r.signer member parts.0)
        (gives r kept.0.given kept.0.tagged client
        (with_two (r.statement.client == q.client) (r.statement.seq == q.seq) (r.statement.view == a.view) (r.statement.place == a.place) (r.statement.index == a.index) (same_bytes r.statement.reply a.reply)
        (eq-eqb r.statement.client q.client client) (eq-eqb r.statement.seq q.seq seq) parts.1))

-- a reply that counts is to the request that waits
counts_waited : (v : View) (c : Client) (a : SignedBy Answer) (q : Request) → CountsFor v c a q → is_waited_for c.waiting a.statement ≡ true
counts_waited v c a q counts =
    subst (λ (waiting : Option Request). is_waited_for waiting a.statement ≡ true) (sym counts.waits)
    (and_from (q.client == a.statement.client) (q.seq == a.statement.seq) (eq-eqb q.client a.statement.client counts.client) (eq-eqb q.seq a.statement.seq counts.seq))

-- so it is kept
pub kept_last : (Given : SignedBy Answer → Type 0) (v : View) (c : Client) (a : SignedBy Answer) (q : Request) → Given a → CountsFor v c a q → IsKept Given c.waiting a
kept_last Given v c a q given counts = record { given = given; tagged = counts.tagged; waited_for = counts_waited v c a q counts }

-- what a client keeps behind a reply
pub keeps_heard : (Given : SignedBy Answer → Type 0) (c : Client) (a : SignedBy Answer) → Given a → ClientKeeps Given c → ClientKeeps Given (after_heard c a (heard c a))
unfolding clients.heard
keeps_heard Given c a given kept = by (why_ignored c a) c.waiting (known c a.statement.view) refl refl refl
  where
    by : (why : Option Ignored) (waiting : Option Request) (found : Option View) → why_ignored c a ≡ why → c.waiting ≡ waiting → known c a.statement.view ≡ found
        → ClientKeeps Given (after_heard c a (heard_unless c a why waiting found))
    by (Some why) waiting found fine waits view = kept
    by None None found fine waits view = kept
    by None (Some q) None fine waits view = kept
    by None (Some q) (Some v) fine waits view =
        either (λ (h : Heard). ClientKeeps Given (after_heard c a h)) (nat_le (quorum v) (have v (c.replies ++ a ∷ []) a.statement)) _ _ tt
        (each_end (IsKept Given c.waiting) c.replies a kept (kept_last Given v c a q given (counts_where_not_ignored v c a q waits view fine)))

-- a statement of a view changes no reply that is kept
keeps_told : (Given : SignedBy Answer → Type 0) (c : Client) (i : SignedBy ViewInfo) (h : Heard) → ClientKeeps Given c → ClientKeeps Given (after_told c i h)
keeps_told Given c i (hears.Counted count need) kept = kept
keeps_told Given c i (hears.Accepted acc) kept = kept
keeps_told Given c i (hears.Viewed count need) kept = kept
keeps_told Given c i (hears.Moved number) kept = kept
keeps_told Given c i (hears.Ignored why) kept = kept

-- a word that counts as given, if it is a reply
abbrev pub GivenWord : (SignedBy Answer → Type 0) → Word → Type 0
GivenWord Given (words.Reply a) = Given a
GivenWord Given (words.View i) = Unit {0}

pub keeps_word : (Given : SignedBy Answer → Type 0) (c : Client) (word : Word) → GivenWord Given word → ClientKeeps Given c → ClientKeeps Given (after_word c word (heard_word c word))
keeps_word Given c (words.Reply a) given kept = keeps_heard Given c a given kept
keeps_word Given c (words.View i) given kept = keeps_told Given c i (told c i) kept

-- ---- statements of views

-- a statement of a view that a client keeps is one that counts as told, with its signer's tag
pub record IsNoted (Told : SignedBy ViewInfo → Type 0) (i : SignedBy ViewInfo) : Type 0 where
  pub given : Told i
  pub tagged : is_verified view_infos group_secret i ≡ true

-- all that it keeps are
abbrev pub ClientNotes : (SignedBy ViewInfo → Type 0) → Client → Type 0
ClientNotes Told c = Each (IsNoted Told) c.infos

-- a statement that no reason ignores bears its signer's tag
pub tagged_where_counted : (c : Client) (i : SignedBy ViewInfo) → why_untold group_secret c i ≡ None → is_verified view_infos group_secret i ≡ true
unfolding tellings.why_untold
tagged_where_counted c i none = passed (is_verified view_infos group_secret i) _ _ none
  where
    passed : (t : Bool) (x : Ignored) (rest : Option Ignored) → cond (not t) (Some x) rest ≡ None → t ≡ true
    passed true x rest none = refl
    passed false x rest none = absurd (cc)

-- those that are left, and the new one
each_left : {A : Type 0} (P : A → Type 0) (test : A → Bool) (xs : List A) → Each P xs → Each P (filter test xs)
each_left P test [] each = tt
each_left P test (x ∷ xs) each = either (λ ys. Each P ys) (test x) (x ∷ filter test xs) (filter test xs) (each.0, each_left P test xs each.1) (each_left P test xs each.1)

pub noted_with : (Told : SignedBy ViewInfo → Type 0) (infos : List (SignedBy ViewInfo)) (i : SignedBy ViewInfo) → Each (IsNoted Told) infos → IsNoted Told i → Each (IsNoted Told) (with_info infos i)
noted_with Told infos i each last = each_end (IsNoted Told) (filter (λ k. not (k.signer == i.signer)) infos) i (each_left (IsNoted Told) (λ k. not (k.signer == i.signer)) infos each) last

-- what a client keeps behind a statement of a view
pub notes_told : (Told : SignedBy ViewInfo → Type 0) (c : Client) (i : SignedBy ViewInfo) → Told i → ClientNotes Told c → ClientNotes Told (after_told c i (told c i))
unfolding tellings.told
notes_told Told c i given notes = by (why_untold group_secret c i) refl
  where
    by : (why : Option Ignored) → why_untold group_secret c i ≡ why → ClientNotes Told (after_told c i (told_unless c i why))
    by (Some why) fine = notes
    by None fine =
        let more : Each (IsNoted Told) (with_info c.infos i) = noted_with Told c.infos i notes (record { given = given; tagged = tagged_where_counted c i fine }) in
        either (λ (h : Heard). ClientNotes Told (after_told c i h)) _ (hears.Moved i.statement.view.number) (hears.Viewed _ _) more more

-- what a client accepts, a quorum gave
pub quorum_gave : (Given : SignedBy Answer → Type 0) (test : Acceptance → ℕ → Bool) → ((q : Request) (a : Answer) (r : SignedBy Answer) → Given r → is_verified kinds.answers group_secret r ≡ true → r.statement.client ≡ q.client → is_reply (acceptance q a) r ≡ true → test (acceptance q a) r.signer ≡ true)
    → (c : Client) (a : SignedBy Answer) (acc : Acceptance) → Given a → ClientKeeps Given c → (taken : Accepts c a acc) → quorum taken.view ≤ weight_of taken.view (filter (test acc) taken.view.members)
quorum_gave Given test gives c a acc given kept taken =
    let q : Request = taken.request in
    let v : View = taken.view in
    let last : IsKept Given c.waiting a = kept_last Given v c a q given taken.counts in
    let all : Each (IsKept Given (Some q)) (c.replies ++ a ∷ []) =
    subst (λ (waiting : Option Request). Each (IsKept Given waiting) (c.replies ++ a ∷ [])) taken.counts.waits (each_end (IsKept Given c.waiting) c.replies a kept last) in
    let enough : quorum v ≤ weight_of v (filter (has_answer (c.replies ++ a ∷ []) a.statement) v.members) = leb-true (quorum v) (have v (c.replies ++ a ∷ []) a.statement) taken.enough in
    subst (λ (b : Acceptance). quorum v ≤ weight_of v (filter (test b) v.members)) (sym taken.is)
    (omega (
      arith,
      enough,
      filter_more (has_answer (c.replies ++ a ∷ []) a.statement) (test (acceptance q a.statement))
          (λ member is. kept_reply Given (test (acceptance q a.statement)) q a.statement (gives q a.statement) member (c.replies ++ a ∷ []) all is) v.members,
    ))

-- a client that hears whatever comes

-- a reply is among those that were heard
abbrev AmongHeard : List (SignedBy Answer) → SignedBy Answer → Type 0
AmongHeard answers r = (p : SignedBy Answer → Bool) → p r ≡ true → list_any p answers ≡ true

-- each of them is
each_among : (answers : List (SignedBy Answer)) → Each (AmongHeard answers) answers
each_among [] = tt
each_among (a ∷ answers) =
    (λ p is. or_left (p a) (list_any p answers) is, each-weaken (AmongHeard answers) (AmongHeard (a ∷ answers)) (λ r among. λ p is. or_right (p a) (list_any p answers) (among p is)) answers (each_among answers))

-- no request waits but one
abbrev WaitsFor : Request → Client → Type 0
WaitsFor q c = (other : Request) → c.waiting ≡ Some other → other ≡ q

-- a reply brings no request to wait
waits_heard : (q : Request) (c : Client) (a : SignedBy Answer) (h : Heard) → WaitsFor q c → WaitsFor q (after_heard c a h)
waits_heard q c a (hears.Counted count need) waits = waits
waits_heard q c a (hears.Accepted acc) waits = λ other is. absurd (cc)
waits_heard q c a (hears.Viewed count need) waits = waits
waits_heard q c a (hears.Moved number) waits = waits
waits_heard q c a (hears.Ignored why) waits = waits

-- nor does a statement of a view
waits_told : (q : Request) (c : Client) (i : SignedBy ViewInfo) (h : Heard) → WaitsFor q c → WaitsFor q (after_told c i h)
waits_told q c i (hears.Counted count need) waits = waits
waits_told q c i (hears.Accepted acc) waits = waits
waits_told q c i (hears.Viewed count need) waits = waits
waits_told q c i (hears.Moved number) waits = waits
waits_told q c i (hears.Ignored why) waits = waits

waits_word : (q : Request) (c : Client) (word : Word) (h : Heard) → WaitsFor q c → WaitsFor q (after_word c word h)
waits_word q c (words.Reply a) h waits = waits_heard q c a h waits
waits_word q c (words.View i) h waits = waits_told q c i h waits

-- words of which the replies count as given
given_words : (Given : SignedBy Answer → Type 0) (ws : List Word) → Each Given (replies_in ws) → Each (GivenWord Given) ws
given_words Given [] given = tt
given_words Given (words.Reply a ∷ ws) given = (given.0, given_words Given ws given.1)
given_words Given (words.View i ∷ ws) given = (tt, given_words Given ws given)

-- what a client keeps behind words, and what it waits for
keeps_all : (Given : SignedBy Answer → Type 0) (q : Request) (c : Client) (ws : List Word) → Each (GivenWord Given) ws → ClientKeeps Given c × WaitsFor q c → ClientKeeps Given (hears_all c ws) × WaitsFor q (hears_all c ws)
keeps_all Given q c [] given is = is
keeps_all Given q c (word ∷ ws) given is =
    keeps_all Given q (after_word c word (heard_word c word)) ws given.1 (keeps_word Given c word given.0 is.0, waits_word q c word (heard_word c word) is.1)

-- a front of a list
each_front : {A : Type 0} (P : A → Type 0) (xs : List A) (x : A) → Each P (xs ++ x ∷ []) → Each P xs × P x
each_front P [] x each = (tt, each.0)
each_front P (y ∷ xs) x each = let rest = each_front P xs x each.1 in ((each.0, rest.0), rest.1)

-- whatever a client hears, what it accepts is to its request, and a quorum gave it, in the view that it states, one that the client knows
pub quorum_given : (c : Client) (q : Request) (ws : List Word) (a : SignedBy Answer) (acc : Acceptance)
    → heard (hears_all (asking c q) ws) a ≡ hears.Accepted acc → IsGiven (hears_all (asking c q) ws).views q (replies_in ws ++ a ∷ []) acc
quorum_given c q ws a acc is =
    let given : List (SignedBy Answer) = replies_in ws ++ a ∷ [] in
    let Given : SignedBy Answer → Type 0 = AmongHeard given in
    let client : Client = hears_all (asking c q) ws in
    let parts = each_front Given (replies_in ws) a (each_among given) in
    let first : WaitsFor q (asking c q) = λ other waits. sym (some_equal q other waits) in
    let kept : ClientKeeps Given client × WaitsFor q client = keeps_all Given q (asking c q) ws (given_words Given ws parts.0) (tt, first) in
    let taken : Accepts client a acc = accepts_waiting client a acc is in
    let has = counts_has taken.view client a taken.request taken.counts in
    let states : acc.view ≡ a.statement.view = ap (λ (b : Acceptance). b.view) taken.is in
    record {
      view = taken.view;
      known = has.there;
      request = ap (λ (b : Acceptance). b.request) taken.is ∙ kept.1 taken.request taken.counts.waits;
      stated = states ∙ sym has.number_is;
      enough = quorum_gave Given (has_given given)
          (λ q' a' r among tagged own is_it.
          among (λ x. (x.signer == r.signer) && is_verified kinds.answers group_secret x && is_reply (acceptance q' a') x)
          (and_from ((r.signer == r.signer) && is_verified kinds.answers group_secret r) (is_reply (acceptance q' a') r)
          (and_from (r.signer == r.signer) (is_verified kinds.answers group_secret r) (eq-eqb r.signer r.signer refl) tagged) is_it))
          client a acc parts.1 kept.0 taken;
    }
