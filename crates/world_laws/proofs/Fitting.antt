-- Each message that is sent in a play over a view is read as itself, and its statements bear the tags of their signers.
use Rattle.std.proofs.Common.{◌≡◌, ap, sym, ◌∙◌, ℕ, zero, suc, ◌+◌, ◌*◌, ◌^◌, ◌<◌, ◌≤◌, ◌&&◌, true, List, [], ◌∷◌, length, refl, subst, take, Option, Some, None, nat_lt, nat_le, inl, inr, arith, Result, Ok, Err, length-append}
use Rattle.std.proofs.lemmas.Bool.{ltb-true, leb-true}
use Rattle.std.specs.Prelude.{IfSome, slice_get}
use Rattle.smart_base.specs.Lists.{Each}
use Rattle.smart_base.specs.Views.{View, ascends, is_view}
use Rattle.smart_statements.specs.Forms.{SignedBy}
use Rattle.smart_messages.specs.Messages.{spelling, Fits, decoded, FitsContent}
use Rattle.smart_messages.specs.Regencies.{view_infos, view_info_short}
use Rattle.smart_messages.specs.declared.message.Message.{Message}
use Rattle.smart_statements.specs.Spelling.{IsSigner, FitsRequest}
use Rattle.smart_statements.specs.Spelling as spells
use Rattle.smart_statements.specs.Reports as spells_report
use Rattle.smart_statements.specs.Reports.{marks}
use Rattle.smart_messages.proofs.Messages.{spelling_is}
use Rattle.smart_statements.specs.declared.statement.Request.{Request}
use Rattle.smart_statements.specs.declared.statement.Answer.{Answer}
use Rattle.smart_messages.specs.declared.message.Message.TheVariants.{Reply, Ask, Propose, Vote}
use Rattle.smart_messages.specs.declared.message.Message.TheVariants as changes
use Rattle.smart_statements.specs.declared.entry.NodeEvent.{NodeEvent}
use Rattle.smart_statements.specs.declared.entry.NodeEvent.TheVariants.{Arrive, Tick, Deliver, Firm}
use Rattle.smart_service.specs.Services.{Meaning}
use Rattle.node_rules.specs.Steps.{Outcome, step_of, takes_in, leaving}
use Rattle.node_rules.specs.declared.node.Held.{Held}
use Rattle.client_quorum.specs.Clients.{request_of, asking, learning}
use Rattle.world_rules.specs.Clients.{heard_word}
use Rattle.world_rules.specs.Worlds.{course_of, store_after, Host, Life, World, host_crashed, host_resumed, posts, sends_all, host_after, stepped, hearing, hosts_from, clients_from, begun, new_host}
use Rattle.client_quorum.specs.declared.client.Client.{Client}
use Rattle.client_quorum.specs.declared.client.Heard.{Heard}
use Rattle.world_rules.specs.declared.message.Origin.{Origin}
use Rattle.world_rules.specs.declared.message.Origin.TheVariants as origins
use Rattle.world_rules.specs.declared.message.Sent.{Sent}
use Rattle.replica_laws.specs.Sending.{orders}
use Rattle.world_laws.specs.Sending.{AllGenuine, IsReadIfShort, IsHeardAs, IsReadAs, IsGenuineContent, IsGenuineFrom}
use Rattle.world_laws.proofs.Lists.{each_set, each_get, each_insert}
use Rattle.world_laws.proofs.Keeps.{with_host, node_resumed, after_call, MayCome, read_whole, read_fits, long_unread, ask_of, asked_by, KeepsBut, by-posts, ReadsSent, signed_by, OwnWaits, from_node, from_client, HasContent, IsRead, from_script, IsNew, added, message_of, word_has, HasMessage}
use Rattle.smart_statements.specs.Kinds.{requests, proposals, ballots, answers}
use Rattle.smart_statements.specs.Statements.{request_small}
use Rattle.replica_rules.specs.Seals.{signed}
use Rattle.world_rules.specs.Secrets.{group_secret}
use Rattle.replica_laws.proofs.Genuine.{IsGood, signed-length, good-genuine, signed-verified, signed-fits, ask-good}
use Rattle.replica_laws.proofs.FitNodes.{FitsEvent, FitsSnapshot, Settled, Settles, fit-released}
use Rattle.replica_laws.proofs.Small.{IsBrief, IsSmall, small-fits}
use Rattle.replica_laws.proofs.FitNodes as nodes
use Rattle.replica_laws.proofs.FitBooks.{FitBook, spelled-step, spelled-opened}
use Rattle.vote_book.specs.Entries.{FitsEntry}
use Rattle.vote_book.specs.declared.entry.LogEntry.{LogEntry}
use Rattle.node_rules.specs.Nodes.{Node, view_of}
use Rattle.agreement_laws.specs.Statements.{Statement}
use Rattle.world_laws.proofs.Lives.{EachLife, life-weaker, life-firm, life-called, life-crashed}
use Rattle.world_laws.proofs.Reopens.{GoesBehind, node_behind, fit_behind, state-fits}
use Rattle.snapshot_form.specs.Replicas.{IsOfClients}
use Rattle.world_laws.proofs.Snapshots.{AreRestorable, IsSnapshotAt, snapshot_place, snapshot_replica, snapshot_short}
use Rattle.state_transfer.specs.Fetches.{joined_of}
use Rattle.state_transfer.specs.declared.fetch.Fetch.{Fetch}
use Rattle.snapshot_form.specs.Snapshots.{snapshot_text}
use Rattle.node_laws.proofs.Planning.{IsTakenFrom}
use Rattle.node_rules.specs.declared.node.OwnSnapshot.{OwnSnapshot}
use Rattle.replica_rules.specs.Replicas.{state}
use Rattle.smart_service.specs.declared.replica.Replica.{Replica}
use Rattle.world_rules.specs.Fronts.{stated_place}
use Rattle.std.proofs.lemmas.List.{length-take-le}
use Rattle.world_rules.specs.declared.message.Content.{Content}
use Rattle.world_rules.specs.declared.message.Content.TheVariants as contents
use Rattle.replica_laws.proofs.Waiting.{each-leaving}
use Rattle.smart_base.proofs.SameLists.{and_true}
use Rattle.agreement_laws.proofs.Lists.{some_equal, each_end, each_both, each_take}
use Rattle.smart_base.proofs.ViewFacts.{each-weaken}
use Rattle.node_rules.proofs.Rulewise.{ForRead}
use Rattle.smart_statements.specs.Batches.{Batch, batch_text}
use Rattle.world_rules.specs.declared.line.Header.{Header}
use Rattle.world_laws.specs.Promises.{IsHeader}
use Rattle.world_laws.proofs.Hearing.{Does, word_does}
use Rattle.client_quorum.specs.Readings.{after_word, word_read, word_in}
use Rattle.client_quorum.specs.declared.client.Word.{Word}
use Rattle.client_quorum.specs.declared.client.Word.TheVariants as words

-- what a client sends has a spelling
pub record FitClient (c : Client) : Type 0 where
  pub named : c.id < 2 ^ 16
  pub seen : c.seen < 2 ^ 64
  pub waits : (q : Request) → c.waiting ≡ Some q → FitsRequest c.id q

-- a request that a client asks, with its tag
abbrev signed_as : ℕ → Request → Message
signed_as id q = Ask (signed requests group_secret id q)

-- it has a spelling and bears its tag
pub client-good : (id : ℕ) (q : Request) → FitsRequest id q → IsGood group_secret (signed_as id q)
client-good id q fits =
    ask-good group_secret (signed requests group_secret id q)
    (signed-fits requests FitsRequest group_secret id q (omega arith, subst (λ (k : ℕ). k < 2 ^ 16) fits.client_is fits.client_fits) fits (request_small q fits.op_fits)) (signed-verified requests group_secret id q)

-- what a node or a client sends is a message that has a spelling and bears its signers' tags
abbrev pub IsTaggedContent : Content → Type 0
IsTaggedContent (contents.Message message) = IsGood group_secret message
IsTaggedContent (contents.Raw bytes) = ⊥

abbrev pub IsTaggedFrom : Origin → Content → Type 0
IsTaggedFrom (origins.Node id) content = IsTaggedContent content
IsTaggedFrom (origins.Client id) content = IsTaggedContent content
IsTaggedFrom origins.Script content = Unit {0}

-- an entry has a spelling, and so has what it brings into messages
abbrev pub EntryFits : LogEntry → Type 0
EntryFits e = nodes.FitsEntry group_secret e × FitsEntry e

-- a host of which all has a spelling: what its node holds, and the entries of all lives
pub record FitHost {S : Type 0} (m : Meaning S) (h : Host S) : Type 0 where
  pub node : FitBook m group_secret h.node
  pub life : EachLife EntryFits h.life

-- the entries of its book
pub book_fits : {S : Type 0} {m : Meaning S} (n : Node S) → FitBook m group_secret n → Each EntryFits n.entries
book_fits n is = each_both (nodes.FitsEntry group_secret) FitsEntry EntryFits (λ e one other. (one, other)) n.entries is.node.book is.book

pub spelled-life : (l : Life) → EachLife EntryFits l → EachLife FitsEntry l
spelled-life l is = life-weaker EntryFits FitsEntry (λ e fits. fits.1) l is

-- all that nodes and clients hold has a spelling, and all that was sent is read
pub record AllFit {S : Type 0} (m : Meaning S) (w : World S) : Type 0 where
  pub hosts : Each (FitHost m) w.hosts
  pub clients : Each FitClient w.clients
  pub sent : Each (λ s. IsRead s.content) w.sent
  pub tagged : Each (λ s. IsTaggedFrom s.origin s.content) w.sent

-- a content that was sent is read
pub sent-read : (sent : List Sent) (x : Content) → Each (λ s. IsRead s.content) sent → HasContent sent x → IsRead x
sent-read [] x each has = absurd has
sent-read (s ∷ sent) x each has = elim has [ inl here ↦ subst IsRead here each.0 | inr later ↦ sent-read sent x each.1 later ]

pub fit-reads : {S : Type 0} {m : Meaning S} (w : World S) → AllFit m w → ReadsSent w
fit-reads w is x has = sent-read w.sent x is.sent has

-- and what waits is its client's own
pub fit-owns : {S : Type 0} {m : Meaning S} (w : World S) → AllFit m w → OwnWaits w
fit-owns w is i c q at waits = ((each_get FitClient w.clients i c is.clients at).waits q waits).client_is

-- what may come
pub may-fit : {S : Type 0} {m : Meaning S} (w : World S) (h : Host S) (event : NodeEvent) → AllFit m w → MayCome w h event → FitsEvent event
may-fit w h (Arrive bytes) is may = by (decoded bytes) refl
  where
    by : (read : Result Message ℕ) → decoded bytes ≡ read → ForRead Fits read
    by (Ok y) at = read_whole may.content y (fit-reads w is may.content may.has) (sym (ap (λ b. decoded b) may.spelled) ∙ at)
    by (Err e) at = tt
may-fit w h Tick is may = tt
may-fit w h Deliver is may = tt
may-fit w h (Firm count) is may = tt

-- and what a node makes of it, if what it may take over is small
pub step-fit : {S : Type 0} (m : Meaning S) → IsBrief m → (w : World S) (i : ℕ) (h : Host S) (event : NodeEvent) → slice_get w.hosts i ≡ Some h → MayCome w h event → Settles m (takes_in h.node event).node
    → AllFit m w → FitBook m group_secret (step_of m h.node event).node
step-fit m brief w i h event at may settles is = spelled-step group_secret m brief h.node event (may-fit w h event is may) settles (each_get (FitHost m) w.hosts i h is.hosts at).node

-- a text that is a snapshot of the list is read as a small replica, whose snapshot it is
pub settled-by : {S : Type 0} (m : Meaning S) → IsBrief m → (view : View) (chosen : List Batch) → AreRestorable m view chosen → (f : Fetch) (r : Replica S) → IsSnapshotAt m view chosen (joined_of f)
    → IsTakenFrom m f r → Settled m f r
settled-by {S = S} m brief view chosen may f r at taken =
    let bs : List Batch = take at.place chosen in
    let state_is : state m view bs ≡ r =
    some_equal (state m view bs) r (sym (snapshot_replica m may.service view chosen (joined_of f) may.viewed may.begins may.low may.of at) ∙ taken.read) in
    let long = length-take-le at.place chosen at.within in
    let within = at.within in
    let low = may.low in
    let small : IsSmall m (state m view bs) = small-fits m (state m view bs) (state-fits m brief view bs may.viewed may.begins (omega (arith, long, within, low)) (each_take IsOfClients at.place chosen may.of)) in
    record { small = subst (λ (x : Replica S). IsSmall m x) state_is small; text = at.bytes_is ∙ ap (λ (x : Replica S). snapshot_text m x) state_is }

-- and it may be an own snapshot
pub own-fits : {S : Type 0} (m : Meaning S) (view : View) (chosen : List Batch) → AreRestorable m view chosen → (bytes : List ℕ) → IsSnapshotAt m view chosen bytes
    → FitsSnapshot (record { place = stated_place bytes; snapshot = bytes; needs = 0 })
own-fits m view chosen may bytes at =
    let states = snapshot_place m view chosen bytes may.low at in
    let some = at.some in
    let within = at.within in
    let low = may.low in
    record { place_fits = (omega (arith, states, some), omega (arith, states, within, low)); short = snapshot_short m may.service view chosen bytes may.viewed may.begins may.low may.of at }

-- something is sent
fit-posts : {S : Type 0} {m : Meaning S} (w : World S) (s : Sent) → IsRead s.content → IsTaggedFrom s.origin s.content → AllFit m w → AllFit m (posts w s)
fit-posts {S = S} {m = m} w s read tagged is =
    by-posts (λ (v : World S). AllFit m v) w s
    (λ ending. record { hosts = is.hosts; clients = is.clients; sent = is.sent; tagged = is.tagged })
    (λ free room. record {
      hosts = is.hosts;
      clients = is.clients;
      sent = each_end (λ (t : Sent). IsRead t.content) w.sent s is.sent read;
      tagged = each_end (λ (t : Sent). IsTaggedFrom t.origin t.content) w.sent s is.tagged tagged;
    })

-- messages of a node leave
fit-sends_all : {S : Type 0} {m : Meaning S} (id : ℕ) (view : View) (w : World S) (held : List Held) → Each (λ h. IsGood group_secret h.message) held → AllFit m w → AllFit m (sends_all id view w held)
fit-sends_all id view w [] each is = is
fit-sends_all id view w (h ∷ hs) each is = fit-sends_all id view (posts w (from_node w id view h)) hs each.1 (fit-posts w (from_node w id view h) each.0.fits each.0 is)

-- a host's node takes an event
fit-after : {S : Type 0} (m : Meaning S) (h : Host S) (o : Outcome S) → FitBook m group_secret o.node → FitHost m h → FitHost m (host_after (course_of m) h o)
fit-after m h o fit is = record { node = record { node = fit-released group_secret o.node fit.node; book = fit.book }; life = life-firm EntryFits h.life h.node o.node (book_fits o.node fit) is.life }

fit-stepped : {S : Type 0} (m : Meaning S) (w : World S) (i : ℕ) (h : Host S) (o : Outcome S) → slice_get w.hosts i ≡ Some h → FitBook m group_secret o.node → AllFit m w → AllFit m (stepped (course_of m) w i h o)
unfolding stepped
fit-stepped {S = S} m w i h o at fit is =
    fit-sends_all h.node.id (view_of o.node) _ (leaving o.node.firm o.node.held) (each-leaving (λ (x : Held). IsGood group_secret x.message) o.node.firm o.node.held fit.node.held)
    (record {
      hosts = each_set (FitHost m) w.hosts i (host_after (course_of m) h o) is.hosts (fit-after m h o fit (each_get (FitHost m) w.hosts i h is.hosts at));
      clients = is.clients;
      sent = is.sent;
      tagged = is.tagged;
    })

-- another host stands at an index
fit-set : {S : Type 0} {m : Meaning S} (w : World S) (i : ℕ) (h : Host S) → FitHost m h → AllFit m w → AllFit m (with_host w i h)
fit-set {m = m} w i h fit is = record { hosts = each_set (FitHost m) w.hosts i h is.hosts fit; clients = is.clients; sent = is.sent; tagged = is.tagged }

-- a node goes on over the cut of its member's diary
pub fit-resumes : {S : Type 0} (m : Meaning S) → IsBrief m → (w : World S) (i : ℕ) (h : Host S) (stated : List Statement) (place : ℕ) (checkpoint : Option OwnSnapshot) → slice_get w.hosts i ≡ Some h
    → AreRestorable m w.view w.chosen → w.period < 2 ^ 32 → node_resumed (course_of m) w h ≡ node_behind m group_secret h.node.id w.view w.period place w.chosen checkpoint h.life.diary
    → GoesBehind group_secret stated w.view place w.chosen h.life.diary → (place ≡ 0 → checkpoint ≡ None) → IfSome checkpoint FitsSnapshot → AllFit m w
    → AllFit m (with_host w i (host_resumed h (node_resumed (course_of m) w h)))
fit-resumes {S = S} m brief w i h stated place checkpoint at may low same goes none own is =
    let fit : FitHost m h = each_get (FitHost m) w.hosts i h is.hosts at in
    let kept : Each (nodes.FitsEntry group_secret) h.life.diary = each-weaken EntryFits (nodes.FitsEntry group_secret) (λ e fits. fits.0) h.life.diary fit.life.diary in
    let node : FitBook m group_secret (node_resumed (course_of m) w h) =
    subst (λ (n : Node S). FitBook m group_secret n) (sym same)
    (fit_behind group_secret m brief h.node.id stated w.view w.period place w.chosen checkpoint h.life.diary goes none fit.node.node.named may.viewed may.begins low may.low may.of own kept (spelled-life h.life fit.life).diary) in
    fit-set w i (host_resumed h (node_resumed (course_of m) w h)) (record { node = node; life = fit.life }) is

-- where no request waits
no_request : (id : ℕ) (q : Request) → None ≡ Some q → FitsRequest id q
no_request id q same = absurd (cc)

-- where one does
one_waits : (id : ℕ) (new : Request) → FitsRequest id new → (q : Request) → Some new ≡ Some q → FitsRequest id q
one_waits id new fit q same = subst (FitsRequest id) (some_equal new q same) fit

-- a client that has heard a word
fit-after_word : (c : Client) (word : Word) (h : Heard) (after : Client) → Does c word h after → ((a : SignedBy Answer) → word ≡ words.Reply a → a.statement.place < 2 ^ 63) → FitClient c → FitClient after
fit-after_word c word h after (inl stays) low is = subst FitClient (sym stays.next) (record { named = is.named; seen = is.seen; waits = is.waits })
fit-after_word c word h after (inr takes) low is =
    subst FitClient (sym takes.next) (record { named = is.named; seen = omega (arith, low takes.reply takes.word_is, is.seen); waits = no_request c.id })

-- the place of a reply
reply-low : (a : SignedBy Answer) → FitsContent (Reply a) → a.statement.place < 2 ^ 63
reply-low a fits = fits.statement_fits.place_fits.1

-- a node takes an event
pub fit-event : {S : Type 0} (m : Meaning S) → IsBrief m → (w : World S) (i : ℕ) (h : Host S) (event : NodeEvent) → slice_get w.hosts i ≡ Some h → MayCome w h event → Settles m (takes_in h.node event).node → AllFit m w
    → AllFit m (stepped (course_of m) w i h (step_of m h.node event))
fit-event m brief w i h event at may settles is = fit-stepped m w i h (step_of m h.node event) at (step-fit m brief w i h event at may settles is) is

-- each other event keeps that all has a spelling
pub keeps-fit : {S : Type 0} (m : Meaning S) → KeepsBut (course_of m) (AllFit m)
unfolding hearing
keeps-fit {S = S} m =
    record {
      disk = λ w i h up at is.
          let fit : FitHost m h = each_get (FitHost m) w.hosts i h is.hosts at in
          fit-set w i (after_call (course_of m) h) (record { node = fit.node; life = life-called EntryFits h.life (store_after h) fit.life }) is;
      crash = λ w i h left up at may is.
          let fit : FitHost m h = each_get (FitHost m) w.hosts i h is.hosts at in
          fit-set w i (host_crashed (course_of m) h left) (record { node = fit.node; life = life-crashed EntryFits h left (book_fits h.node fit.node) fit.life }) is;
      hear = λ w i c x a on at has read is.
          record {
            hosts = is.hosts;
            clients = each_set FitClient w.clients i (after_word c a (heard_word c a)) is.clients
                (fit-after_word c a (heard_word c a) (after_word c a (heard_word c a)) (word_does c a)
                (λ r same. reply-low r (fit-reads w is (contents.Message (Reply r)) (subst (λ (word : Word). HasMessage w.sent (message_of word)) same (word_has w x a (fit-reads w is) has read))))
                (each_get FitClient w.clients i c is.clients at));
            sent = is.sent;
            tagged = is.tagged;
          };
      ask = λ w i c op at free few brief is.
          let fit = each_get FitClient w.clients i c is.clients at in
          let new : FitsRequest c.id (request_of c op) = record { client_is = refl; client_fits = fit.named; seq_fits = (omega arith, few); after_fits = fit.seen; op_fits = brief } in
          let good : IsGood group_secret (ask_of c op) = client-good c.id (request_of c op) new in
          fit-posts (asked_by w i c op) (from_client c (ask_of c op)) good.fits good
          (record {
            hosts = is.hosts;
            clients = each_set FitClient w.clients i (asking c (request_of c op)) is.clients (record { named = fit.named; seen = fit.seen; waits = one_waits c.id (request_of c op) new });
            sent = is.sent;
            tagged = is.tagged;
          });
      again = λ w i c q at waits is.
          let good : IsGood group_secret (signed_by c q) = client-good c.id q ((each_get FitClient w.clients i c is.clients at).waits q waits) in
          fit-posts w (from_client c (signed_by c q)) good.fits good is;
      learn = λ w i j c d at other is.
          let fit = each_get FitClient w.clients i c is.clients at in
          record {
            hosts = is.hosts;
            clients = each_set FitClient w.clients i (learning c d.seen) is.clients
                (record { named = fit.named; seen = omega (arith, fit.seen, (each_get FitClient w.clients j d is.clients other).seen); waits = fit.waits });
            sent = is.sent;
            tagged = is.tagged;
          };
      inject = λ w x read fine is. fit-posts w (from_script x) read tt is;
      declare = λ w faulty rogue ending how is. record { hosts = is.hosts; clients = is.clients; sent = is.sent; tagged = is.tagged };
      same = λ w mark told is. record { hosts = is.hosts; clients = is.clients; sent = is.sent; tagged = is.tagged };
      meet = λ w texts on is. record { hosts = is.hosts; clients = is.clients; sent = is.sent; tagged = is.tagged };
    }

-- the beginning

-- names that ascend are names of members
ascending : (last : ℕ) (ids : List ℕ) → ascends last ids ≡ true → Each (IsSigner 1) ids
ascending last [] up = tt
ascending last (x ∷ xs) up =
    let one = and_true (nat_lt last x && nat_le x 65535) (ascends x xs) up in
    let two = and_true (nat_lt last x) (nat_le x 65535) one.0 in
    ((omega (arith, ltb-true last x two.0), omega (arith, leb-true x 65535 two.1)), ascending x xs one.1)

-- what makes a view
pub view_parts : (v : View) → is_view v ≡ true → (v.number ≤ 1023) × (ascends 0 v.members ≡ true)
unfolding is_view
view_parts v is =
    let a = and_true (nat_le v.number 1023 && nat_le 1 v.start && nat_le v.start (2 ^ 63) && nat_le v.f 10 && nat_le (3 * v.f + 1) (length v.members) && nat_le (length v.members) 31) (ascends 0 v.members) is in
    let b = and_true (nat_le v.number 1023 && nat_le 1 v.start && nat_le v.start (2 ^ 63) && nat_le v.f 10 && nat_le (3 * v.f + 1) (length v.members)) (nat_le (length v.members) 31) a.0 in
    let c = and_true (nat_le v.number 1023 && nat_le 1 v.start && nat_le v.start (2 ^ 63) && nat_le v.f 10) (nat_le (3 * v.f + 1) (length v.members)) b.0 in
    let d = and_true (nat_le v.number 1023 && nat_le 1 v.start && nat_le v.start (2 ^ 63)) (nat_le v.f 10) c.0 in
    let e = and_true (nat_le v.number 1023 && nat_le 1 v.start) (nat_le v.start (2 ^ 63)) d.0 in
    let f = and_true (nat_le v.number 1023) (nat_le 1 v.start) e.0 in
    (leb-true v.number 1023 f.0, a.1)

-- hosts that have just opened
hosts_fit : {S : Type 0} (m : Meaning S) (view : View) (period : ℕ) (ids : List ℕ) → is_view view ≡ true → period < 2 ^ 32 → Each (IsSigner 1) ids → Each (FitHost m) (hosts_from m view period ids)
hosts_fit m view period [] viewed low each = tt
hosts_fit m view period (id ∷ ids) viewed low each =
    (record { node = spelled-opened group_secret m id view period each.0 viewed low; life = record { diary = tt; aside = tt } }, hosts_fit m view period ids viewed low each.1)

-- clients that have not asked
clients_fit : (view : View) (count i : ℕ) → i + count ≤ 2 ^ 16 → Each FitClient (clients_from view count i)
unfolding clients_from
clients_fit view zero i low = tt
clients_fit view (suc count) i low = (record { named = omega (arith, low); seen = omega arith; waits = no_request i }, clients_fit view count (i + 1) (omega (arith, low)))

-- a play begins so
pub fit-begun : {S : Type 0} (m : Meaning S) (g : Header) → IsHeader g → AllFit m (begun m g)
fit-begun m g is =
    let parts = view_parts g.view is.viewed in
    record { hosts = hosts_fit m g.view g.period g.view.members is.viewed is.period_fits (ascending 0 g.view.members parts.1); clients = clients_fit g.view 1025 0 (omega arith); sent = tt; tagged = tt }

-- a new node is added
pub fit-added : {S : Type 0} (m : Meaning S) (w : World S) (i member : ℕ) → is_view w.view ≡ true → w.period < 2 ^ 32 → IsNew w member → AllFit m w → AllFit m (added (course_of m) w i member)
fit-added m w i member viewed low new is = record {
  hosts = each_insert (FitHost m) w.hosts i (new_host m w member) is.hosts
      (hosts_fit m w.view w.period (member ∷ []) viewed low ((omega (arith, new.low), omega (arith, new.high)), tt)).0;
  clients = is.clients;
  sent = is.sent;
  tagged = is.tagged;
}

-- what is read

-- a message that orders requests is short
ordering-short : (m : Message) → FitsContent m → orders m ≡ true → length (spelling m) ≤ 1048576
unfolding spelling
ordering-short (Ask q) fits is =
    let long = signed-length requests q in
    let text : length (spells.request q.statement) ≡ 23 + length q.statement.op = omega arith in
    omega (arith, long, text, fits.statement_fits.op_fits, fits.tag_fits)
ordering-short (Propose p) fits is =
    let long = signed-length proposals p.head in
    let text : length (spells.proposal p.head.statement) ≡ 17 + length p.head.statement.digest = omega arith in
    omega (arith, long, text, fits.0.statement_fits.digest_fits, fits.0.tag_fits, fits.1.bytes_fit, length-append (spells.signed proposals p.head) (batch_text p.batch))
ordering-short (Vote b) fits is =
    let long = signed-length ballots b in
    let text : length (spells.ballot b.statement) ≡ 17 + length b.statement.digest = omega arith in
    omega (arith, long, text, fits.statement_fits.digest_fits, fits.tag_fits)
ordering-short (Reply a) fits is =
    let long = signed-length answers a in
    let text : length (spells.answer a.statement) ≡ 29 + length a.statement.reply = omega arith in
    omega (arith, long, text, fits.statement_fits.reply_fits, fits.tag_fits)
ordering-short (changes.Mark m) fits is =
    let long = signed-length marks m in
    let text : length (spells_report.mark m.statement) ≡ 9 + length m.statement.digest = omega arith in
    omega (arith, long, text, fits.statement_fits.digest_fits, fits.tag_fits)
ordering-short (changes.StateAsk a) fits is = omega arith
ordering-short (changes.StatePart p) fits is = omega (arith, fits.bytes_fit)
ordering-short (changes.ViewTold i) fits is =
    let long = signed-length view_infos i in
    omega (arith, long, view_info_short i.statement fits.statement_fits, fits.tag_fits)
ordering-short _ fits is = absurd (cc)

-- so it is read
reads-short : (m : Message) → FitsContent m → IsReadIfShort m
reads-short m fits = record {
  ordering = λ is. spelling_is m (record { content_fits = fits; bytes_fit = ordering-short m fits is });
  short = λ short. spelling_is m (record { content_fits = fits; bytes_fit = short });
  long = λ long. long_unread (spelling m) long;
}

reads-as : (x : Content) → IsRead x → IsReadAs x
reads-as (contents.Message message) fits = reads-short message fits
reads-as (contents.Raw bytes) none = none

-- a message that is not read is no member's word to a client
unread-word : (m : Message) (at : ℕ) → FitsContent m → decoded (spelling m) ≡ Err at → None ≡ word_in m
unread-word (Reply a) at fits is = let own : decoded (spelling (Reply a)) ≡ Ok (Reply a) = (reads-short (Reply a) fits).ordering refl in absurd (cc)
unread-word (changes.ViewTold i) at fits is = let own : decoded (spelling (changes.ViewTold i)) ≡ Ok (changes.ViewTold i) = (reads-short (changes.ViewTold i) fits).ordering refl in absurd (cc)
unread-word _ at fits is = refl

heard-by : (m : Message) (read : Result Message ℕ) → FitsContent m → decoded (spelling m) ≡ read → word_read read ≡ word_in m
heard-by m (Ok y) fits is = let own : decoded (spelling m) ≡ Ok m = spelling_is m (read_fits m y fits is) in let same : y ≡ m = cc in ap word_in same
heard-by m (Err at) fits is = unread-word m at fits is

heard-as : (x : Content) → IsRead x → IsHeardAs x
heard-as (contents.Message m) fits = heard-by m (decoded (spelling m)) fits refl
heard-as (contents.Raw bytes) none = ap word_read none.unread

-- and what nodes and clients sent is genuine
genuine_content : (x : Content) → IsTaggedContent x → IsGenuineContent x
genuine_content (contents.Message message) good = good-genuine group_secret message good
genuine_content (contents.Raw bytes) none = none

genuine-from : (origin : Origin) (x : Content) → IsRead x → IsTaggedFrom origin x → IsGenuineFrom origin x
genuine-from (origins.Node id) x read tagged = genuine_content x tagged
genuine-from (origins.Client id) x read tagged = genuine_content x tagged
genuine-from origins.Script x read tagged = tt

pub all_genuine : {S : Type 0} {m : Meaning S} (w : World S) → AllFit m w → AllGenuine w
all_genuine w fit =
    record {
      read = each-weaken (λ (s : Sent). IsRead s.content) (λ (s : Sent). IsReadAs s.content) (λ s. reads-as s.content) w.sent fit.sent;
      heard = each-weaken (λ (s : Sent). IsRead s.content) (λ (s : Sent). IsHeardAs s.content) (λ s. heard-as s.content) w.sent fit.sent;
      genuine = each_both (λ (s : Sent). IsRead s.content) (λ (s : Sent). IsTaggedFrom s.origin s.content) (λ (s : Sent). IsGenuineFrom s.origin s.content) (λ s. genuine-from s.origin s.content)
          w.sent fit.sent fit.tagged;
    }
