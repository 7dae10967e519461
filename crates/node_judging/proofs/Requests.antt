-- What becomes of a request that is offered to the pool.
use Rattle.std.proofs.Common.{◌≡◌, ℕ, ◌+◌, ◌==◌, Bool, true, false, not, ◌&&◌, ◌||◌, refl, ap, sym, ◌∙◌, cond, arith, nat_lt, nat_le, List, Option, Some, None}
use Rattle.std.specs.Prelude.{is_none}
use Rattle.std.proofs.lemmas.Bool.{ltb-true, ltb-false, leb-true, leb-false, eqb-true, eq-eqb, false_from_ne_true}
use Rattle.std.proofs.Math.Bool.{or-false}
use Rattle.smart_base.specs.Views.{is_member}
use Rattle.smart_statements.specs.Forms.{SignedBy}
use Rattle.smart_statements.specs.Kinds.{requests}
use Rattle.smart_statements.specs.Batches.{Batch}
use Rattle.smart_messages.specs.Messages.{Fits}
use Rattle.smart_statements.specs.declared.statement.Request.{Request}
use Rattle.smart_messages.specs.declared.message.Message.{Message}
use Rattle.smart_messages.specs.declared.message.Message.TheVariants.{Ask}
use Rattle.smart_service.specs.Tables.{last_seq, kept_reply}
use Rattle.smart_service.specs.declared.replica.Replica.{Replica}
use Rattle.request_pool.specs.Offers.{has_client, offer_of, pool_after}
use Rattle.request_pool.specs.declared.pool.Offer.{Offer}
use Rattle.request_pool.specs.declared.pool.Offer.TheVariants as offers
use Rattle.replica_rules.specs.Seals.{is_verified}
use Rattle.replica_rules.specs.Replicas.{is_next}
use Rattle.node_rules.specs.Nodes.{Node, view_of}
use Rattle.node_rules.specs.Arrivals.{why_ask, tells_behind, noted, kept}
use Rattle.node_rules.specs.declared.node.Why.{Why}
use Rattle.node_rules.specs.declared.node.Why.TheVariants.{BadTag, Stranger, OldSeq, FarSeq}
use Rattle.node_judging.specs.Arriving.{why_offered, kept_unless}

-- a request that was read is its signer's
pub own_request : (q : SignedBy Request) → Fits (Ask q) → q.signer ≡ q.statement.client
own_request q fits = sym fits.content_fits.statement_fits.client_is

-- a message that tells a node nothing of being behind leaves it as it is
silent_noted : {S : Type 0} (n : Node S) (message : Message) → tells_behind n message ≡ false → noted n message ≡ n
unfolding noted
silent_noted {S = S} n message silent = ap (λ (b : Bool). record n { behind = n.behind || b }) silent ∙ ap (λ (b : Bool). record n { behind = b }) (or-false n.behind)

-- so does a request
pub ask_noted : {S : Type 0} (n : Node S) (q : SignedBy Request) → noted n (Ask q) ≡ n
ask_noted n q = silent_noted n (Ask q) refl

-- if nothing is kept of such a message either, the node stays as it is, whether the message is dropped or not
pub unasked_kept : {S : Type 0} (n : Node S) (message : Message) (why : Option Why) → tells_behind n message ≡ false → kept n message ≡ n → kept_unless why (noted n message) message ≡ n
unasked_kept {S = S} n message None silent same = ap (λ (x : Node S). kept x message) (silent_noted n message silent) ∙ same
unasked_kept n message (Some why) silent same = silent_noted n message silent

-- the answer to a request, and why it is dropped, by what is found of it

abbrev answer_by : Bool → Bool → Bool → Bool → Bool → Offer
answer_by verified stranger old ahead had =
    cond (not verified) offers.BadTag (cond stranger offers.Stranger (cond old offers.Old (cond ahead offers.Ahead (cond had offers.Replaced offers.Kept))))

abbrev why_by : Bool → Bool → Bool → Bool → Bool → Option Why
why_by verified stranger old gone ahead =
    cond (not verified) (Some BadTag) (cond stranger (Some Stranger) (cond (old && gone) (Some OldSeq) (cond ahead (Some FarSeq) None)))

same_why : (verified stranger old gone ahead had : Bool) → (old ≡ true → ahead ≡ false)
    → why_offered (answer_by verified stranger old ahead had) gone ≡ why_by verified stranger old gone ahead
same_why false stranger old gone ahead had near = refl
same_why true true old gone ahead had near = refl
same_why true false true true ahead had near = refl
same_why true false true false true had near = let no : true ≡ false = near refl in absurd (cc)
same_why true false true false false had near = refl
same_why true false false gone true had near = refl
same_why true false false gone false true near = refl
same_why true false false gone false false near = refl

kept_next : {S : Type 0} (n : Node S) (q : SignedBy Request) → is_next n.replica.table q.statement ≡ true → record n { pool = pool_after offers.Kept n.pool q } ≡ kept n (Ask q)
unfolding kept
kept_next n q next = rw next refl

kept_last : {S : Type 0} (n : Node S) (q : SignedBy Request) → is_next n.replica.table q.statement ≡ false → n ≡ kept n (Ask q)
unfolding kept
kept_last n q next = rw next refl

same_kept : {S : Type 0} (n : Node S) (q : SignedBy Request) (verified stranger old gone ahead had : Bool)
    → (old ≡ true → is_next n.replica.table q.statement ≡ false) → (old ≡ false → ahead ≡ false → is_next n.replica.table q.statement ≡ true)
    → record n { pool = pool_after (answer_by verified stranger old ahead had) n.pool q } ≡ kept_unless (why_offered (answer_by verified stranger old ahead had) gone) n (Ask q)
same_kept n q false stranger old gone ahead had last next = refl
same_kept n q true true old gone ahead had last next = refl
same_kept n q true false true true ahead had last next = refl
same_kept n q true false true false ahead had last next = kept_last n q (last refl)
same_kept n q true false false gone true had last next = refl
same_kept n q true false false gone false true last next = kept_next n q (next refl refl)
same_kept n q true false false gone false false last next = kept_next n q (next refl refl)

-- where a number stands to that of the last executed request

not_ahead : (seq last : ℕ) → nat_le seq last ≡ true → nat_lt (last + 1) seq ≡ false
not_ahead seq last is = false_from_ne_true (nat_lt (last + 1) seq) (λ more. omega (arith, leb-true seq last is, ltb-true (last + 1) seq more))

not_next : (seq last : ℕ) → nat_le seq last ≡ true → (seq == last + 1) ≡ false
not_next seq last is = false_from_ne_true (seq == last + 1) (λ same. omega (arith, leb-true seq last is, eqb-true seq (last + 1) same))

is_next_where : (seq last : ℕ) → nat_le seq last ≡ false → nat_lt (last + 1) seq ≡ false → (seq == last + 1) ≡ true
is_next_where seq last new near = eq-eqb seq (last + 1) (omega (arith, leb-false seq last new, ltb-false (last + 1) seq near))

-- whether no reply to a request is kept
abbrev gone_at : {S : Type 0} → Replica S → Request → Bool
gone_at r q = is_none (kept_reply r.table q.client q.seq)

offered_why : {S : Type 0} (n : Node S) (q : SignedBy Request) → is_member (view_of n) n.id ≡ true → q.signer ≡ q.statement.client
    → why_offered (offer_of n.secret n.pool q (last_seq n.replica.table q.statement.client)) (gone_at n.replica q.statement) ≡ why_ask n q
unfolding why_ask
offered_why n q member own =
    let last = last_seq n.replica.table q.statement.client in
    let seq = q.statement.seq in
    same_why (is_verified requests n.secret q) (nat_lt 1024 q.statement.client) (nat_le seq last) (gone_at n.replica q.statement) (nat_lt (last + 1) seq) (has_client n.pool q.statement.client)
    (not_ahead seq last)
    ∙ rw (member, own) refl

offered_kept : {S : Type 0} (n : Node S) (q : SignedBy Request)
    → record n { pool = pool_after (offer_of n.secret n.pool q (last_seq n.replica.table q.statement.client)) n.pool q }
    ≡ kept_unless (why_offered (offer_of n.secret n.pool q (last_seq n.replica.table q.statement.client)) (gone_at n.replica q.statement)) n (Ask q)
offered_kept n q =
    let last = last_seq n.replica.table q.statement.client in
    let seq = q.statement.seq in
    same_kept n q (is_verified requests n.secret q) (nat_lt 1024 q.statement.client) (nat_le seq last) (gone_at n.replica q.statement) (nat_lt (last + 1) seq) (has_client n.pool q.statement.client)
    (not_next seq last) (is_next_where seq last)

-- why a request is dropped that was offered to a node's pool, and the node behind it

pub why_where : {S : Type 0} (n inside : Node S) (q : SignedBy Request) (asked : Request) (r : Replica S) (secret : List ℕ) (last : ℕ) (gone : Bool) (answer : Offer) (why : Option Why) → inside ≡ n
    → is_member (view_of n) n.id ≡ true → q.signer ≡ q.statement.client → asked ≡ q.statement → r ≡ inside.replica → secret ≡ inside.secret
    → last ≡ last_seq r.table asked.client → gone ≡ gone_at n.replica asked → answer ≡ offer_of secret inside.pool q last → why ≡ why_offered answer gone → why ≡ why_ask n q
why_where n inside q asked r secret last gone answer why same member own is replica key found kept offer due =
    rw (due, kept, offer, found, is, replica, key, same) (offered_why n q member own)

pub kept_where : {S : Type 0} (n inside : Node S) (q : SignedBy Request) (asked : Request) (r : Replica S) (secret : List ℕ) (last : ℕ) (gone : Bool) (answer : Offer) (why : Option Why) (pool : Batch) → inside ≡ n
    → asked ≡ q.statement → r ≡ inside.replica → secret ≡ inside.secret → last ≡ last_seq r.table asked.client → gone ≡ gone_at n.replica asked → answer ≡ offer_of secret inside.pool q last
    → why ≡ why_offered answer gone → pool ≡ pool_after answer inside.pool q → record inside { pool = pool } ≡ kept_unless why n (Ask q)
kept_where n inside q asked r secret last gone answer why pool same is replica key found kept offer due after =
    rw (after, due, kept, offer, found, is, replica, key, same) (offered_kept n q)
