-- Books have few entries: each has a source among the bytes of what was sent, and no more than 2 ^ 24 messages are sent.
use Rattle.std.proofs.Common.{◌≡◌, inl, inr, ℕ, ◌+◌, ◌^◌, ◌<◌, ◌≤◌, ◌++◌, List, [], ◌∷◌, Option, Some, None, length, nat_lt, map, take, refl, ap, ◌∙◌, sym, arith, subst, length-append, Result, Ok, Err}
use Rattle.std.specs.List.{cons_option}
use Rattle.smart_base.specs.Lists.{Each}
use Rattle.smart_base.specs.Views.{View}
use Rattle.smart_statements.specs.Batches.{Batch}
use Rattle.smart_messages.specs.Messages.{decoded}
use Rattle.smart_messages.specs.declared.message.Message.{Message}
use Rattle.smart_statements.specs.declared.entry.NodeEvent.{NodeEvent}
use Rattle.smart_statements.specs.declared.entry.NodeEvent.TheVariants.{Arrive, Tick, Deliver, Firm}
use Rattle.smart_service.specs.Services.{Meaning}
use Rattle.agreement_laws.specs.Fronts.{IsFront}
use Rattle.agreement_laws.specs.Statements.{Statement}
use Rattle.vote_book.specs.declared.entry.LogEntry.{LogEntry}
use Rattle.vote_book.specs.declared.entry.LogEntry.TheVariants.{Opened, Wrote, Accepted, Promised, Synced, Decided, Installed, Marked}
use Rattle.store_laws.specs.Restored.{Images}
use Rattle.store_laws.specs.States.{StoreState}
use Rattle.world_rules.specs.Crashes.{is_unclosed, still_aside}
use Rattle.node_rules.specs.Nodes.{Node}
use Rattle.node_rules.specs.Reopening.{decided_of}
use Rattle.node_rules.specs.Steps.{Outcome, step_of, opened}
use Rattle.node_laws.specs.Restored.{IsSoundBook}
use Rattle.replica_laws.proofs.MarkPlaces.{IsMarkUpTo}
use Rattle.replica_laws.proofs.Sources.{HasSource, FromBook, FromSources, from-front, from-take, book-more, from-more, from-step, from-released, from-opened, few_entries}
use Rattle.world_rules.specs.Premises.{bytes_of}
use Rattle.world_rules.specs.Secrets.{group_secret}
use Rattle.world_rules.specs.Worlds.{course_of, Host, World, life_firm, written, life_crashed, host_of_node, host_after, host_crashed, outset_of}
use Rattle.world_rules.specs.declared.message.Content.{Content}
use Rattle.world_rules.specs.declared.message.Sent.{Sent}
use Rattle.world_laws.proofs.Keeps.{HasContent, MayCome, after_call}
use Rattle.world_laws.proofs.Lives.{book_left}
use Rattle.replica_laws.proofs.Longer.{longer-step, told_firm}
use Rattle.agreement_laws.proofs.Lists.{either}
use Rattle.node_rules.proofs.Rulewise.{ForRead, ForEvent}
use Rattle.std.proofs.lemmas.List.{length-map}

-- ---- the bytes of what was sent

abbrev pub sources : List Sent → List (List ℕ)
sources sent = map (λ s. bytes_of s.content) sent

-- a source stays one where more is sent
pub source-more : (sent : List Sent) (s : Sent) (m : Message) → HasSource (sources sent) m → HasSource (sources (sent ++ s ∷ [])) m
source-more [] s m has = absurd has
source-more (t ∷ sent) s m (inl here) = inl here
source-more (t ∷ sent) s m (inr later) = inr (source-more sent s m later)

-- what a content that was sent is read as has one
pub source-sent : (sent : List Sent) (x : Content) (m : Message) → HasContent sent x → decoded (bytes_of x) ≡ Ok m → HasSource (sources sent) m
source-sent [] x m has read = absurd has
source-sent (s ∷ sent) x m (inl same) read = inl (ap (λ (c : Content). decoded (bytes_of c)) same ∙ read)
source-sent (s ∷ sent) x m (inr later) read = inr (source-sent sent x m later read)

-- of what bytes are read as
pub by_read : (bytes : List (List ℕ)) (came : List ℕ) (read : Result Message ℕ) → decoded came ≡ read → ((m : Message) → decoded came ≡ Ok m → HasSource bytes m)
    → ForRead (λ m. HasSource bytes m) read
by_read bytes came (Ok m) is has = has m is
by_read bytes came (Err at) is has = tt

-- and so has what comes
pub may-have : {S : Type 0} (w : World S) (h : Host S) (event : NodeEvent) → MayCome w h event → ForEvent (λ m. HasSource (sources w.sent) m) event
may-have w h (Arrive bytes) may =
    by_read (sources w.sent) bytes (decoded bytes) refl (λ m read. source-sent w.sent may.content m may.has (sym (ap (λ (b : List ℕ). decoded b) may.spelled) ∙ read))
may-have w h Tick may = tt
may-have w h Deliver may = tt
may-have w h (Firm count) may = tt

-- ---- hosts

-- What a host's node keeps has a source, and so have the entries of its lives and all that was written. Its book has been opened. Marks are of places
-- that were delivered.
pub record FewHost {S : Type 0} (sent : List Sent) (whole : List LogEntry) (h : Host S) : Type 0 where
  pub node : FromSources (sources sent) h.node
  pub begun : 0 < length h.node.entries
  pub written_from : FromBook (sources sent) whole
  pub marks : Each (IsMarkUpTo h.node.replica.place) whole
  pub diary : FromBook (sources sent) h.life.diary
  pub aside : FromBook (sources sent) h.life.aside

-- one more message is sent
pub few-sent : {S : Type 0} (sent : List Sent) (s : Sent) (whole : List LogEntry) (h : Host S) → FewHost sent whole h → FewHost (sent ++ s ∷ []) whole h
few-sent {S = S} sent s whole h is =
    let old : List (List ℕ) = sources sent in
    let new : List (List ℕ) = sources (sent ++ s ∷ []) in
    record {
      node = from-more old new (source-more sent s) h.node is.node;
      begun = is.begun;
      written_from = book-more old new (source-more sent s) whole is.written_from;
      marks = is.marks;
      diary = book-more old new (source-more sent s) h.life.diary is.diary;
      aside = book-more old new (source-more sent s) h.life.aside is.aside;
    }

longer_begun : (front es : List LogEntry) → IsFront front es → 0 < length front → 0 < length es
longer_begun front es f some =
    let long : length es ≡ length front + length f.rest = ap (λ (xs : List LogEntry). length xs) f.is ∙ length-append front f.rest in
    omega (arith, long, some)

-- a step leaves a book that has been opened
pub begun-step : {S : Type 0} (m : Meaning S) (n : Node S) (event : NodeEvent) → 0 < length n.entries → 0 < length (step_of m n event).node.entries
begun-step {S = S} m n event some = longer_begun (told_firm n event).entries (step_of m n event).node.entries (longer-step m n event).book (told n event some)
  where
    told : (x : Node S) (e : NodeEvent) → 0 < length x.entries → 0 < length (told_firm x e).entries
    told x (Arrive bytes) some = some
    told x Tick some = some
    told x Deliver some = some
    told x (Firm count) some = some

-- and what it keeps has a source
pub few-step : {S : Type 0} (m : Meaning S) (sent : List Sent) (whole : List LogEntry) (h : Host S) (event : NodeEvent) → ForEvent (λ x. HasSource (sources sent) x) event → FewHost sent whole h
    → FromSources (sources sent) (step_of m h.node event).node
few-step m sent whole h event came is = from-step (sources sent) m h.node event came is.begun is.node

-- a host's node takes an event, and writes more behind all that was written
pub few-after : {S : Type 0} (m : Meaning S) (sent : List Sent) (whole more rest : List LogEntry) (h : Host S) (o : Outcome S) → FromSources (sources sent) o.node → 0 < length o.node.entries
    → FromBook (sources sent) more → Each (IsMarkUpTo o.node.replica.place) more → (life_firm h.life h.node o.node).diary ++ rest ≡ more → FewHost sent whole h → FewHost sent more (host_after (course_of m) h o)
few-after m sent whole more rest h o node some book marks same is = record {
  node = from-released (sources sent) o.node node;
  begun = some;
  written_from = book;
  marks = marks;
  diary = from-front (sources sent) (life_firm h.life h.node o.node).diary rest (subst (λ (es : List LogEntry). FromBook (sources sent) es) (sym same) book);
  aside = is.aside;
}

-- what is still aside
aside-from : (bytes : List (List ℕ)) (s : StoreState) (es : List LogEntry) → FromBook bytes es → FromBook bytes (still_aside s es)
aside-from bytes s es from = either (λ (xs : List LogEntry). FromBook bytes xs) (is_unclosed s) es [] from (from-take bytes es 0 from)

-- a host's store makes a call
pub few-called : {S : Type 0} (m : Meaning S) (sent : List Sent) (whole : List LogEntry) (h : Host S) → FewHost sent whole h → FewHost sent whole (after_call (course_of m) h)
few-called m sent whole h is =
    record { node = is.node; begun = is.begun; written_from = is.written_from; marks = is.marks; diary = is.diary; aside = aside-from (sources sent) (after_call (course_of m) h).store h.life.aside is.aside }

-- the book of which a crash leaves a front
pub few-left : {S : Type 0} (sent : List Sent) (whole : List LogEntry) (h : Host S) → whole ≡ written h → FewHost sent whole h → FromBook (sources sent) (book_left h)
few-left sent whole h own is =
    either (λ (es : List LogEntry). FromBook (sources sent) es) (is_unclosed h.store) h.life.aside (written h) is.aside
    (subst (λ (es : List LogEntry). FromBook (sources sent) es) own is.written_from)

-- a host's member crashes
pub few-crashed : {S : Type 0} (m : Meaning S) (sent : List Sent) (whole : List LogEntry) (h : Host S) (left : Images) (k : ℕ) → whole ≡ written h → (life_crashed h left).diary ≡ take k (book_left h)
    → FewHost sent whole h → FewHost sent whole (host_crashed (course_of m) h left)
few-crashed m sent whole h left k own same is =
    let book : FromBook (sources sent) (book_left h) = few-left sent whole h own is in
    record {
      node = is.node;
      begun = is.begun;
      written_from = is.written_from;
      marks = is.marks;
      diary = subst (λ (es : List LogEntry). FromBook (sources sent) es) (sym same) (from-take (sources sent) (book_left h) k book);
      aside = aside-from (sources sent) (host_crashed (course_of m) h left).store (book_left h) book;
    }

-- a host that has just opened
pub few-opened : {S : Type 0} (m : Meaning S) (sent : List Sent) (id : ℕ) (view : View) (period : ℕ)
    → FewHost sent (opened (outset_of m view period id)).entries (host_of_node (opened (outset_of m view period id)))
few-opened m sent id view period =
    let from = from-opened (sources sent) m group_secret id view period in
    let none : FromBook (sources sent) [] = from-take (sources sent) (opened (outset_of m view period id)).entries 0 from.book in
    record { node = from; begun = omega arith; written_from = from.book; marks = from.marks; diary = none; aside = none }

-- ---- bounds

-- a sound book has few entries
pub few-book : (secret : List ℕ) (stated : List Statement) (views : List View) (sent : List Sent) (es : List LogEntry) → IsSoundBook secret stated views es → FromBook (sources sent) es → length sent ≤ 2 ^ 24
    → length es < 2 ^ 28
few-book secret stated views sent es book from few =
    let most = few_entries secret stated views (sources sent) es book from in
    let long = length-map sent (λ (s : Sent). bytes_of s.content) in
    omega (arith, most, long, few)

-- no more of them are decisions
pub few-decided : (es : List LogEntry) → length (decided_of 0 es) ≤ length es
few-decided [] = omega arith
few-decided (Opened o ∷ es) = let rest = few-decided es in omega (arith, rest)
few-decided (Wrote w ∷ es) = let rest = few-decided es in omega (arith, rest)
few-decided (Accepted a ∷ es) = let rest = few-decided es in omega (arith, rest)
few-decided (Promised p ∷ es) = let rest = few-decided es in omega (arith, rest)
few-decided (Synced s ∷ es) = let rest = few-decided es in omega (arith, rest)
few-decided (Decided d ∷ es) =
    let rest = few-decided es in
    either (λ (o : Option Batch). length (cons_option o (decided_of 0 es)) ≤ length (Decided d ∷ es)) (nat_lt 0 d.slot.place) (Some d.batch) None (omega (arith, rest)) (omega (arith, rest))
few-decided (Installed i ∷ es) = let rest = few-decided es in omega (arith, rest)
few-decided (Marked k ∷ es) = let rest = few-decided es in omega (arith, rest)
