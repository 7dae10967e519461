-- What a client has seen is what the transcript tells that it knows.
use Rattle.std.proofs.Common.{◌≡◌, ℕ, zero, suc, ◌+◌, ◌<◌, ◌≤◌, ◌++◌, ◌==◌, Bool, true, false, List, [], ◌∷◌, length, refl, ap, ◌∙◌, sym, arith, cond, Some, max, subst, eqb-true, eq-eqb, inl, inr}
use Rattle.node_rules.specs.Nodes.{view_of}
use Rattle.std.specs.Prelude.{slice_get, slice_set, option_map}
use Rattle.std.specs.List.{flat_map}
use Rattle.smart_base.specs.Lists.{Each}
use Rattle.smart_base.specs.Views.{View}
use Rattle.smart_service.specs.Services.{Meaning}
use Rattle.node_rules.specs.Steps.{Outcome, leaving}
use Rattle.client_quorum.specs.Clients.{request_of, asking, learning}
use Rattle.client_quorum.specs.declared.client.Client.{Client}
use Rattle.client_quorum.specs.declared.client.Word.{Word}
use Rattle.client_quorum.specs.declared.client.Acceptance.{Acceptance}
use Rattle.client_quorum.specs.declared.client.Heard.{Heard}
use Rattle.client_quorum.specs.declared.client.Heard.TheVariants as hears
use Rattle.world_rules.specs.Clients.{heard_word}
use Rattle.world_rules.specs.Worlds.{Course, Host, World, posts, told_drop, told_fired, stepped, told_heard, hearing, clients_from, begun}
use Rattle.world_rules.specs.Plays.{line_played, rested, world_after, lines_told}
use Rattle.world_rules.specs.declared.line.Line.{Line}
use Rattle.world_rules.specs.declared.line.OutLine.{OutLine}
use Rattle.world_rules.specs.declared.line.OutLine.TheVariants as outs
use Rattle.world_rules.specs.Knowing.{place_told, known_by, seen_by}
use Rattle.world_laws.proofs.Numbered.{EachAt, each_at_get, each_at_weaker, each_at_set}
use Rattle.world_laws.proofs.Keeps.{aside_beside, IsBeside, outcome-beside, signed_by, ask_of, asked_by, learned_line, resumed_line, by-posts, KeepsLives, live-line_played, from_node, from_client, from_script, keeps-sends_all}
use Rattle.world_laws.proofs.Hearing.{Accepts, Does, word_does}
use Rattle.world_laws.proofs.Asking.{ClientRight, ClientsRight, keeps-right, rested-right, each_fresh, right-begun}
use Rattle.world_rules.specs.declared.message.Sent.{Sent}
use Rattle.world_rules.specs.declared.line.Header.{Header}
use Rattle.client_quorum.specs.Readings.{after_word}

-- transcripts

-- what more lines tell
known-append : (i : ℕ) (xs ys : List OutLine) → known_by i (xs ++ ys) ≡ max (known_by i xs) (known_by i ys)
known-append i [] ys = omega arith
known-append i (x ∷ xs) ys = omega (arith, known-append i xs ys)

-- a line beside tells a client no place
none_told : (i : ℕ) (line : OutLine) → IsBeside line → place_told i line ≡ 0
none_told i (outs.Group members faulty app period) beside = refl
none_told i (outs.Sent number origin summary) beside = refl
none_told i (outs.Decided member place) beside = refl
none_told i (outs.Installed member place) beside = refl
none_told i (outs.Delivered member place executed) beside = refl
none_told i (outs.View member number) beside = refl
none_told i (outs.Promised member number regency) beside = refl
none_told i (outs.Synced member number regency base bound) beside = refl
none_told i (outs.Dropped member why) beside = refl
none_told i (outs.Counted client have need) beside = refl
none_told i (outs.Accepted client seq place index reply) beside = absurd beside
none_told i (outs.Viewed client have need) beside = refl
none_told i (outs.Moved client number) beside = refl
none_told i (outs.Ignored client why) beside = refl
none_told i (outs.Busy client seq) beside = refl
none_told i (outs.Absent member) beside = refl
none_told i (outs.Crashed member) beside = refl
none_told i (outs.Restarted member place entries) beside = refl
none_told i (outs.Down member) beside = refl
none_told i (outs.Idle member) beside = refl
none_told i (outs.IdleClient client) beside = refl
none_told i (outs.Learned client place) beside = absurd beside
none_told i (outs.Stands member place number regency) beside = refl
none_told i (outs.Seen client place) beside = refl
none_told i (outs.End lines messages) beside = refl

-- nor do many
none_known : (i : ℕ) (lines : List OutLine) → Each IsBeside lines → known_by i lines ≡ 0
none_known i [] each = refl
none_known i (l ∷ ls) each = omega (arith, none_told i l each.0, none_known i ls each.1)

-- what is told a client

-- a client is told its place
place_own : (client i place : ℕ) → client ≡ i → cond (client == i) place 0 ≡ place
place_own client i place same = ap (λ t. cond t place 0) (eq-eqb client i same)

-- and no other's
place_other : (client i place : ℕ) → (client ≡ i → ⊥) → cond (client == i) place 0 ≡ 0
place_other client i place other = by (client == i) refl
  where
    by : (t : Bool) → (client == i) ≡ t → cond t place 0 ≡ 0
    by true is = absurd (other (eqb-true client i is))
    by false is = refl

-- what clients know

-- a client has seen what it knew before the present script line, and what that tells it
abbrev Knows : (ℕ → ℕ) → List OutLine → ℕ → Client → Type 0
Knows before told i c = c.seen ≡ max (before i) (known_by i told)

-- all clients have, and there are as many as ever
record AllKnow {S : Type 0} (before : ℕ → ℕ) (count : ℕ) (w : World S) : Type 0 where
  each : EachAt (Knows before w.told) w.clients
  there : length w.clients ≡ count

-- lines that tell no client a place change nothing
know-beside : (before : ℕ → ℕ) (clients : List Client) (told lines : List OutLine) → Each IsBeside lines → EachAt (Knows before told) clients → EachAt (Knows before (told ++ lines)) clients
know-beside before clients told lines beside each =
    each_at_weaker (Knows before told) (Knows before (told ++ lines)) (λ i c knows. omega (arith, knows, known-append i told lines, none_known i lines beside)) clients each

-- a line tells one client a place
know-told : (before : ℕ → ℕ) (clients : List Client) (told : List OutLine) (i : ℕ) (c c' : Client) (line : OutLine) (place : ℕ) → slice_get clients i ≡ Some c → c'.seen ≡ max c.seen place → place_told i line ≡ place
    → ((j : ℕ) → (j ≡ i → ⊥) → place_told j line ≡ 0) → EachAt (Knows before told) clients → EachAt (Knows before (told ++ line ∷ [])) (slice_set clients i c')
know-told before clients told i c c' line place at seen own other each =
    each_at_set (Knows before told) (Knows before (told ++ line ∷ [])) clients i c'
    (λ j y not_i knows. omega (arith, knows, known-append j told (line ∷ []), other j not_i)) each
    (omega (arith, each_at_get (Knows before told) clients i c each at, seen, own, known-append i told (line ∷ [])))

-- as many clients as before
count-set : {A : Type 0} (xs : List A) (i : ℕ) (x : A) → length (slice_set xs i x) ≡ length xs
count-set [] i x = refl
count-set (y ∷ xs) zero x = refl
count-set (y ∷ xs) (suc i) x = ap suc (count-set xs i x)

-- messages that leave

know-posts : {S : Type 0} (before : ℕ → ℕ) (count : ℕ) (w : World S) (s : Sent) → AllKnow before count w → AllKnow before count (posts w s)
know-posts {S = S} before count w s is =
    by-posts (λ (v : World S). AllKnow before count v) w s (λ ending. record { each = is.each; there = is.there })
    (λ free room. record { each = know-beside before w.clients w.told _ (tt, tt) is.each; there = is.there })

-- a node's step

know-stepped : {S : Type 0} (course : Course S) (before : ℕ → ℕ) (count : ℕ) (w : World S) (i : ℕ) (h : Host S) (o : Outcome S) → AllKnow before count w → AllKnow before count (stepped course w i h o)
unfolding stepped
know-stepped {S = S} course before count w i h o is =
    keeps-sends_all (λ (v : World S). AllKnow before count v) h.node.id (view_of o.node) (λ v held knows. know-posts before count v (from_node v h.node.id (view_of o.node) held) knows) _ (leaving o.node.firm o.node.held)
    (record {
      each = know-beside before w.clients w.told (told_drop h.node.id o.dropped ++ flat_map (told_fired h.node.id) o.fired)
          (outcome-beside h.node.id o) is.each;
      there = is.there;
    })

-- a client hears

know-heard : (before : ℕ → ℕ) (clients : List Client) (told : List OutLine) (i : ℕ) (c : Client) (word : Word) (h : Heard) (after : Client) → slice_get clients i ≡ Some c → c.id ≡ i → Does c word h after
    → EachAt (Knows before told) clients → EachAt (Knows before (told ++ told_heard c.id h ∷ [])) (slice_set clients i after)
know-heard before clients told i c word h after at id (inl stays) each =
    let beside = aside_beside (told_heard c.id h) (stays.line c.id) in
    subst (λ (x : Client). EachAt (Knows before (told ++ told_heard c.id h ∷ [])) (slice_set clients i x)) (sym stays.next)
    (know-told before clients told i c (record c { replies = stays.replies; views = stays.views; infos = stays.infos }) (told_heard c.id h) 0 at (omega arith)
    (none_told i (told_heard c.id h) beside) (λ j other. none_told j (told_heard c.id h) beside) each)
know-heard before clients told i c word h after at id (inr takes) each =
    let acc : Acceptance = takes.acceptance in
    let taken : Accepts c takes.reply acc = takes.accepts in
    subst (λ (h : Heard). EachAt (Knows before (told ++ told_heard c.id h ∷ [])) (slice_set clients i after)) (sym takes.heard_is)
    (subst (λ (x : Client). EachAt (Knows before (told ++ told_heard c.id (hears.Accepted acc) ∷ [])) (slice_set clients i x)) (sym takes.next)
    (know-told before clients told i c _ _ takes.reply.statement.place at refl
    (place_own c.id i acc.place id ∙ ap (λ (b : Acceptance). b.place) taken.is) (λ j other. place_other c.id j acc.place (λ same. other (sym same ∙ id))) each))

know-hearing : {S : Type 0} (before : ℕ → ℕ) (count : ℕ) (w : World S) (i : ℕ) (c : Client) (a : Word) → slice_get w.clients i ≡ Some c → c.id ≡ i → AllKnow before count w
    → AllKnow before count (hearing w i c a (heard_word c a))
unfolding hearing
know-hearing before count w i c a at id is =
    record { each = know-heard before w.clients w.told i c a (heard_word c a) (after_word c a (heard_word c a)) at id (word_does c a) is.each; there = count-set w.clients i _ ∙ is.there }

-- a client asks

know-asked : {S : Type 0} (before : ℕ → ℕ) (count : ℕ) (w : World S) (i : ℕ) (c : Client) (op : List ℕ) → slice_get w.clients i ≡ Some c → AllKnow before count w → AllKnow before count (asked_by w i c op)
know-asked before count w i c op at is =
    record {
      each = each_at_set (Knows before w.told) (Knows before w.told) w.clients i (asking c (request_of c op)) (λ j y other knows. knows) is.each (each_at_get (Knows before w.told) w.clients i c is.each at);
      there = count-set w.clients i _ ∙ is.there;
    }

-- a play

-- clients are right, and have seen what the transcript tells
abbrev Knowing : {S : Type 0} → (ℕ → ℕ) → ℕ → World S → Type 0
Knowing before count w = ClientsRight w × AllKnow before count w

-- a client stands at its number
pub id_at : {S : Type 0} (w : World S) (i : ℕ) (c : Client) → slice_get w.clients i ≡ Some c → ClientsRight w → c.id ≡ i
id_at w i c at right = (each_at_get (ClientRight w.sent w.ending w.accepted) w.clients i c right.all.each at).id

-- each event keeps that
keeps-knowing : {S : Type 0} (course : Course S) (before : ℕ → ℕ) (count : ℕ) → KeepsLives course (Knowing before count)
keeps-knowing course before count =
    let k = keeps-right course in
    record {
      live = record {
        event = λ w i h event on up at may is. (k.live.event w i h event on up at may is.0, know-stepped course before count w i h (course.step h.node event) is.1);
        disk = λ w i h on up at is. (k.live.disk w i h on up at is.0, record { each = is.1.each; there = is.1.there });
        hear = λ w i c x a on at has read is. (k.live.hear w i c x a on at has read is.0, know-hearing before count w i c a at (id_at w i c at is.0) is.1);
        ask = λ w i c op on at free few brief is. (
          k.live.ask w i c op on at free few brief is.0,
          know-posts before count (asked_by w i c op) (from_client c (ask_of c op)) (know-asked before count w i c op at is.1),
        );
        again = λ w i c q on at waits is. (k.live.again w i c q on at waits is.0, know-posts before count w (from_client c (signed_by c q)) is.1);
        learn = λ w i j c d on at other is. (
          k.live.learn w i j c d on at other is.0,
          record {
            each = know-told before w.clients w.told i c (learning c d.seen) (learned_line c d.seen) (max c.seen d.seen) at (omega arith) (place_own c.id i (max c.seen d.seen) (id_at w i c at is.0))
                (λ n not_i. place_other c.id n (max c.seen d.seen) (λ same. not_i (sym same ∙ id_at w i c at is.0))) is.1.each;
            there = count-set w.clients i _ ∙ is.1.there;
          },
        );
        inject = λ w x on read fine is. (k.live.inject w x on read fine is.0, know-posts before count w (from_script x) is.1);
        declare = λ w faulty rogue ending on how is. (k.live.declare w faulty rogue ending on how is.0, record { each = is.1.each; there = is.1.there });
        mark = λ w s on at is. (k.live.mark w s on at is.0, record { each = is.1.each; there = is.1.there });
        meet = λ w texts on is. (k.live.meet w texts on is.0, record { each = is.1.each; there = is.1.there });
        tell = λ w line aside is. (k.live.tell w line aside is.0, record { each = know-beside before w.clients w.told (line ∷ []) (aside_beside line aside, tt) is.1.each; there = is.1.there });
      };
      crash = λ w i h left on up at may is. (k.crash w i h left on up at may is.0, record { each = is.1.each; there = is.1.there });
      resume = λ w i h on down at is. (k.resume w i h on down at is.0, record { each = know-beside before w.clients w.told (resumed_line course w h ∷ []) (tt, tt) is.1.each; there = is.1.there });
      add = λ w i member on new is. (k.add w i member on new is.0, record { each = is.1.each; there = is.1.there });
    }

-- what each client has seen, and how many there are
record Seen {S : Type 0} (known : ℕ → ℕ) (count : ℕ) (w : World S) : Type 0 where
  each : EachAt (λ i c. c.seen ≡ known i) w.clients
  there : length w.clients ≡ count

-- where nothing is told yet, a client has seen what it knew before
none-told : {S : Type 0} (known : ℕ → ℕ) (count : ℕ) (w : World S) → w.told ≡ [] → Seen known count w → AllKnow known count w
none-told known count w none is =
    record {
      each = subst (λ (told : List OutLine). EachAt (Knows known told) w.clients) (sym none) (each_at_weaker (λ i c. c.seen ≡ known i) (Knows known []) (λ i c seen. omega (arith, seen)) w.clients is.each);
      there = is.there;
    }

-- behind lines each client has seen what it knew before them, and what they tell it
seen-after : {S : Type 0} (course : Course S) (known : ℕ → ℕ) (count : ℕ) (w : World S) (ls : List Line) → ClientsRight w → w.told ≡ [] → Seen known count w
    → Seen (λ i. max (known i) (known_by i (lines_told course w ls))) count (world_after course w ls)
seen-after course known count w [] right none is =
    record { each = each_at_weaker (λ i c. c.seen ≡ known i) (λ i c. c.seen ≡ max (known i) 0) (λ i c seen. omega (arith, seen)) w.clients is.each; there = is.there }
seen-after {S = S} course known count w (l ∷ ls) right none is =
    let played : World S = line_played course w l in
    let after : World S = world_after course (rested played) ls in
    let later : List OutLine = lines_told course (rested played) ls in
    let k : Knowing known count played = live-line_played course (Knowing known count) (keeps-knowing course known count) w l (right, none-told known count w none is) in
    let rest : Seen (λ i. max (max (known i) (known_by i played.told)) (known_by i later)) count after =
    seen-after course (λ i. max (known i) (known_by i played.told)) count (rested played) ls (rested-right played k.0) refl (record { each = k.1.each; there = k.1.there }) in
    record {
      each = each_at_weaker (λ i c. c.seen ≡ max (max (known i) (known_by i played.told)) (known_by i later)) (λ i c. c.seen ≡ max (known i) (known_by i (played.told ++ later)))
          (λ i c seen. omega (arith, seen, known-append i played.told later)) after.clients rest.each;
      there = rest.there;
    }

-- so many clients
fresh-count : (view : View) (count i : ℕ) → length (clients_from view count i) ≡ count
unfolding clients_from
fresh-count view zero i = refl
fresh-count view (suc count) i = ap suc (fresh-count view count (i + 1))

-- clients begin having seen nothing
seen-begun : {S : Type 0} (m : Meaning S) (g : Header) → Seen (λ i. 0) 1025 (begun m g)
seen-begun m g = record { each = each_fresh (λ i c. c.seen ≡ 0) g.view 1025 0 (λ k. refl); there = fresh-count g.view 1025 0 }

-- what each client at an index has seen
seen-at : (known : ℕ → ℕ) (clients : List Client) (i : ℕ) → EachAt (λ j (c : Client). c.seen ≡ known j) clients → i < length clients → option_map (λ (c : Client). c.seen) (slice_get clients i) ≡ Some (known i)
seen-at known [] i each within = absurd (omega (arith, within))
seen-at known (c ∷ cs) zero each within = ap (λ (n : ℕ). Some n) each.0
seen-at known (c ∷ cs) (suc i) each within = seen-at (λ j. known (suc j)) cs i each.1 (omega (arith, within))

-- after any lines of any script, each client has seen what the transcript tells that it knows
pub seen-told : {S : Type 0} (m : Meaning S) (course : Course S) (g : Header) (ls : List Line)
    → EachAt (λ i c. c.seen ≡ known_by i (lines_told course (begun m g) ls)) (world_after course (begun m g) ls).clients
seen-told {S = S} m course g ls =
    let after : World S = world_after course (begun m g) ls in
    each_at_weaker (λ i c. c.seen ≡ max 0 (known_by i (lines_told course (begun m g) ls))) (λ i c. c.seen ≡ known_by i (lines_told course (begun m g) ls))
    (λ i c seen. omega (arith, seen)) after.clients (seen-after course (λ i. 0) 1025 (begun m g) ls (right-begun m g) refl (seen-begun m g)).each

-- and so has the client of a number
pub clients_know : {S : Type 0} (m : Meaning S) (course : Course S) (g : Header) (ls : List Line) (client : ℕ) → client ≤ 1024
    → seen_by (world_after course (begun m g) ls) client ≡ Some (known_by client (lines_told course (begun m g) ls))
clients_know {S = S} m course g ls client low =
    let after : World S = world_after course (begun m g) ls in
    let is : Seen (λ i. max 0 (known_by i (lines_told course (begun m g) ls))) 1025 after = seen-after course (λ i. 0) 1025 (begun m g) ls (right-begun m g) refl (seen-begun m g) in
    seen-at (λ i. max 0 (known_by i (lines_told course (begun m g) ls))) after.clients client is.each (omega (arith, low, is.there)) ∙ ap (λ (n : ℕ). Some n) (omega arith)
