-- The list of chosen batches only grows, and the header stays.
use Rattle.std.proofs.Common.{◌≡◌, ℕ, zero, suc, ◌+◌, ◌≤◌, ◌==◌, ◌++◌, List, [], ◌∷◌, length, refl, ap, ◌∙◌, arith, Option, Some, None, take}
use Rattle.smart_statements.specs.Batches.{Batch}
use Rattle.smart_service.specs.Services.{Meaning}
use Rattle.node_rules.specs.Nodes.{next_place, view_of}
use Rattle.node_rules.specs.Steps.{Outcome, leaving}
use Rattle.world_rules.specs.Clients.{heard_word}
use Rattle.world_rules.specs.Worlds.{Course, course_of, Host, World, posts, chosen_with, stepped, hearing, begun}
use Rattle.world_rules.specs.Plays.{line_played, rested, world_after}
use Rattle.world_laws.specs.Promises.{world_at}
use Rattle.client_quorum.specs.declared.client.Client.{Client}
use Rattle.client_quorum.specs.declared.client.Word.{Word}
use Rattle.client_quorum.specs.declared.client.Heard.{Heard}
use Rattle.world_rules.specs.declared.line.Line.{Line}
use Rattle.world_laws.proofs.Keeps.{ask_of, asked_by, by-posts, KeepsAll, keeps-world_after, signed_by, from_node, from_client, from_script, keeps-sends_all}
use Rattle.world_laws.proofs.Fronts.{IsFront, front-same, front-append}
use Rattle.world_rules.specs.declared.message.Sent.{Sent}
use Rattle.agreement_laws.proofs.Lists.{either}
use Rattle.world_rules.specs.declared.line.Header.{Header}

-- messages that leave change neither the list nor the header

-- a message that leaves keeps the list
pub chosen-posts : {S : Type 0} (w : World S) (s : Sent) → (posts w s).chosen ≡ w.chosen
chosen-posts {S = S} w s = by-posts (λ (v : World S). v.chosen ≡ w.chosen) w s (λ ending. refl) (λ free room. refl)

-- what stays of a world's header
abbrev header_of : {S : Type 0} → World S → Header
header_of w = record { view = w.view; period = w.period }

-- a message that leaves keeps the header
header-posts : {S : Type 0} (w : World S) (s : Sent) → header_of (posts w s) ≡ header_of w
header-posts {S = S} w s = by-posts (λ (v : World S). header_of v ≡ header_of w) w s (λ ending. refl) (λ free room. refl)

-- events

-- a list with the batch that waits at a node begins with what it began with
front-chosen_with : (front chosen : List Batch) (place : ℕ) (waiting : Option Batch) → take (length front) chosen ≡ front → take (length front) (chosen_with chosen place waiting) ≡ front
front-chosen_with front chosen place None is = is
front-chosen_with front chosen place (Some batch) is =
    either (λ (c : List Batch). take (length front) c ≡ front) (place == length chosen + 1) (chosen ++ batch ∷ []) chosen (front-append front chosen (batch ∷ []) is) is

-- a step adds the batch that waits
chosen-stepped : {S : Type 0} (course : Course S) (w : World S) (i : ℕ) (h : Host S) (o : Outcome S) → (stepped course w i h o).chosen ≡ chosen_with w.chosen (next_place o.node) o.node.waiting
unfolding stepped
chosen-stepped {S = S} course w i h o =
    keeps-sends_all (λ (v : World S). v.chosen ≡ chosen_with w.chosen (next_place o.node) o.node.waiting) h.node.id (view_of o.node) (λ v held is. chosen-posts v (from_node v h.node.id (view_of o.node) held) ∙ is) _
    (leaving o.node.firm o.node.held) refl

-- a step keeps the header
header-stepped : {S : Type 0} (course : Course S) (w : World S) (i : ℕ) (h : Host S) (o : Outcome S) → header_of (stepped course w i h o) ≡ header_of w
unfolding stepped
header-stepped {S = S} course w i h o =
    keeps-sends_all (λ (v : World S). header_of v ≡ header_of w) h.node.id (view_of o.node) (λ v held is. header-posts v (from_node v h.node.id (view_of o.node) held) ∙ is) _ (leaving o.node.firm o.node.held) refl

-- a client that hears keeps the list
chosen-hearing : {S : Type 0} (w : World S) (i : ℕ) (c : Client) (a : Word) (h : Heard) → (hearing w i c a h).chosen ≡ w.chosen
unfolding hearing
chosen-hearing w i c a h = refl

-- a client that hears keeps the header
header-hearing : {S : Type 0} (w : World S) (i : ℕ) (c : Client) (a : Word) (h : Heard) → header_of (hearing w i c a h) ≡ header_of w
unfolding hearing
header-hearing w i c a h = refl

-- each event keeps what the list began with
pub front-kept : {S : Type 0} (course : Course S) (front : List Batch) → KeepsAll course (λ w. take (length front) w.chosen ≡ front)
front-kept course front =
    record {
      kept = record {
        event = λ w i h event up at may is. rw chosen-stepped (front-chosen_with front w.chosen (next_place (course.step h.node event).node) (course.step h.node event).node.waiting is);
        disk = λ w i h up at is. is;
        crash = λ w i h left up at may is. is;
        hear = λ w i c x a on at has read is. rw chosen-hearing is;
        ask = λ w i c op at free few brief is. rw chosen-posts is;
        again = λ w i c q at waits is. rw chosen-posts is;
        learn = λ w i j c d at other is. is;
        inject = λ w x read fine is. rw chosen-posts is;
        declare = λ w faulty rogue ending how is. is;
        same = λ w mark told is. is;
        meet = λ w texts on is. is;
      };
      resume = λ w i h down at is. is;
      add = λ w i member on new is. is;
    }

-- each event keeps the header
header-kept : {S : Type 0} (course : Course S) (g : Header) → KeepsAll course (λ w. header_of w ≡ g)
header-kept course g =
    record {
      kept = record {
        event = λ w i h event up at may is. header-stepped course w i h (course.step h.node event) ∙ is;
        disk = λ w i h up at is. is;
        crash = λ w i h left up at may is. is;
        hear = λ w i c x a on at has read is. header-hearing w i c a (heard_word c a) ∙ is;
        ask = λ w i c op at free few brief is. header-posts (asked_by w i c op) (from_client c (ask_of c op)) ∙ is;
        again = λ w i c q at waits is. header-posts w (from_client c (signed_by c q)) ∙ is;
        learn = λ w i j c d at other is. is;
        inject = λ w x read fine is. header-posts w (from_script x) ∙ is;
        declare = λ w faulty rogue ending how is. is;
        same = λ w mark told is. is;
        meet = λ w texts on is. is;
      };
      resume = λ w i h down at is. is;
      add = λ w i member on new is. is;
    }

-- lines

-- the list only grows
pub chosen-grows : {S : Type 0} (m : Meaning S) (w : World S) (ls : List Line) → IsFront w.chosen (world_after (course_of m) w ls).chosen
chosen-grows {S = S} m w ls =
    keeps-world_after (course_of m) (λ (v : World S). take (length w.chosen) v.chosen ≡ w.chosen) (front-kept (course_of m) w.chosen) w ls (front-same w.chosen)

-- the header stays
header-stays : {S : Type 0} (m : Meaning S) (w : World S) (ls : List Line) → header_of (world_after (course_of m) w ls) ≡ header_of w
header-stays {S = S} m w ls = keeps-world_after (course_of m) (λ (v : World S). header_of v ≡ header_of w) (header-kept (course_of m) (header_of w)) w ls refl

-- so does its view
pub view-stays : {S : Type 0} (m : Meaning S) (w : World S) (ls : List Line) → (world_after (course_of m) w ls).view ≡ w.view
view-stays m w ls = ap (λ (g : Header). g.view) (header-stays m w ls)

-- and its period
pub period-stays : {S : Type 0} (m : Meaning S) (w : World S) (ls : List Line) → (world_after (course_of m) w ls).period ≡ w.period
period-stays m w ls = ap (λ (g : Header). g.period) (header-stays m w ls)

-- the world after more lines
pub world_after-append : {S : Type 0} (course : Course S) (w : World S) (ls more : List Line) → world_after course w (ls ++ more) ≡ world_after course (world_after course w ls) more
world_after-append course w [] more = refl
world_after-append course w (l ∷ ls) more = world_after-append course (rested (line_played course w l)) ls more

-- of two fronts of a script the longer has the longer list
pub chosen-grows-between : {S : Type 0} (m : Meaning S) (w : World S) (ls : List Line) (j k : ℕ) → j ≤ k
    → take (length (world_after (course_of m) w (take j ls)).chosen) (world_after (course_of m) w (take k ls)).chosen ≡ (world_after (course_of m) w (take j ls)).chosen
chosen-grows-between m w ls zero k le = chosen-grows m w (take k ls)
chosen-grows-between m w ls (suc j) zero le = absurd (omega (arith, le))
chosen-grows-between m w [] (suc j) (suc k) le = front-same w.chosen
chosen-grows-between m w (l ∷ ls) (suc j) (suc k) le = chosen-grows-between m (rested (line_played (course_of m) w l)) ls j k (omega (arith, le))

-- so after a group's begin: the list after j lines is a front of the list after k
pub list-grows : {S : Type 0} (m : Meaning S) (g : Header) (ls : List Line) (j k : ℕ) → j ≤ k
    → take (length (world_at m g ls j).chosen) (world_at m g ls k).chosen ≡ (world_at m g ls j).chosen
list-grows m g ls j k le = chosen-grows-between m (begun m g) ls j k le
