-- Clients keep their numbers.
use Rattle.std.proofs.Common.{◌≡◌, ℕ, zero, suc, ◌+◌, List, [], ◌∷◌, refl, ap, ◌∙◌, sym, Some}
use Rattle.node_rules.specs.Nodes.{view_of}
use Rattle.std.specs.Prelude.{map, slice_get, slice_set}
use Rattle.smart_base.specs.Views.{View}
use Rattle.smart_service.specs.Services.{Meaning}
use Rattle.node_rules.specs.Steps.{Outcome, leaving}
use Rattle.client_quorum.specs.Clients.{request_of, asking, learning}
use Rattle.client_quorum.specs.Readings.{after_word}
use Rattle.client_quorum.specs.declared.client.Client.{Client}
use Rattle.client_quorum.specs.declared.client.Word.{Word}
use Rattle.client_quorum.specs.declared.client.Word.TheVariants as words
use Rattle.client_quorum.specs.declared.client.Heard.{Heard}
use Rattle.client_quorum.specs.declared.client.Heard.TheVariants as hears
use Rattle.world_rules.specs.Clients.{heard_word}
use Rattle.world_rules.specs.Worlds.{Course, course_of, Host, World, posts, stepped, hearing, clients_from, begun}
use Rattle.world_rules.specs.Plays.{world_after}
use Rattle.world_rules.specs.declared.line.Line.{Line}
use Rattle.world_rules.specs.declared.message.Sent.{Sent}
use Rattle.world_laws.specs.Promises.{numbers_from}
use Rattle.world_laws.proofs.Keeps.{ask_of, asked_by, by-posts, KeepsAll, keeps-world_after, signed_by, from_node, from_client, from_script, keeps-sends_all}
use Rattle.agreement_laws.proofs.Lists.{some_equal}
use Rattle.world_rules.specs.declared.line.Header.{Header}

-- the numbers of clients
abbrev numbers : List Client → List ℕ
numbers clients = map (λ (c : Client). c.id) clients

-- another client of the same number
numbers-set : (clients : List Client) (i : ℕ) (c c' : Client) → slice_get clients i ≡ Some c → c'.id ≡ c.id → numbers (slice_set clients i c') ≡ numbers clients
numbers-set [] i c c' at same = absurd (cc)
numbers-set (d ∷ clients) zero c c' at same = ap (λ (k : ℕ). k ∷ numbers clients) (same ∙ sym (ap (λ (x : Client). x.id) (some_equal d c at)))
numbers-set (d ∷ clients) (suc i) c c' at same = ap (λ (ks : List ℕ). d.id ∷ ks) (numbers-set clients i c c' at same)

-- messages that leave
clients-posts : {S : Type 0} (w : World S) (s : Sent) → (posts w s).clients ≡ w.clients
clients-posts {S = S} w s = by-posts (λ (v : World S). v.clients ≡ w.clients) w s (λ ending. refl) (λ free room. refl)

clients-stepped : {S : Type 0} (course : Course S) (w : World S) (i : ℕ) (h : Host S) (o : Outcome S) → (stepped course w i h o).clients ≡ w.clients
unfolding stepped
clients-stepped {S = S} course w i h o =
    keeps-sends_all (λ (v : World S). v.clients ≡ w.clients) h.node.id (view_of o.node) (λ v held is. clients-posts v (from_node v h.node.id (view_of o.node) held) ∙ is) _ (leaving o.node.firm o.node.held) refl

-- who hears keeps its number
pub number-heard : (c : Client) (word : Word) (h : Heard) → (after_word c word h).id ≡ c.id
number-heard c (words.Reply a) (hears.Counted count need) = refl
number-heard c (words.Reply a) (hears.Accepted acceptance) = refl
number-heard c (words.Reply a) (hears.Viewed count need) = refl
number-heard c (words.Reply a) (hears.Moved number) = refl
number-heard c (words.Reply a) (hears.Ignored why) = refl
number-heard c (words.View i) (hears.Counted count need) = refl
number-heard c (words.View i) (hears.Accepted acceptance) = refl
number-heard c (words.View i) (hears.Viewed count need) = refl
number-heard c (words.View i) (hears.Moved number) = refl
number-heard c (words.View i) (hears.Ignored why) = refl

numbers-hearing : {S : Type 0} (w : World S) (i : ℕ) (c : Client) (a : Word) (h : Heard) → slice_get w.clients i ≡ Some c → numbers (hearing w i c a h).clients ≡ numbers w.clients
unfolding hearing
numbers-hearing w i c a h at = numbers-set w.clients i c (after_word c a h) at (number-heard c a h)

-- each event keeps the numbers
keeps-numbers : {S : Type 0} (course : Course S) (all : List ℕ) → KeepsAll course (λ w. numbers w.clients ≡ all)
keeps-numbers course all =
    record {
      kept = record {
        event = λ w i h event up at may is. ap numbers (clients-stepped course w i h (course.step h.node event)) ∙ is;
        disk = λ w i h up at is. is;
        crash = λ w i h left up at may is. is;
        hear = λ w i c x a on at has read is. numbers-hearing w i c a (heard_word c a) at ∙ is;
        ask = λ w i c op at free few brief is.
            ap numbers (clients-posts (asked_by w i c op) (from_client c (ask_of c op))) ∙ (numbers-set w.clients i c (asking c (request_of c op)) at refl ∙ is);
        again = λ w i c q at waits is. ap numbers (clients-posts w (from_client c (signed_by c q))) ∙ is;
        learn = λ w i j c d at other is. numbers-set w.clients i c (learning c d.seen) at refl ∙ is;
        inject = λ w x read fine is. ap numbers (clients-posts w (from_script x)) ∙ is;
        declare = λ w faulty rogue ending how is. is;
        same = λ w mark told is. is;
        meet = λ w texts on is. is;
      };
      resume = λ w i h down at is. is;
      add = λ w i member on new is. is;
    }

-- clients begin with the numbers
numbers-begun : (view : View) (count i : ℕ) → numbers (clients_from view count i) ≡ numbers_from count i
unfolding clients_from numbers_from
numbers-begun view zero i = refl
numbers-begun view (suc count) i = ap (λ (ks : List ℕ). i ∷ ks) (numbers-begun view count (i + 1))

-- after any lines of any script there is one client of each number
pub numbers-after : {S : Type 0} (m : Meaning S) (g : Header) (ls : List Line) → map (λ c. c.id) (world_after (course_of m) (begun m g) ls).clients ≡ numbers_from 1025 0
numbers-after {S = S} m g ls = keeps-world_after (course_of m) (λ (w : World S). numbers w.clients ≡ numbers_from 1025 0) (keeps-numbers (course_of m) (numbers_from 1025 0)) (begun m g) ls (numbers-begun g.view 1025 0)
