-- Faulty and rogue are those that lines declare.
use Rattle.std.proofs.Common.{◌∙◌, ◌≡◌, ℕ, ◌++◌, true, false, List, [], ◌∷◌, refl, sym, Option, Some, None, is_some, inl, inr, ◌⊎◌, subst, append-nil, append_assoc, take}
use Rattle.replica_rules.specs.Replicas.{views_after}
use Rattle.node_rules.specs.Nodes.{view_of, next_place}
use Rattle.std.specs.List.{flat_map}
use Rattle.smart_service.specs.Services.{Meaning}
use Rattle.node_rules.specs.Steps.{Outcome, leaving}
use Rattle.vote_book.specs.Books.{Among}
use Rattle.client_quorum.specs.declared.client.Client.{Client}
use Rattle.client_quorum.specs.declared.client.Word.{Word}
use Rattle.client_quorum.specs.declared.client.Heard.{Heard}
use Rattle.world_rules.specs.Clients.{heard_word}
use Rattle.world_rules.specs.Premises.{is_among, too_many_in}
use Rattle.world_rules.specs.Worlds.{Course, course_of, Host, World, posts, snapshot_in, stepped, hearing, is_gone, is_rogue, declares_faulty, declares_rogue, begun, is_halted, adds_unless, adds_node, host_index, is_name, new_host, with_new, chosen_with}
use Rattle.world_rules.specs.Plays.{line_played, rested, world_after}
use Rattle.world_rules.specs.declared.line.Line.{Line}
use Rattle.world_rules.specs.declared.line.Line.TheVariants as lines
use Rattle.world_rules.specs.declared.message.Ending.{Ending}
use Rattle.world_rules.specs.declared.message.Ending.TheVariants.{Premise}
use Rattle.world_rules.specs.declared.message.Premise.TheVariants.{TooManyFaulty}
use Rattle.world_rules.specs.declared.message.Sent.{Sent}
use Rattle.world_laws.specs.Promises.{AreDeclared, world_at}
use Rattle.world_laws.proofs.Meeting.{met-goes_on, step-goes_on}
use Rattle.world_laws.proofs.Keeps.{IsCalm, KeepsCalmLives, calm-line_played, ask_of, asked_by, by-posts-ended, signed_by, from_node, from_client, from_script, keeps-sends_all}
use Rattle.agreement_laws.proofs.Lists.{among_left, among_right, among_either, among_number, number_among, either, either_by}
use Rattle.world_rules.specs.declared.line.Header.{Header}

-- numbers

-- the last among more
among-last : (ids : List ℕ) (last : ℕ) → is_among (ids ++ last ∷ []) last ≡ true
among-last ids last = among_number (ids ++ last ∷ []) last (among_right last ids (last ∷ []) (inl refl))

-- those before it stay among them
among-more : (ids : List ℕ) (last id : ℕ) → is_among ids id ≡ true → is_among (ids ++ last ∷ []) id ≡ true
among-more ids last id is = among_number (ids ++ last ∷ []) id (among_left id ids (last ∷ []) (number_among ids id is))

-- and none else is
among-parts : (ids : List ℕ) (last id : ℕ) → is_among (ids ++ last ∷ []) id ≡ true → (is_among ids id ≡ true) ⊎ (id ≡ last)
among-parts ids last id is =
    elim (among_either id ids (last ∷ []) (number_among (ids ++ last ∷ []) id is)) [
      | inl before ↦ inl (among_number ids id before)
      | inr end ↦ elim end [ inl same ↦ inr same | inr none ↦ absurd none ]
    ]

-- one more line

-- a line that declares none of these
declared-same : (declares : ℕ → Line) (played : List Line) (line : Line) (ending ending' : Option Ending) (ids : List ℕ) → ((id : ℕ) → declares id ≡ line → ⊥) → (ending' ≡ None → ending ≡ None)
    → AreDeclared declares played ending ids → AreDeclared declares (played ++ line ∷ []) ending' ids
declared-same declares played line ending ending' ids none on is =
    record {
      only = λ id among. among_left (declares id) played (line ∷ []) (is.only id among);
      all = λ now id there. elim (among_either (declares id) played (line ∷ []) there) [
        | inl before ↦ is.all (on now) id before
        | inr last ↦ elim last [ inl same ↦ absurd (none id same) | inr never ↦ absurd never ]
      ];
    }

-- a line where the play has ended
declared-over : (declares : ℕ → Line) (played : List Line) (line : Line) (ending ending' : Option Ending) (ids : List ℕ) → (ending' ≡ None → ⊥) → AreDeclared declares played ending ids
    → AreDeclared declares (played ++ line ∷ []) ending' ids
declared-over declares played line ending ending' ids over is =
    record { only = λ id among. among_left (declares id) played (line ∷ []) (is.only id among); all = λ now id there. absurd (over now) }

-- a line that declares one that is declared
declared-again : (declares : ℕ → Line) → ((a b : ℕ) → declares a ≡ declares b → a ≡ b) → (played : List Line) (known : ℕ) (ending : Option Ending) (ids : List ℕ) → is_among ids known ≡ true
    → AreDeclared declares played ending ids → AreDeclared declares (played ++ declares known ∷ []) ending ids
declared-again declares one played known ending ids among is =
    record {
      only = λ id there. among_left (declares id) played (declares known ∷ []) (is.only id there);
      all = λ on id there. elim (among_either (declares id) played (declares known ∷ []) there) [
        | inl before ↦ is.all on id before
        | inr last ↦ elim last [ inl same ↦ subst (λ (x : ℕ). is_among ids x ≡ true) (sym (one id known same)) among | inr never ↦ absurd never ]
      ];
    }

-- a line that declares a new one
declared-new : (declares : ℕ → Line) → ((a b : ℕ) → declares a ≡ declares b → a ≡ b) → (played : List Line) (new : ℕ) (ending : Option Ending) (ids : List ℕ) → AreDeclared declares played ending ids
    → AreDeclared declares (played ++ declares new ∷ []) ending (ids ++ new ∷ [])
declared-new declares one played new ending ids is =
    record {
      only = λ id among. elim (among-parts ids new id among) [
        | inl before ↦ among_left (declares id) played (declares new ∷ []) (is.only id before)
        | inr same ↦ subst (λ (x : ℕ). Among (declares x) (played ++ declares new ∷ [])) (sym same) (among_right (declares new) played (declares new ∷ []) (inl refl))
      ];
      all = λ on id there. elim (among_either (declares id) played (declares new ∷ []) there) [
        | inl before ↦ among-more ids new id (is.all on id before)
        | inr last ↦ elim last [ inl same ↦ subst (λ (x : ℕ). is_among (ids ++ new ∷ []) x ≡ true) (sym (one id new same)) (among-last ids new) | inr never ↦ absurd never ]
      ];
    }

-- worlds

abbrev FaultyIs : {S : Type 0} → List Line → World S → Type 0
FaultyIs played w = AreDeclared (λ member. lines.Faulty member) played w.ending w.faulty

abbrev RogueIs : {S : Type 0} → List Line → World S → Type 0
RogueIs played w = AreDeclared (λ client. lines.Rogue client) played w.ending w.rogue

-- the faulty and the rogue in a world are those that lines have declared
abbrev Declared : {S : Type 0} → List Line → World S → Type 0
Declared played w = FaultyIs played w × RogueIs played w

-- lines that declare nobody and add no node

-- who is faulty and who is rogue stays, and what has ended stays so
record Stays {S : Type 0} (faulty rogue : List ℕ) (ending : Option Ending) (w : World S) : Type 0 where
  faulty_is : w.faulty ≡ faulty
  rogue_is : w.rogue ≡ rogue
  on : w.ending ≡ None → ending ≡ None

stays-posts : {S : Type 0} (faulty rogue : List ℕ) (ending : Option Ending) (w : World S) (s : Sent) → Stays faulty rogue ending w → Stays faulty rogue ending (posts w s)
stays-posts {S = S} faulty rogue ending w s is =
    by-posts-ended (λ (v : World S). Stays faulty rogue ending v) w s (λ other ended. record { faulty_is = is.faulty_is; rogue_is = is.rogue_is; on = λ none. absurd (ended none) })
    (λ free room. record { faulty_is = is.faulty_is; rogue_is = is.rogue_is; on = is.on })

stays-stepped : {S : Type 0} (course : Course S) (faulty rogue : List ℕ) (ending : Option Ending) (w : World S) (i : ℕ) (h : Host S) (o : Outcome S) → Stays faulty rogue ending w
    → Stays faulty rogue ending (stepped course w i h o)
unfolding stepped
stays-stepped {S = S} course faulty rogue ending w i h o is =
    keeps-sends_all (λ (v : World S). Stays faulty rogue ending v) h.node.id (view_of o.node) (λ v held stays. stays-posts faulty rogue ending v (from_node v h.node.id (view_of o.node) held) stays) _ (leaving o.node.firm o.node.held)
    (record { faulty_is = is.faulty_is; rogue_is = is.rogue_is; on = λ on. is.on (step-goes_on w.view (chosen_with w.chosen (next_place o.node) o.node.waiting) w.faulty w.sent w.marked w.ending (flat_map snapshot_in o.fired) on) })

stays-hearing : {S : Type 0} (faulty rogue : List ℕ) (ending : Option Ending) (w : World S) (i : ℕ) (c : Client) (a : Word) (h : Heard) → Stays faulty rogue ending w
    → Stays faulty rogue ending (hearing w i c a h)
unfolding hearing
stays-hearing faulty rogue ending w i c a h is = record { faulty_is = is.faulty_is; rogue_is = is.rogue_is; on = is.on }

keeps-stays : {S : Type 0} (course : Course S) (faulty rogue : List ℕ) (ending : Option Ending) → KeepsCalmLives course (Stays {S = S} faulty rogue ending)
keeps-stays course faulty rogue ending =
    record {
      calm = record {
        event = λ w i h event on up at may is. stays-stepped course faulty rogue ending w i h (course.step h.node event) is;
        disk = λ w i h on up at is. record { faulty_is = is.faulty_is; rogue_is = is.rogue_is; on = is.on };
        hear = λ w i c x a on at has read is. stays-hearing faulty rogue ending w i c a (heard_word c a) is;
        ask = λ w i c op on at free few brief is.
            stays-posts faulty rogue ending (asked_by w i c op) (from_client c (ask_of c op)) (record { faulty_is = is.faulty_is; rogue_is = is.rogue_is; on = is.on });
        again = λ w i c q on at waits is. stays-posts faulty rogue ending w (from_client c (signed_by c q)) is;
        learn = λ w i j c d on at other is. record { faulty_is = is.faulty_is; rogue_is = is.rogue_is; on = is.on };
        inject = λ w x on read fine is. stays-posts faulty rogue ending w (from_script x) is;
        end = λ w other on is. record { faulty_is = is.faulty_is; rogue_is = is.rogue_is; on = λ none. absurd (ended other none) };
        mark = λ w s on at is. record { faulty_is = is.faulty_is; rogue_is = is.rogue_is; on = is.on };
        meet = λ w texts on is. record { faulty_is = is.faulty_is; rogue_is = is.rogue_is; on = λ goes. is.on (met-goes_on w.sent w.marked w.ending texts goes) };
        tell = λ w line aside is. record { faulty_is = is.faulty_is; rogue_is = is.rogue_is; on = is.on };
      };
      crash = λ w i h left on up at may is. record { faulty_is = is.faulty_is; rogue_is = is.rogue_is; on = is.on };
      resume = λ w i h on down at is. record { faulty_is = is.faulty_is; rogue_is = is.rogue_is; on = is.on };
    }
  where
    ended : (other : Ending) → Some other ≡ None → ⊥
    ended other same = cc

declared-calm : {S : Type 0} (course : Course S) (played : List Line) (w : World S) (line : Line) → IsCalm line → Declared played w → Declared (played ++ line ∷ []) (line_played course w line)
declared-calm {S = S} course played w line calm is =
    let v : World S = line_played course w line in
    let stays : Stays w.faulty w.rogue w.ending v =
    calm-line_played course (λ (x : World S). Stays w.faulty w.rogue w.ending x) (keeps-stays course w.faulty w.rogue w.ending) w line calm (record { faulty_is = refl; rogue_is = refl; on = λ on. on }) in (
      subst (λ (ids : List ℕ). AreDeclared (λ member. lines.Faulty member) (played ++ line ∷ []) v.ending ids) (sym stays.faulty_is)
          (declared-same (λ member. lines.Faulty member) played line w.ending v.ending w.faulty (λ id same. subst IsCalm (sym same) calm) stays.on is.0),
      subst (λ (ids : List ℕ). AreDeclared (λ client. lines.Rogue client) (played ++ line ∷ []) v.ending ids) (sym stays.rogue_is)
          (declared-same (λ client. lines.Rogue client) played line w.ending v.ending w.rogue (λ id same. subst IsCalm (sym same) calm) stays.on is.1),
    )

-- lines that declare

one_faulty : (a b : ℕ) → lines.Faulty a ≡ lines.Faulty b → a ≡ b
one_faulty a b same = cc

one_rogue : (a b : ℕ) → lines.Rogue a ≡ lines.Rogue b → a ≡ b
one_rogue a b same = cc

apart : (a b : ℕ) → lines.Faulty a ≡ lines.Rogue b → ⊥
apart a b same = cc

-- what is there is something
pub is_over : (ending : Option Ending) → is_some ending ≡ true → ending ≡ None → ⊥
is_over None over none = absurd (cc)
is_over (Some e) over none = absurd (cc)

declared-faulty : {S : Type 0} (played : List Line) (w : World S) (member : ℕ) → Declared played w → Declared (played ++ lines.Faulty member ∷ []) (declares_faulty member w)
unfolding declares_faulty
declared-faulty {S = S} played w member is =
    let line : Line = lines.Faulty member in
    let more : List Line = played ++ line ∷ [] in
    let faulty : List ℕ = w.faulty ++ member ∷ [] in
    let other : RogueIs more w = declared-same (λ client. lines.Rogue client) played line w.ending w.ending w.rogue (λ id same. apart member id (sym same)) (λ on. on) is.1 in
    either_by (λ (v : World S). Declared more v) (is_halted w) w _
    (λ over. (declared-over (λ id. lines.Faulty id) played line w.ending w.ending w.faulty (is_over w.ending over) is.0, other))
    (λ on. either_by (λ (v : World S). Declared more v) (is_gone w member) w _ (λ gone. (declared-again (λ id. lines.Faulty id) one_faulty played member w.ending w.faulty gone is.0, other))
    (λ fresh. either (λ (v : World S). Declared more v) (too_many_in (views_after w.view w.chosen) faulty) _ _ (
      declared-over (λ id. lines.Faulty id) played line w.ending (Some (Premise TooManyFaulty)) w.faulty ended is.0,
      declared-over (λ id. lines.Rogue id) played line w.ending (Some (Premise TooManyFaulty)) w.rogue ended is.1,
    )
    (declared-new (λ id. lines.Faulty id) one_faulty played member w.ending w.faulty is.0, other)))
  where
    ended : Some (Premise TooManyFaulty) ≡ None → ⊥
    ended same = cc

declared-rogue : {S : Type 0} (played : List Line) (w : World S) (client : ℕ) → Declared played w → Declared (played ++ lines.Rogue client ∷ []) (declares_rogue client w)
unfolding declares_rogue
declared-rogue {S = S} played w client is =
    let line : Line = lines.Rogue client in
    let more : List Line = played ++ line ∷ [] in
    let other : FaultyIs more w = declared-same (λ member. lines.Faulty member) played line w.ending w.ending w.faulty (λ id same. apart id client same) (λ on. on) is.0 in
    either_by (λ (v : World S). Declared more v) (is_halted w) w _
    (λ over. (other, declared-over (λ id. lines.Rogue id) played line w.ending w.ending w.rogue (is_over w.ending over) is.1))
    (λ on. either_by (λ (v : World S). Declared more v) (is_rogue w client) w _ (λ known. (other, declared-again (λ id. lines.Rogue id) one_rogue played client w.ending w.rogue known is.1))
    (λ fresh. (other, declared-new (λ id. lines.Rogue id) one_rogue played client w.ending w.rogue is.1)))

-- a line that adds a node
apart_node : (a b : ℕ) → lines.Faulty a ≡ lines.Node b → ⊥
apart_node a b same = cc

apart_rogue : (a b : ℕ) → lines.Rogue a ≡ lines.Node b → ⊥
apart_rogue a b same = cc

declared-node : {S : Type 0} (course : Course S) (played : List Line) (w : World S) (member : ℕ) → Declared played w → Declared (played ++ lines.Node member ∷ []) (adds_node course member w)
unfolding adds_node
declared-node {S = S} course played w member is =
    let more : List Line = played ++ lines.Node member ∷ [] in
    let same : (v : World S) → v.faulty ≡ w.faulty → v.rogue ≡ w.rogue → v.ending ≡ w.ending → Declared more v =
    λ v faulty rogue ending. (
      subst (λ (ids : List ℕ). AreDeclared (λ id. lines.Faulty id) more v.ending ids) (sym faulty)
          (declared-same (λ id. lines.Faulty id) played (lines.Node member) w.ending v.ending w.faulty (λ id one. apart_node id member one) (λ on. sym ending ∙ on) is.0),
      subst (λ (ids : List ℕ). AreDeclared (λ id. lines.Rogue id) more v.ending ids) (sym rogue)
          (declared-same (λ id. lines.Rogue id) played (lines.Node member) w.ending v.ending w.rogue (λ id one. apart_rogue id member one) (λ on. sym ending ∙ on) is.1),
    ) in
    either (λ (v : World S). Declared more v) (is_halted w) w _ (same w refl refl refl) (unless (host_index w.hosts member) same)
  where
    unless : (found : Option ℕ) → ((v : World S) → v.faulty ≡ w.faulty → v.rogue ≡ w.rogue → v.ending ≡ w.ending → Declared (played ++ lines.Node member ∷ []) v)
        → Declared (played ++ lines.Node member ∷ []) (adds_unless course member w found)
    unless (Some i) same = same w refl refl refl
    unless None same = either (λ (v : World S). Declared (played ++ lines.Node member ∷ []) v) (is_name member) _ w
        (same (record w { hosts = with_new w.hosts (new_host course.meaning w member) }) refl refl refl) (same w refl refl refl)

-- each line
declared-line : {S : Type 0} (course : Course S) (played : List Line) (w : World S) (line : Line) → Declared played w → Declared (played ++ line ∷ []) (line_played course w line)
unfolding line_played
declared-line course played w (lines.Faulty member) is = declared-faulty played w member is
declared-line course played w (lines.Rogue client) is = declared-rogue played w client is
declared-line course played w (lines.Node member) is = declared-node course played w member is
declared-line course played w line is = declared-calm course played w line tt is

-- all lines
declared-after : {S : Type 0} (course : Course S) (played : List Line) (w : World S) (ls : List Line) → Declared played w → Declared (played ++ ls) (world_after course w ls)
declared-after course played w [] is = rw append-nil is
declared-after {S = S} course played w (l ∷ ls) is =
    let v : World S = line_played course w l in
    let here : Declared (played ++ l ∷ []) v = declared-line course played w l is in
    subst (λ (all : List Line). Declared all (world_after course w (l ∷ ls))) (append_assoc played (l ∷ []) ls) (declared-after course (played ++ l ∷ []) (rested v) ls here)

-- after any lines of any script
declared-begun : {S : Type 0} (m : Meaning S) (g : Header) (ls : List Line) → Declared ls (world_after (course_of m) (begun m g) ls)
declared-begun m g ls =
    declared-after (course_of m) [] (begun m g) ls (record { only = λ id among. absurd (none id among); all = λ on id there. absurd there }, record { only = λ id among. absurd (none id among); all = λ on id there. absurd there })
  where
    none : (id : ℕ) → false ≡ true → ⊥
    none id same = cc

pub faulty-declared : {S : Type 0} (m : Meaning S) (g : Header) (ls : List Line) (k : ℕ) → AreDeclared (λ member. lines.Faulty member) (take k ls) (world_at m g ls k).ending (world_at m g ls k).faulty
faulty-declared m g ls k = (declared-begun m g (take k ls)).0

pub rogue-declared : {S : Type 0} (m : Meaning S) (g : Header) (ls : List Line) (k : ℕ) → AreDeclared (λ client. lines.Rogue client) (take k ls) (world_at m g ls k).ending (world_at m g ls k).rogue
rogue-declared m g ls k = (declared-begun m g (take k ls)).1
