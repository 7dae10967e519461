-- The nodes of a play are those of the first members, and those that lines have added.
use Rattle.std.proofs.Common.{◌≡◌, ◌⊎◌, ⊎_elim, inl, inr, ℕ, ◌≤◌, ◌++◌, ◌∙◌, ◌==◌, true, false, List, [], ◌∷◌, refl, ap, sym, subst, Option, Some, None, is_some, take, append-nil, append_assoc, eqb-true, eq-eqb}
use Rattle.world_rules.specs.Premises.{too_many_in}
use Rattle.replica_rules.specs.Replicas.{views_after}
use Rattle.std.specs.Prelude.{insert, slice_get}
use Rattle.std.specs.List.{flat_map, list_any}
use Rattle.smart_base.specs.Views.{View, is_member}
use Rattle.smart_statements.specs.declared.entry.NodeEvent.{NodeEvent}
use Rattle.smart_service.specs.Services.{Meaning}
use Rattle.node_rules.specs.Nodes.{view_of, next_place}
use Rattle.node_rules.specs.Steps.{Outcome, step_of, leaving}
use Rattle.vote_book.specs.Books.{Among}
use Rattle.agreement_laws.proofs.Lists.{among_either, among_left, among_right, either, either_by}
use Rattle.client_quorum.specs.declared.client.Client.{Client}
use Rattle.client_quorum.specs.declared.client.Word.{Word}
use Rattle.client_quorum.specs.declared.client.Heard.{Heard}
use Rattle.world_rules.specs.Secrets.{group_secret}
use Rattle.world_rules.specs.Clients.{heard_word}
use Rattle.world_rules.specs.Worlds.{adds_node, adds_unless, begun, course_of, declares_faulty, declares_rogue, hearing, Host, host_after, host_crashed, host_index, host_resumed, hosts_below, is_gone, is_halted, is_name, is_rogue, new_host, parts_held, posts, snapshot_in, stepped, World, chosen_with}
use Rattle.world_rules.specs.Plays.{has_member, line_played, rested, world_after}
use Rattle.world_rules.specs.declared.line.Header.{Header}
use Rattle.world_rules.specs.declared.line.Line.{Line}
use Rattle.world_rules.specs.declared.line.Line.TheVariants as lines
use Rattle.world_rules.specs.declared.message.Ending.{Ending}
use Rattle.world_rules.specs.declared.message.Ending.TheVariants.{Premise}
use Rattle.world_rules.specs.declared.message.Premise.TheVariants.{TooManyFaulty}
use Rattle.world_rules.specs.declared.message.Sent.{Sent}
use Rattle.world_laws.specs.Promises.{AreAdded, world_at}
use Rattle.world_laws.proofs.ChosenKept.{hosts_ids}
use Rattle.world_laws.proofs.Declared.{is_over}
use Rattle.world_laws.proofs.Delivering.{named-step}
use Rattle.world_laws.proofs.Keeps.{after_call, ask_of, asked_by, by-posts-ended, calm-line_played, from_client, from_node, from_script, IsCalm, keeps-sends_all, keeps-world_after, KeepsAll, KeepsCalmLives, node_resumed, signed_by}
use Rattle.world_laws.proofs.Meeting.{met-goes_on, step-goes_on}
use Rattle.world_laws.proofs.Names.{any_insert, either_insert, has_position, here_insert, map_insert, named_there, names}
use Rattle.world_laws.proofs.Past.{world-more}
use Rattle.world_laws.proofs.Reopens.{from_named}
use Rattle.world_laws.proofs.Witnessing.{ids-set}

-- ---- lines that add no node

-- the names of the hosts stay, and so does the first view; what has ended stays so
record Named {S : Type 0} (ids : List ℕ) (view : View) (ending : Option Ending) (w : World S) : Type 0 where
  names_are : names w.hosts ≡ ids
  view_is : w.view ≡ view
  on : w.ending ≡ None → ending ≡ None

named-posts : {S : Type 0} (ids : List ℕ) (view : View) (ending : Option Ending) (w : World S) (s : Sent) → Named ids view ending w → Named ids view ending (posts w s)
named-posts {S = S} ids view ending w s is =
    by-posts-ended (λ (v : World S). Named ids view ending v) w s (λ other ended. record { names_are = is.names_are; view_is = is.view_is; on = λ none. absurd (ended none) })
    (λ free room. record { names_are = is.names_are; view_is = is.view_is; on = is.on })

named-stepped : {S : Type 0} (m : Meaning S) (ids : List ℕ) (view : View) (ending : Option Ending) (w : World S) (i : ℕ) (h : Host S) (event : NodeEvent) → slice_get w.hosts i ≡ Some h → Named ids view ending w
    → Named ids view ending (stepped (course_of m) w i h (step_of m h.node event))
unfolding stepped
named-stepped {S = S} m ids view ending w i h event at is =
    let o : Outcome S = step_of m h.node event in
    let h' : Host S = host_after (course_of m) h o in
    keeps-sends_all (λ (v : World S). Named ids view ending v) h.node.id (view_of o.node) (λ v held named. named-posts ids view ending v (from_node v h.node.id (view_of o.node) held) named) _ (leaving o.node.firm o.node.held)
    (record {
      names_are = ids-set w.hosts i h h' at (named-step m h.node event) ∙ is.names_are;
      view_is = is.view_is;
      on = λ on. is.on (step-goes_on w.view (chosen_with w.chosen (next_place o.node) o.node.waiting) w.faulty w.sent w.marked w.ending (flat_map snapshot_in o.fired) on);
    })

named-hearing : {S : Type 0} (ids : List ℕ) (view : View) (ending : Option Ending) (w : World S) (i : ℕ) (c : Client) (a : Word) (h : Heard) → Named ids view ending w → Named ids view ending (hearing w i c a h)
unfolding hearing
named-hearing ids view ending w i c a h is = record { names_are = is.names_are; view_is = is.view_is; on = is.on }

keeps-named : {S : Type 0} (m : Meaning S) (ids : List ℕ) (view : View) (ending : Option Ending) → KeepsCalmLives (course_of m) (Named {S = S} ids view ending)
keeps-named m ids view ending =
    record {
      calm = record {
        event = λ w i h event on up at may is. named-stepped m ids view ending w i h event at is;
        disk = λ w i h on up at is. record { names_are = ids-set w.hosts i h (after_call (course_of m) h) at refl ∙ is.names_are; view_is = is.view_is; on = is.on };
        hear = λ w i c x a on at has read is. named-hearing ids view ending w i c a (heard_word c a) is;
        ask = λ w i c op on at free few brief is.
            named-posts ids view ending (asked_by w i c op) (from_client c (ask_of c op)) (record { names_are = is.names_are; view_is = is.view_is; on = is.on });
        again = λ w i c q on at waits is. named-posts ids view ending w (from_client c (signed_by c q)) is;
        learn = λ w i j c d on at other is. record { names_are = is.names_are; view_is = is.view_is; on = is.on };
        inject = λ w x on read fine is. named-posts ids view ending w (from_script x) is;
        end = λ w other on is. record { names_are = is.names_are; view_is = is.view_is; on = λ none. absurd (ended other none) };
        mark = λ w s on at is. record { names_are = is.names_are; view_is = is.view_is; on = is.on };
        meet = λ w texts on is. record { names_are = is.names_are; view_is = is.view_is; on = λ goes. is.on (met-goes_on w.sent w.marked w.ending texts goes) };
        tell = λ w line aside is. record { names_are = is.names_are; view_is = is.view_is; on = is.on };
      };
      crash = λ w i h left on up at may is. record { names_are = ids-set w.hosts i h (host_crashed (course_of m) h left) at refl ∙ is.names_are; view_is = is.view_is; on = is.on };
      resume = λ w i h on down at is.
          record {
            names_are = ids-set w.hosts i h (host_resumed h (node_resumed (course_of m) w h)) at (from_named m group_secret h.node.id w.view w.period (parts_held h)) ∙ is.names_are;
            view_is = is.view_is;
            on = is.on;
          };
    }
  where
    ended : (other : Ending) → Some other ≡ None → ⊥
    ended other same = cc

-- ---- what lines have added

-- names among which a member is
abbrev IsNamed : List ℕ → ℕ → Type 0
IsNamed ids id = list_any (λ k. k == id) ids ≡ true

-- the same of names in place of hosts
record AddedNames (played : List Line) (view : View) (ending : Option Ending) (ids : List ℕ) : Type 0 where
  only : (id : ℕ) → IsNamed ids id → (is_member view id ≡ true) ⊎ Among (lines.Node id) played
  all : ending ≡ None → (id : ℕ) → is_name id ≡ true → Among (lines.Node id) played → IsNamed ids id

abbrev AddedIn : {S : Type 0} → List Line → World S → Type 0
AddedIn played w = AddedNames played w.view w.ending (names w.hosts)

-- a line that adds none of these
added-same : (played : List Line) (line : Line) (view : View) (ending later : Option Ending) (ids : List ℕ) → ((id : ℕ) → lines.Node id ≡ line → ⊥) → (later ≡ None → ending ≡ None)
    → AddedNames played view ending ids → AddedNames (played ++ line ∷ []) view later ids
added-same played line view ending later ids other on is = record {
  only = λ id there. ⊎_elim {C = (is_member view id ≡ true) ⊎ Among (lines.Node id) (played ++ line ∷ [])} (λ member. inl member) (λ before. inr (among_left (lines.Node id) played (line ∷ []) before)) (is.only id there);
  all = λ goes id name there.
      ⊎_elim {C = IsNamed ids id} (λ before. is.all (on goes) id name before) (λ last. ⊎_elim {C = IsNamed ids id} (λ same. absurd (other id same)) (λ never. absurd never) last)
      (among_either (lines.Node id) played (line ∷ []) there);
}

added-calm : {S : Type 0} (m : Meaning S) (played : List Line) (w : World S) (line : Line) → IsCalm line → AddedIn played w → AddedIn (played ++ line ∷ []) (line_played (course_of m) w line)
added-calm {S = S} m played w line calm is =
    let v : World S = line_played (course_of m) w line in
    let named : Named (names w.hosts) w.view w.ending v =
    calm-line_played (course_of m) (λ (x : World S). Named (names w.hosts) w.view w.ending x) (keeps-named m (names w.hosts) w.view w.ending) w line calm (record { names_are = refl; view_is = refl; on = λ on. on }) in
    subst (λ (ids : List ℕ). AddedNames (played ++ line ∷ []) v.view v.ending ids) (sym named.names_are)
    (subst (λ (view : View). AddedNames (played ++ line ∷ []) view v.ending (names w.hosts)) (sym named.view_is)
    (added-same played line w.view w.ending v.ending (names w.hosts) (λ id same. subst IsCalm (sym same) calm) named.on is))

-- a line that names a member that has a host, or is played behind the end
added-there : (played : List Line) (member : ℕ) (view : View) (ending : Option Ending) (ids : List ℕ) → (ending ≡ None → is_name member ≡ true → IsNamed ids member) → AddedNames played view ending ids
    → AddedNames (played ++ lines.Node member ∷ []) view ending ids
added-there played member view ending ids there is = record {
  only = λ id named.
      ⊎_elim {C = (is_member view id ≡ true) ⊎ Among (lines.Node id) (played ++ lines.Node member ∷ [])} (λ in_view. inl in_view)
      (λ before. inr (among_left (lines.Node id) played (lines.Node member ∷ []) before)) (is.only id named);
  all = λ goes id name among.
      ⊎_elim {C = IsNamed ids id} (λ before. is.all goes id name before)
      (λ last. ⊎_elim {C = IsNamed ids id} (λ same. subst (λ (k : ℕ). IsNamed ids k) (sym (one id member same)) (there goes (subst (λ (k : ℕ). is_name k ≡ true) (one id member same) name))) (λ never. absurd never) last)
      (among_either (lines.Node id) played (lines.Node member ∷ []) among);
}
  where
    one : (a b : ℕ) → lines.Node a ≡ lines.Node b → a ≡ b
    one a b same = cc

-- a line that adds a node
added-new : (played : List Line) (member : ℕ) (view : View) (ending : Option Ending) (ids : List ℕ) (i : ℕ) → AddedNames played view ending ids
    → AddedNames (played ++ lines.Node member ∷ []) view ending (insert ids i member)
added-new played member view ending ids i is =
    let line : Line = lines.Node member in
    record {
      only = λ id named.
          ⊎_elim {C = (is_member view id ≡ true) ⊎ Among (lines.Node id) (played ++ line ∷ [])}
          (λ own. inr (subst (λ (k : ℕ). Among (lines.Node k) (played ++ line ∷ [])) (eqb-true member id own) (among_right line played (line ∷ []) (inl refl))))
          (λ old. ⊎_elim {C = (is_member view id ≡ true) ⊎ Among (lines.Node id) (played ++ line ∷ [])} (λ in_view. inl in_view) (λ before. inr (among_left (lines.Node id) played (line ∷ []) before)) (is.only id old))
          (either_insert (λ k. k == id) ids i member named);
      all = λ goes id name among.
          ⊎_elim {C = IsNamed (insert ids i member) id} (λ before. any_insert (λ k. k == id) ids i member (is.all goes id name before))
          (λ last. ⊎_elim {C = IsNamed (insert ids i member) id} (λ same. here_insert (λ k. k == id) ids i member (eq-eqb member id (sym (one id member same)))) (λ never. absurd never) last)
          (among_either (lines.Node id) played (line ∷ []) among);
    }
  where
    one : (a b : ℕ) → lines.Node a ≡ lines.Node b → a ≡ b
    one a b same = cc

added-unless : {S : Type 0} (m : Meaning S) (played : List Line) (member : ℕ) (w : World S) (found : Option ℕ) → host_index w.hosts member ≡ found → AddedIn played w
    → AddedIn (played ++ lines.Node member ∷ []) (adds_unless (course_of m) member w found)
added-unless m played member w (Some i) at is =
    added-there played member w.view w.ending (names w.hosts) (λ goes name. named_there w.hosts member (ap (λ (found : Option ℕ). is_some found) at)) is
added-unless {S = S} m played member w None at is =
    either_by (λ (v : World S). AddedIn (played ++ lines.Node member ∷ []) v) (is_name member) _ w
    (λ name. subst (λ (ids : List ℕ). AddedNames (played ++ lines.Node member ∷ []) w.view w.ending ids) (sym (map_insert (λ (h : Host S). h.node.id) w.hosts (hosts_below w.hosts member) (new_host m w member)))
    (added-new played member w.view w.ending (names w.hosts) (hosts_below w.hosts member) is))
    (λ nameless. added-there played member w.view w.ending (names w.hosts) (λ goes name. absurd (both (sym name ∙ nameless))) is)
  where
    both : true ≡ false → ⊥
    both same = cc

added-node : {S : Type 0} (m : Meaning S) (played : List Line) (member : ℕ) (w : World S) → AddedIn played w → AddedIn (played ++ lines.Node member ∷ []) (adds_node (course_of m) member w)
unfolding adds_node
added-node {S = S} m played member w is =
    either_by (λ (v : World S). AddedIn (played ++ lines.Node member ∷ []) v) (is_halted w) w _
    (λ over. added-there played member w.view w.ending (names w.hosts) (λ goes name. absurd (is_over w.ending over goes)) is)
    (λ on. added-unless m played member w (host_index w.hosts member) refl is)

-- lines that declare

other_faulty : (id member : ℕ) → lines.Node id ≡ lines.Faulty member → ⊥
other_faulty id member same = cc

other_rogue : (id client : ℕ) → lines.Node id ≡ lines.Rogue client → ⊥
other_rogue id client same = cc

added-faulty : {S : Type 0} (played : List Line) (member : ℕ) (w : World S) → AddedIn played w → AddedIn (played ++ lines.Faulty member ∷ []) (declares_faulty member w)
unfolding declares_faulty
added-faulty {S = S} played member w is =
    let P : World S → Type 0 = λ v. AddedIn (played ++ lines.Faulty member ∷ []) v in
    let stays = added-same played (lines.Faulty member) w.view w.ending w.ending (names w.hosts) (λ id same. other_faulty id member same) (λ on. on) is in
    either P (is_halted w) w _ stays
    (either P (is_gone w member) w _ stays
    (either P (too_many_in (views_after w.view w.chosen) (w.faulty ++ member ∷ [])) _ _
    (added-same played (lines.Faulty member) w.view w.ending (Some (Premise TooManyFaulty)) (names w.hosts) (λ id same. other_faulty id member same) (λ on. absurd (ended on)) is) stays))
  where
    ended : Some (Premise TooManyFaulty) ≡ None → ⊥
    ended same = cc

added-rogue : {S : Type 0} (played : List Line) (client : ℕ) (w : World S) → AddedIn played w → AddedIn (played ++ lines.Rogue client ∷ []) (declares_rogue client w)
unfolding declares_rogue
added-rogue {S = S} played client w is =
    let P : World S → Type 0 = λ v. AddedIn (played ++ lines.Rogue client ∷ []) v in
    let stays = added-same played (lines.Rogue client) w.view w.ending w.ending (names w.hosts) (λ id same. other_rogue id client same) (λ on. on) is in
    either P (is_halted w) w _ stays (either P (is_rogue w client) w _ stays stays)

-- each line
added-line : {S : Type 0} (m : Meaning S) (played : List Line) (w : World S) (line : Line) → AddedIn played w → AddedIn (played ++ line ∷ []) (line_played (course_of m) w line)
unfolding line_played
added-line m played w (lines.Node member) is = added-node m played member w is
added-line m played w (lines.Faulty member) is = added-faulty played member w is
added-line m played w (lines.Rogue client) is = added-rogue played client w is
added-line m played w line is = added-calm m played w line tt is

-- all lines
added-after : {S : Type 0} (m : Meaning S) (played : List Line) (w : World S) (ls : List Line) → AddedIn played w → AddedIn (played ++ ls) (world_after (course_of m) w ls)
added-after m played w [] is = rw append-nil is
added-after {S = S} m played w (l ∷ ls) is =
    let v : World S = line_played (course_of m) w l in
    let here : AddedIn (played ++ l ∷ []) v = added-line m played w l is in
    subst (λ (all : List Line). AddedIn all (world_after (course_of m) w (l ∷ ls))) (append_assoc played (l ∷ []) ls) (added-after m (played ++ l ∷ []) (rested v) ls here)

-- the first members have nodes alone
added-begun : {S : Type 0} (m : Meaning S) (g : Header) → AddedIn [] (begun m g)
added-begun m g = record {
  only = λ id named. inl (subst (λ (ids : List ℕ). IsNamed ids id) (hosts_ids m g.view g.period g.view.members) named);
  all = λ goes id name there. absurd there;
}

-- after any lines of any script
pub nodes-added : {S : Type 0} (m : Meaning S) (g : Header) (ls : List Line) (k : ℕ) → AreAdded (take k ls) (world_at m g ls k)
nodes-added {S = S} m g ls k =
    let w : World S = world_at m g ls k in
    let is : AddedIn (take k ls) w = added-after m [] (begun m g) (take k ls) (added-begun m g) in
    record {
      only = λ id has. is.only id (named_there w.hosts id has);
      all = λ goes id name there. has_position (λ (h : Host S). h.node.id) w.hosts id (is.all goes id name there);
    }

-- ---- nodes stay

-- a name stays among those of the hosts
keeps-there : {S : Type 0} (m : Meaning S) (id : ℕ) → KeepsAll (course_of m) (λ w. IsNamed (names w.hosts) id)
keeps-there {S = S} m id =
    record {
      kept = record {
        event = λ w i h event up at may is. same w _ (named-stepped m (names w.hosts) w.view w.ending w i h event at (own w)) is;
        disk = λ w i h up at is. over (names w.hosts) _ (ids-set w.hosts i h (after_call (course_of m) h) at refl) is;
        crash = λ w i h left up at may is. over (names w.hosts) _ (ids-set w.hosts i h (host_crashed (course_of m) h left) at refl) is;
        hear = λ w i c x a on at has read is. same w _ (named-hearing (names w.hosts) w.view w.ending w i c a (heard_word c a) (own w)) is;
        ask = λ w i c op at free few brief is. same w _ (named-posts (names w.hosts) w.view w.ending (asked_by w i c op) (from_client c (ask_of c op)) (own_asked w i c op)) is;
        again = λ w i c q at waits is. same w _ (named-posts (names w.hosts) w.view w.ending w (from_client c (signed_by c q)) (own w)) is;
        learn = λ w i j c d at other is. is;
        inject = λ w x read fine is. same w _ (named-posts (names w.hosts) w.view w.ending w (from_script x) (own w)) is;
        declare = λ w faulty rogue ending how is. is;
        same = λ w mark told is. is;
        meet = λ w texts on is. is;
      };
      resume = λ w i h down at is.
          over (names w.hosts) _ (ids-set w.hosts i h (host_resumed h (node_resumed (course_of m) w h)) at (from_named m group_secret h.node.id w.view w.period (parts_held h))) is;
      add = λ w i new on new_one is.
          over (insert (names w.hosts) i new) _ (map_insert (λ (h : Host S). h.node.id) w.hosts i (new_host m w new)) (any_insert (λ k. k == id) (names w.hosts) i new is);
    }
  where
    own : (w : World S) → Named (names w.hosts) w.view w.ending w
    own w = record { names_are = refl; view_is = refl; on = λ on. on }

    own_asked : (w : World S) (i : ℕ) (c : Client) (op : List ℕ) → Named (names w.hosts) w.view w.ending (asked_by w i c op)
    own_asked w i c op = record { names_are = refl; view_is = refl; on = λ on. on }

    over : (ids later : List ℕ) → later ≡ ids → IsNamed ids id → IsNamed later id
    over ids later are is = subst (λ (ns : List ℕ). IsNamed ns id) (sym are) is

    same : (w v : World S) → Named (names w.hosts) w.view w.ending v → IsNamed (names w.hosts) id → IsNamed (names v.hosts) id
    same w v named is = over (names w.hosts) (names v.hosts) named.names_are is

-- of two fronts of a script, each number with a node after the shorter has one after the longer
pub nodes-grow : {S : Type 0} (m : Meaning S) (g : Header) (ls : List Line) (j k : ℕ) → j ≤ k → (id : ℕ) → has_member (world_at m g ls j) id ≡ true → has_member (world_at m g ls k) id ≡ true
nodes-grow {S = S} m g ls j k le id has =
    let w : World S = world_at m g ls j in
    let later = world-more m g ls j k le in
    subst (λ (v : World S). has_member v id ≡ true) (sym later.1)
    (let v : World S = world_after (course_of m) w later.0 in
    has_position (λ (h : Host S). h.node.id) v.hosts id
    (keeps-world_after (course_of m) (λ (x : World S). IsNamed (names x.hosts) id) (keeps-there m id) w later.0 (named_there w.hosts id has)))
