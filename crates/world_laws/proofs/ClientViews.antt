-- Clients know views of the list alone.
use Rattle.std.proofs.Common.{◌≡◌, ℕ, zero, suc, ◌+◌, ◌<◌, ◌≤◌, ◌++◌, ◌==◌, ◌&&◌, Bool, true, false, cond, List, [], ◌∷◌, length, filter, refl, ap, sym, subst, arith, eqb-true, inl, inr, Option, Some, None, nat_lt}
use Rattle.std.proofs.lemmas.Bool.{ltb-true}
use Rattle.std.specs.Prelude.{slice_get, slice_set}
use Rattle.smart_base.specs.Lists.{Each}
use Rattle.smart_base.specs.Views.{View, present}
use Rattle.smart_base.proofs.SameLists.{and_true, same_list-equal}
use Rattle.smart_base.proofs.ViewFacts.{each-weaken}
use Rattle.smart_statements.specs.Forms.{SignedBy}
use Rattle.smart_statements.specs.Batches.{Batch}
use Rattle.smart_statements.specs.declared.statement.Answer.{Answer}
use Rattle.smart_messages.specs.Regencies.{view_infos}
use Rattle.smart_messages.specs.declared.regency.ViewInfo.{ViewInfo}
use Rattle.smart_messages.specs.declared.message.Message.TheVariants.{ViewTold}
use Rattle.smart_service.specs.Services.{Meaning}
use Rattle.vote_book.specs.Books.{Among}
use Rattle.replica_rules.specs.Replicas.{views_after}
use Rattle.replica_rules.specs.Seals.{is_verified}
use Rattle.node_rules.specs.Nodes.{next_place, view_of}
use Rattle.node_rules.specs.Steps.{Outcome, step_of, leaving}
use Rattle.client_quorum.specs.Clients.{request_of, asking, learning, after_heard}
use Rattle.client_quorum.specs.Readings.{after_word}
use Rattle.client_quorum.specs.ViewWords as tellings
use Rattle.client_quorum.specs.ViewWords.{same_view, has_stated, stating, with_info, why_untold, told_unless, after_told}
use Rattle.client_quorum.specs.declared.client.Client.{Client}
use Rattle.client_quorum.specs.declared.client.Heard.{Heard}
use Rattle.client_quorum.specs.declared.client.Heard.TheVariants as hears
use Rattle.client_quorum.specs.declared.client.Ignored.{Ignored}
use Rattle.client_quorum.specs.declared.client.Word.{Word}
use Rattle.client_quorum.specs.declared.client.Word.TheVariants as words
use Rattle.world_rules.specs.Secrets.{group_secret}
use Rattle.world_rules.specs.Premises.{is_among}
use Rattle.world_rules.specs.Clients.{heard, told, heard_word}
use Rattle.world_rules.specs.Worlds.{Course, course_of, Host, World, posts, chosen_with, stepped, hearing, clients_from, begun}
use Rattle.world_rules.specs.declared.line.Header.{Header}
use Rattle.world_rules.specs.declared.message.Content.TheVariants as contents
use Rattle.world_rules.specs.declared.message.Sent.{Sent}
use Rattle.world_laws.specs.Promises.{IsHeader, KnowsViews}
use Rattle.agreement_laws.proofs.Lists.{each_among, each_end, or_true}
use Rattle.world_laws.proofs.Keeps.{HasMessage, ReadsSent, ask_of, asked_by, has_end, by-posts, keeps-sends_all, KeepsAll, signed_by, from_node, from_client, from_script, message_of, word_has}
use Rattle.world_laws.proofs.Lists.{each_set, each_get}
use Rattle.world_laws.proofs.ListViews.{first_there}
use Rattle.world_laws.proofs.InForce.{among_in_force}
use Rattle.world_laws.proofs.Given.{IsNoted, ClientNotes, noted_with, tagged_where_counted, notes_told}
use Rattle.world_laws.proofs.Taken.{some_correct}
use Rattle.world_laws.proofs.Chosen.{ChosenRight, chosen_there, right-witnessed}
use Rattle.world_laws.proofs.ChosenKept.{right-reads, chosen-kept, chosen-begun, event-knows}
use Rattle.world_laws.proofs.Snapshots.{IsRestorable}
use Rattle.world_laws.proofs.ToldViews.{ToldViews, keeps-told_views, stated_among, told_there, told_views-begun, views_of}
use Rattle.replica_laws.proofs.Small.{IsBrief}

-- a statement of a view that was sent
abbrev pub WasTold : List Sent → SignedBy ViewInfo → Type 0
WasTold sent i = HasMessage sent (ViewTold i)

-- clients know views of the list alone, and the statements of views that they keep were sent
pub record ClientsKnow {S : Type 0} (w : World S) : Type 0 where
  pub views : Each (KnowsViews w.view (views_of w)) w.clients
  pub notes : Each (ClientNotes (WasTold w.sent)) w.clients

-- what is known of statements of views: few members of each view of the list are faulty, and what others state is one of these views
pub record Trusted {S : Type 0} (w : World S) : Type 0 where
  pub reads : ReadsSent w
  pub few : w.ending ≡ None → (v : View) → Among v (views_of w) → length (filter (is_among w.faulty) v.members) ≤ v.f
  pub right : (i : SignedBy ViewInfo) → WasTold w.sent i → is_verified view_infos group_secret i ≡ true → is_among w.faulty i.signer ≡ false → Among i.statement.view (views_of w)

-- ---- one client

-- views that a test finds alike
view_equal : (a b : View) → same_view a b ≡ true → a ≡ b
view_equal a b is =
    let third = and_true ((a.number == b.number) && (a.start == b.start) && (a.f == b.f)) _ is in
    let second = and_true ((a.number == b.number) && (a.start == b.start)) (a.f == b.f) third.0 in
    let first = and_true (a.number == b.number) (a.start == b.start) second.0 in
    let number : a.number ≡ b.number = eqb-true a.number b.number first.0 in
    let start : a.start ≡ b.start = eqb-true a.start b.start first.1 in
    let f : a.f ≡ b.f = eqb-true a.f b.f second.1 in
    let members : a.members ≡ b.members = same_list-equal (λ x y. x == y) eqb-true a.members b.members third.1 in
    λ i. record { number = number i; start = start i; f = f i; members = members i }

-- the present one of some views is among them
present_there : (first : View) (later : List View) → Among (present (first ∷ later)) (first ∷ later)
present_there first [] = inl refl
present_there first (v ∷ vs) = inr (present_there v vs)

-- so a client's present view is one of the list
pub present_known : (first : View) (views : List View) (c : Client) → KnowsViews first views c → Among (present c.views) views
present_known first views c is =
    let all : Each (λ v. Among v views) (first ∷ is.later) = subst (λ (vs : List View). Each (λ v. Among v views) vs) is.begins is.each in
    subst (λ (vs : List View). Among (present vs) views) (sym is.begins) (each_among (λ v. Among v views) (first ∷ is.later) (present (first ∷ is.later)) all (present_there first is.later))

-- a kept statement of a member, of a view
record Stated (infos : List (SignedBy ViewInfo)) (Told : SignedBy ViewInfo → Type 0) (view : View) (member : ℕ) : Type 0 where
  info : SignedBy ViewInfo
  noted : IsNoted Told info
  signer : info.signer ≡ member
  view_is : info.statement.view ≡ view

stated_by : (infos : List (SignedBy ViewInfo)) (Told : SignedBy ViewInfo → Type 0) (view : View) (member : ℕ) → Each (IsNoted Told) infos → has_stated infos view member ≡ true → Stated infos Told view member
stated_by [] Told view member each is = absurd (cc)
stated_by (k ∷ ks) Told view member each is =
    elim (or_true ((k.signer == member) && same_view k.statement.view view) (has_stated ks view member) is) [
      | inl here ↦
          let parts = and_true (k.signer == member) (same_view k.statement.view view) here in
          record { info = k; noted = each.0; signer = eqb-true k.signer member parts.0; view_is = view_equal k.statement.view view parts.1 }
      | inr later ↦ let rest = stated_by ks Told view member each.1 later in record { info = rest.info; noted = rest.noted; signer = rest.signer; view_is = rest.view_is }
    ]

-- a view that more members of the present one have stated than may be faulty is one of the list
stated_right : {S : Type 0} (w : World S) (v view : View) (infos : List (SignedBy ViewInfo)) → Trusted w → w.ending ≡ None → Among v (views_of w) → Each (IsNoted (WasTold w.sent)) infos → nat_lt v.f (stating v infos view) ≡ true
    → Among view (views_of w)
stated_right w v view infos known on there noted more =
    let enough : v.f < stating v infos view = ltb-true v.f (stating v infos view) more in
    let found = some_correct (has_stated infos view) (is_among w.faulty) v.members (omega (arith, enough, known.few on v there)) in
    let by = stated_by infos (WasTold w.sent) view found.member noted found.passes in
    subst (λ (u : View). Among u (views_of w)) by.view_is
    (known.right by.info by.noted.given by.noted.tagged (subst (λ (k : ℕ). is_among w.faulty k ≡ false) (sym by.signer) found.correct))

-- a reply changes no view that a client knows
knows_heard : (first : View) (views : List View) (c : Client) (a : SignedBy Answer) (h : Heard) → KnowsViews first views c → KnowsViews first views (after_heard c a h)
knows_heard first views c a (hears.Counted count need) is = record { later = is.later; begins = is.begins; each = is.each }
knows_heard first views c a (hears.Accepted acc) is = record { later = is.later; begins = is.begins; each = is.each }
knows_heard first views c a (hears.Viewed count need) is = is
knows_heard first views c a (hears.Moved number) is = is
knows_heard first views c a (hears.Ignored why) is = is

notes_heard : (Told : SignedBy ViewInfo → Type 0) (c : Client) (a : SignedBy Answer) (h : Heard) → ClientNotes Told c → ClientNotes Told (after_heard c a h)
notes_heard Told c a (hears.Counted count need) notes = notes
notes_heard Told c a (hears.Accepted acc) notes = notes
notes_heard Told c a (hears.Viewed count need) notes = notes
notes_heard Told c a (hears.Moved number) notes = notes
notes_heard Told c a (hears.Ignored why) notes = notes

-- a statement of a view that was sent brings none that is not of the list
knows_told : {S : Type 0} (w : World S) (c : Client) (i : SignedBy ViewInfo) → Trusted w → w.ending ≡ None → WasTold w.sent i → ClientNotes (WasTold w.sent) c → KnowsViews w.view (views_of w) c → KnowsViews w.view (views_of w) (after_told c i (told c i))
unfolding tellings.told
knows_told w c i known on was notes is = by (why_untold group_secret c i) refl
  where
    by_count : IsNoted (WasTold w.sent) i → (t : Bool) (have need : ℕ) → nat_lt (present c.views).f (stating (present c.views) (with_info c.infos i) i.statement.view) ≡ t
        → KnowsViews w.view (views_of w) (after_told c i (cond t (hears.Moved i.statement.view.number) (hears.Viewed have need)))
    by_count own true have need enough = record {
      later = is.later ++ i.statement.view ∷ [];
      begins = ap (λ (vs : List View). vs ++ i.statement.view ∷ []) is.begins;
      each = each_end (λ v. Among v (views_of w)) c.views i.statement.view is.each
          (stated_right w (present c.views) i.statement.view (with_info c.infos i) known on (present_known w.view (views_of w) c is) (noted_with (WasTold w.sent) c.infos i notes own) enough);
    }
    by_count own false have need few = record { later = is.later; begins = is.begins; each = is.each }

    by : (why : Option Ignored) → why_untold group_secret c i ≡ why → KnowsViews w.view (views_of w) (after_told c i (told_unless c i why))
    by (Some why) fine = is
    by None fine = by_count (record { given = was; tagged = tagged_where_counted c i fine }) (nat_lt (present c.views).f (stating (present c.views) (with_info c.infos i) i.statement.view)) _ _ refl

-- what a member's word makes of it
knows_word : {S : Type 0} (w : World S) (c : Client) (word : Word) → Trusted w → w.ending ≡ None → HasMessage w.sent (message_of word) → ClientNotes (WasTold w.sent) c → KnowsViews w.view (views_of w) c
    → KnowsViews w.view (views_of w) (after_word c word (heard_word c word))
knows_word w c (words.Reply a) known on was notes is = knows_heard w.view (views_of w) c a (heard c a) is
knows_word w c (words.View i) known on was notes is = knows_told w c i known on was notes is

notes_word : (sent : List Sent) (c : Client) (word : Word) → HasMessage sent (message_of word) → ClientNotes (WasTold sent) c → ClientNotes (WasTold sent) (after_word c word (heard_word c word))
notes_word sent c (words.Reply a) was notes = notes_heard (WasTold sent) c a (heard c a) notes
notes_word sent c (words.View i) was notes = notes_told (WasTold sent) c i was notes

-- ---- worlds

-- more is sent
know-posts : {S : Type 0} (w : World S) (s : Sent) → ClientsKnow w → ClientsKnow (posts w s)
know-posts {S = S} w s is =
    by-posts (λ (v : World S). ClientsKnow v) w s (λ ending. record { views = is.views; notes = is.notes })
    (λ free room. record {
      views = is.views;
      notes = each-weaken (ClientNotes (WasTold w.sent)) (ClientNotes (WasTold (w.sent ++ s ∷ [])))
          (λ c notes. each-weaken (IsNoted (WasTold w.sent)) (IsNoted (WasTold (w.sent ++ s ∷ [])))
          (λ i k. record { given = has_end w.sent s (contents.Message (ViewTold i)) k.given; tagged = k.tagged }) c.infos notes) w.clients is.notes;
    })

-- where a batch is chosen, the views of the list are known still
knows-more : (first : View) (views more : List View) → ((v : View) → Among v views → Among v more) → (c : Client) → KnowsViews first views c → KnowsViews first more c
knows-more first views more grows c is = record { later = is.later; begins = is.begins; each = each-weaken (λ v. Among v views) (λ v. Among v more) grows c.views is.each }

know-stepped : {S : Type 0} (course : Course S) (w : World S) (i : ℕ) (h : Host S) (o : Outcome S) → ClientsKnow w → ClientsKnow (stepped course w i h o)
unfolding stepped
know-stepped {S = S} course w i h o is =
    let more : List Batch = chosen_with w.chosen (next_place o.node) o.node.waiting in
    keeps-sends_all ClientsKnow h.node.id (view_of o.node) (λ v held known. know-posts v (from_node v h.node.id (view_of o.node) held) known) _ (leaving o.node.firm o.node.held)
    (record {
      views = each-weaken (KnowsViews w.view (views_after w.view w.chosen)) (KnowsViews w.view (views_after w.view more)) (knows-more w.view (views_after w.view w.chosen) (views_after w.view more) (chosen_there w.view w.chosen (next_place o.node) o.node.waiting)) w.clients is.views;
      notes = is.notes;
    })

-- a client in place of another that knows the same views and keeps the same statements
know-set : {S : Type 0} (w : World S) (i : ℕ) (c : Client) → KnowsViews w.view (views_of w) c → ClientNotes (WasTold w.sent) c → ClientsKnow w → ClientsKnow (record w { clients = slice_set w.clients i c })
know-set w i c knows notes is = record {
  views = each_set (KnowsViews w.view (views_of w)) w.clients i c is.views knows;
  notes = each_set (ClientNotes (WasTold w.sent)) w.clients i c is.notes notes;
}

views-at : {S : Type 0} (w : World S) (i : ℕ) (c : Client) → slice_get w.clients i ≡ Some c → ClientsKnow w → KnowsViews w.view (views_of w) c
views-at w i c at is = each_get (KnowsViews w.view (views_of w)) w.clients i c is.views at

notes-at : {S : Type 0} (w : World S) (i : ℕ) (c : Client) → slice_get w.clients i ≡ Some c → ClientsKnow w → ClientNotes (WasTold w.sent) c
notes-at w i c at is = each_get (ClientNotes (WasTold w.sent)) w.clients i c is.notes at

-- the view of a client that asks is one of the list
pub view-at : {S : Type 0} (w : World S) (i : ℕ) (c : Client) → slice_get w.clients i ≡ Some c → ClientsKnow w → Among (present c.views) (views_of w)
view-at w i c at is = present_known w.view (views_of w) c (views-at w i c at is)

-- a client hears a word
know-hearing : {S : Type 0} (w : World S) (i : ℕ) (c : Client) (word : Word) → slice_get w.clients i ≡ Some c → Trusted w → w.ending ≡ None → HasMessage w.sent (message_of word) → ClientsKnow w → ClientsKnow (hearing w i c word (heard_word c word))
unfolding hearing
know-hearing w i c word at known on was is =
    let next = know-set w i (after_word c word (heard_word c word)) (knows_word w c word known on was (notes-at w i c at is) (views-at w i c at is)) (notes_word w.sent c word was (notes-at w i c at is)) is in
    record { views = next.views; notes = next.notes }

know-asked : {S : Type 0} (w : World S) (i : ℕ) (c : Client) (op : List ℕ) → slice_get w.clients i ≡ Some c → ClientsKnow w → ClientsKnow (asked_by w i c op)
know-asked w i c op at is =
    let views = views-at w i c at is in
    know-set w i (asking c (request_of c op)) (record { later = views.later; begins = views.begins; each = views.each }) (notes-at w i c at is) is

know-learned : {S : Type 0} (w : World S) (i : ℕ) (c : Client) (place : ℕ) → slice_get w.clients i ≡ Some c → ClientsKnow w → ClientsKnow (record w { clients = slice_set w.clients i (learning c place) })
know-learned w i c place at is =
    let views = views-at w i c at is in
    know-set w i (learning c place) (record { later = views.later; begins = views.begins; each = views.each }) (notes-at w i c at is) is

-- where that is known of statements of views, each event keeps what clients know
pub keeps-know : {S : Type 0} (m : Meaning S) (P : World S → Type 0) → ((w : World S) → P w → Trusted w) → KeepsAll (course_of m) P → KeepsAll (course_of m) (λ w. P w × ClientsKnow w)
keeps-know m P trusted k =
    record {
      kept = record {
        event = λ w i h event up at may p. (k.kept.event w i h event up at may p.0, know-stepped (course_of m) w i h (step_of m h.node event) p.1);
        disk = λ w i h up at p. (k.kept.disk w i h up at p.0, record { views = p.1.views; notes = p.1.notes });
        crash = λ w i h left up at may p. (k.kept.crash w i h left up at may p.0, record { views = p.1.views; notes = p.1.notes });
        hear = λ w i c x word on at has read p. (
          k.kept.hear w i c x word on at has read p.0,
          (let known = trusted w p.0 in know-hearing w i c word at known on (word_has w x word known.reads has read) p.1),
        );
        ask = λ w i c op at free few brief p. (k.kept.ask w i c op at free few brief p.0, know-posts (asked_by w i c op) (from_client c (ask_of c op)) (know-asked w i c op at p.1));
        again = λ w i c q at waits p. (k.kept.again w i c q at waits p.0, know-posts w (from_client c (signed_by c q)) p.1);
        learn = λ w i j c d at other p. (k.kept.learn w i j c d at other p.0, know-learned w i c d.seen at p.1);
        inject = λ w x read fine p. (k.kept.inject w x read fine p.0, know-posts w (from_script x) p.1);
        declare = λ w faulty rogue ending how p. (k.kept.declare w faulty rogue ending how p.0, record { views = p.1.views; notes = p.1.notes });
        same = λ w mark told p. (k.kept.same w mark told p.0, record { views = p.1.views; notes = p.1.notes });
        meet = λ w texts on p. (k.kept.meet w texts on p.0, record { views = p.1.views; notes = p.1.notes });
      };
      resume = λ w i h down at p. (k.resume w i h down at p.0, record { views = p.1.views; notes = p.1.notes });
      add = λ w i member on new p. (k.add w i member on new p.0, record { views = p.1.views; notes = p.1.notes });
    }

-- clients that have not asked know the first view
fresh_know : (view : View) (count i : ℕ) → Each (KnowsViews view (views_after view [])) (clients_from view count i)
unfolding clients_from
fresh_know view zero i = tt
fresh_know view (suc count) i = (record { later = []; begins = refl; each = (first_there view [], tt) }, fresh_know view count (i + 1))

fresh_notes : (sent : List Sent) (view : View) (count i : ℕ) → Each (ClientNotes (WasTold sent)) (clients_from view count i)
unfolding clients_from
fresh_notes sent view zero i = tt
fresh_notes sent view (suc count) i = (tt, fresh_notes sent view count (i + 1))

pub know-begun : {S : Type 0} (m : Meaning S) (g : Header) → ClientsKnow (begun m g)
know-begun m g = record { views = fresh_know g.view 1025 0; notes = fresh_notes [] g.view 1025 0 }

-- ---- the list is right, nodes tell views of the list alone, and clients know views of the list alone

abbrev pub RightTold : {S : Type 0} → Meaning S → World S → Type 0
RightTold m w = ChosenRight m w × ToldViews w

abbrev pub RightKnown : {S : Type 0} → Meaning S → World S → Type 0
RightKnown m w = RightTold m w × ClientsKnow w

-- what is known there of statements of views
pub right-trusted : {S : Type 0} (m : Meaning S) (w : World S) → RightTold m w → Trusted w
right-trusted m w is =
    let right : ChosenRight m w = is.0 in
    record {
      reads = right-reads m w right;
      few = λ on v there. (right-witnessed m w right.1 v (among_in_force w v right.1.few on right.1.of there)).few.few;
      right = λ i has tagged correct. stated_among w i right.0.0.fit.sent right.0.1 is.1 correct (told_there w.sent i has tagged);
    }

pub right-known : {S : Type 0} (m : Meaning S) → IsBrief m → IsRestorable m → KeepsAll (course_of m) (RightKnown m)
right-known m brief service =
    keeps-know m (RightTold m) (right-trusted m)
    (keeps-told_views m (ChosenRight m) (λ w i h event up at may r. event-knows m service w i h event up at may r) (chosen-kept m brief service))

pub known-begun : {S : Type 0} (m : Meaning S) (g : Header) → IsHeader g → RightKnown m (begun m g)
known-begun m g is = ((chosen-begun m g is, told_views-begun m g), know-begun m g)
